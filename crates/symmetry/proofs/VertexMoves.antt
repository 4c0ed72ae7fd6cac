-- Whatever is gathered at a vertex is the same in two meshes of one shape; so is its valence, and whether it lies on the boundary.
use mathlib.Core.Path.{◌≡◌, refl, sym, ◌∙◌}
use mathlib.Core.Bool.{true, cond}
use Prim.Native.Nat.{ℕ, ◌<◌}
use lib.Dec.{eqb}
use Rattle.finite.specs.Fold.{gather}
use Rattle.finite.proofs.FoldLaws.{Monoid, fold-ext, fold-reindex}
use Rattle.finite.proofs.AnyAll.{any-monoid}
use Rattle.finite.proofs.Counting.{sum-monoid}
use Rattle.finite.proofs.PermutationLaws.{to_same}
use Rattle.mesh.specs.HalfEdge.{boundary}
use Rattle.mesh.specs.Fan.{any_at, valence, on_boundary, fan}
use Rattle.mesh.proofs.BoundaryLaws.{boundary-entering}
use Rattle.symmetry.proofs.Sense.{Sense, same, reversed, leaving}
use Rattle.symmetry.proofs.Iso.{Sound, Iso, leaving-boundary}

-- a boundary half-edge leaves a vertex exactly when one leaves it with the faces turned the other way
leaves : (z : Sense) {n v : ℕ} {at : ℕ → ℕ} → Sound at n v → (p : ℕ) → fan at n p ≡ true
    → any_at at n p (λ c. boundary at n (leaving z c)) ≡ on_boundary at n p
unfolding on_boundary
leaves same s p f = refl
leaves reversed {at = at} s p f = sym (boundary-entering at s.whole s.simple p f)

module _ {z : Sense} {n v : ℕ} {at at' : ℕ → ℕ} (s : Sound at n v) (i : Iso z at at' n v) where
  abbrev φ : ℕ → ℕ
  φ = i.corners.to

  abbrev π : ℕ → ℕ
  π = i.vertex_map.to

  -- vertex p of the mesh is at corner c exactly when it is at the same corner of the other
  same-vertex : (c p : ℕ) → c < n → p < v → eqb (at' (φ c)) (π p) ≡ eqb (at c) p
  same-vertex c p l b = rw (i.at-moves c l) (to_same i.vertex_map (at c) p (s.named c l) b)

  pub gather-moves : {A : Type 0} {e : A} {op : A → A → A} → Monoid e op → (f f' : ℕ → A) → ((c : ℕ) → c < n → f' (φ c) ≡ f c)
      → (p : ℕ) → p < v → gather e op at' f' n (π p) ≡ gather e op at f n p
  gather-moves {e = e} {op = op} o f f' equal p b =
      sym (fold-reindex o i.corners (λ c. cond (eqb (at' c) (π p)) (f' c) e))
      ∙ fold-ext e op n (λ c l. rw (same-vertex c p l b, equal c l))

  pub valence-moves : (p : ℕ) → p < v → valence at' n (π p) ≡ valence at n p
  unfolding valence
  valence-moves = gather-moves sum-monoid (λ c. 1) (λ c. 1) (λ c l. refl)

  pub on-boundary-moves : (p : ℕ) → p < v → fan at n p ≡ true → on_boundary at' n (π p) ≡ on_boundary at n p
  unfolding on_boundary
  on-boundary-moves p b f = gather-moves any-monoid (λ c. boundary at n (leaving z c)) (boundary at' n) (leaving-boundary s i) p b ∙ leaves z s p f
