-- Circulating about a vertex goes through the same corners in two meshes of one shape, in the same order or in the opposite one:
-- the corners at a vertex form one fan in both or in neither.
--
--   step z at n     the step here that is a step `around` in the other mesh
use mathlib.Core.Path.{◌≡◌, refl, ap, ◌∙◌}
use mathlib.Core.Bool.{false, ◌||◌}
use mathlib.Core.Logic.{inl, inr, ⊎_elim}
use Prim.Native.Nat.{ℕ, zero, suc, ◌<◌}
use native.Mathlib.Omega.{arith}
use Rattle.finite.proofs.FoldLaws.{fold-ext}
use Rattle.finite.proofs.AnyAll.{any-monoid, all-monoid}
use Rattle.limits.specs.Limits.{no_twin}
use Rattle.mesh.specs.HalfEdge.{twin}
use Rattle.mesh.specs.Fan.{valence, around, iterate, fan_by, fan}
use Rattle.mesh.proofs.CornerLaws.{not_none}
use Rattle.mesh.proofs.CirculationLaws.{around-in, around-out, back_none, back_some, back-out}
use Rattle.mesh.specs.Tables.{Corners}
use Rattle.mesh.specs.Circulation.{back_around}
use Rattle.symmetry.proofs.Sense.{Sense, same, reversed, entering, origin, entering-below, origin-below}
use Rattle.symmetry.proofs.Iso.{Sound, Iso, Moved, moved_same, entering-moves, twin-moves}
use Rattle.symmetry.proofs.VertexMoves.{gather-moves, valence-moves}
use Rattle.symmetry.proofs.FanBack.{fan-back}

abbrev pub step : Sense → (ℕ → ℕ) → ℕ → ℕ → ℕ
step same at n = around (twin at n) n
step reversed at n = back_around (twin at n) n

-- it leads to where the twin of the half-edge that enters the corner there comes from, or to none
module _ {n : ℕ} (at : ℕ → ℕ) (w : Corners n) where
  step-some : (z : Sense) (c : ℕ) → c < n → twin at n (entering z c) < n → step z at n c ≡ origin z (twin at n (entering z c))
  step-some same c l t = around-in (twin at n) n c l
  step-some reversed c l t = back_some (twin at n) n c l (not_none w _ t)

  step-none : (z : Sense) (c : ℕ) → c < n → twin at n (entering z c) ≡ no_twin → step z at n c ≡ no_twin
  step-none same c l e = around-in (twin at n) n c l ∙ e
  step-none reversed c l e = back_none (twin at n) n c l e

  step-out : (z : Sense) → step z at n no_twin ≡ no_twin
  step-out same = around-out (twin at n) n no_twin (omega arith)
  step-out reversed = back-out (twin at n) n no_twin (omega arith)

same-fans : (z : Sense) {n v : ℕ} {at : ℕ → ℕ} → Sound at n v → (p : ℕ) → fan_by (step z at n) at n p ≡ fan at n p
unfolding fan
same-fans same s p = refl
same-fans reversed {at = at} s p = fan-back at s.whole s.simple p

module _ {z : Sense} {n v : ℕ} {at at' : ℕ → ℕ} (s : Sound at n v) (i : Iso z at at' n v) where
  abbrev φ : ℕ → ℕ
  φ = i.corners.to

  abbrev step' : ℕ → ℕ
  step' = around (twin at' n) n

  corner-step : (e : ℕ) → e < n → Moved φ n (step z at n e) (step' (φ e))
  corner-step e l =
      let b = entering-below z s.whole e l in
      let there : step' (φ e) ≡ twin at' n (φ (origin z (entering z e))) =
      around-in (twin at' n) n (φ e) (i.corners.to_below e l) ∙ ap (twin at' n) (entering-moves s i e l) in
      ⊎_elim
      (λ w.
      let here = step-some at s.whole z e l w.0 in
      inl (rw here (origin-below z s.whole _ w.0), rw here (there ∙ w.1)))
      (λ w. inr (step-none at s.whole z e l w.0, there ∙ w.1))
      (twin-moves s i (entering z e) b)

  step-moves : (e e' : ℕ) → Moved φ n e e' → Moved φ n (step z at n e) (step' e')
  step-moves e e' m =
      ⊎_elim
      (λ w. rw w.1 (corner-step e w.0))
      (λ w. inr (rw w.0 (step-out at s.whole z), rw w.1 (step-out at' s.whole same)))
      m

  pub iterate-moves : (k c : ℕ) → c < n → Moved φ n (iterate (step z at n) k c) (iterate step' k (φ c))
  unfolding iterate
  iterate-moves zero c l = inl (l, refl)
  iterate-moves (suc k) c l = step-moves (iterate (step z at n) k c) (iterate step' k (φ c)) (iterate-moves k c l)

  pub fan-moves : (p : ℕ) → p < v → fan at' n (i.vertex_map.to p) ≡ fan at n p
  unfolding fan fan_by
  fan-moves p b =
      gather-moves s i any-monoid _ _ (λ c l.
      gather-moves s i all-monoid _ _ (λ d k.
      rw (valence-moves s i p b)
      (fold-ext false ◌||◌ (valence at n p) (λ j _.
      moved_same s.whole i.corners (iterate (step z at n) j c) (iterate step' j (φ c)) (iterate-moves j c l) d k))) p b) p b
      ∙ same-fans z s p
