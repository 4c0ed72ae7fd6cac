-- The control points of a mesh do not depend on the way its faces are turned, but for their names: the masks do not tell one side of a vertex
-- from the other, and in the reversed sense the points along and before a corner change places.
--
--   kind_in z k       the point of kind k at a corner is there the point of this kind
--   point_in z m      point m of a patch, i + 4j, is there point `point_in z m`: j + 4i in the reversed sense
--   edge_in z S c d   the edge point on half-edge c, with twin d, near the end at which c starts there
use mathlib.Core.Path.{◌≡◌, refl, sym, ap, ◌∙◌}
use mathlib.Core.Bool.{cond}
use Prim.Native.Nat.{ℕ, ◌+◌, ◌*◌, ◌/◌, ◌%◌, ◌<◌}
use native.Mathlib.Omega.{arith}
use lib.IntN.{ℤ, pos, ◌+ℤ◌, ◌*ℤ◌, +ℤ_comm}
use Rattle.integer.proofs.Difference.{int, nat, ◌⊕◌, ◌⊛◌, prove-eq}
use Rattle.finite.specs.Filled.{list_below}
use Rattle.finite.proofs.FilledLaws.{agree}
use Rattle.corner.specs.Corner.{turn, next, across, prev}
use Rattle.mesh.specs.HalfEdge.{twin, boundary}
use Rattle.mesh.proofs.CornerLaws.{turn-mod}
use Rattle.symmetry.proofs.Sense.{Sense, same, reversed, turned, ahead, behind, leaving, entering, origin, target, Opposite}
use Rattle.mask.specs.Mask.{Fraction, inner_mask, edge_mask, boundary_edge_mask}
use Rattle.patch.specs.Point.{View, x, weight, sharp, sharp_term, ring_term, inner_point, edge_point, along_point, before_point}
use Rattle.patch.specs.Point.{Kind, corner, along, before, inner, point}
use Rattle.patch.specs.Patch.{owner, kind}

-- ---- the masks
inner-mask-swap : (w : ℕ) (p e e' f : ℤ) → inner_mask w p e' e f ≡ inner_mask w p e e' f
unfolding inner_mask
inner-mask-swap w p e e' f =
    ap (λ (t : ℤ). record { num = t; den = w + 5 })
    (prove-eq (nat w ⊛ int p ⊕ nat 2 ⊛ int e' ⊕ nat 2 ⊛ int e ⊕ int f) (nat w ⊛ int p ⊕ nat 2 ⊛ int e ⊕ nat 2 ⊛ int e' ⊕ int f) (omega arith))

edge-mask-swap : (w : ℕ) (p q a a' c c' : ℤ) → edge_mask w p q a' a c' c ≡ edge_mask w p q a a' c c'
unfolding edge_mask
edge-mask-swap w p q a a' c c' =
    ap (λ (t : ℤ). record { num = t; den = 2 * w + 10 })
    (prove-eq (nat (2 * w) ⊛ int p ⊕ nat 4 ⊛ int q ⊕ nat 2 ⊛ int a' ⊕ nat 2 ⊛ int a ⊕ int c' ⊕ int c)
    (nat (2 * w) ⊛ int p ⊕ nat 4 ⊛ int q ⊕ nat 2 ⊛ int a ⊕ nat 2 ⊛ int a' ⊕ int c ⊕ int c') (omega arith))

-- ---- which point is which
abbrev pub kind_in : Sense → Kind → Kind
kind_in same k = k
kind_in reversed corner = corner
kind_in reversed along = before
kind_in reversed before = along
kind_in reversed inner = inner

abbrev pub point_in : Sense → ℕ → ℕ
point_in same m = m
point_in reversed m = m / 4 + 4 * (m % 4)

pub corner-in : (z : Sense) → kind_in z corner ≡ corner
corner-in same = refl
corner-in reversed = refl

pub inner-in : (z : Sense) → kind_in z inner ≡ inner
inner-in same = refl
inner-in reversed = refl

pub kind-in : (z : Sense) (m : ℕ) → m < 16 → kind_in z (kind m) ≡ kind (point_in z m)
unfolding kind list_below
kind-in same m l = refl
kind-in reversed m l = agree (λ m. kind_in reversed (kind m)) (λ m. kind (m / 4 + 4 * (m % 4))) 16 refl m l

pub owner-in : (z : Sense) (m c : ℕ) → m < 16 → turned z (owner m) c ≡ turn (owner (point_in z m)) c
unfolding owner list_below
owner-in same m c l = refl
owner-in reversed m c l =
    sym (turn-mod (3 * owner m) c)
    ∙ ap (λ (i : ℕ). turn i c) (agree (λ m. 3 * owner m % 4) (λ m. owner (m / 4 + 4 * (m % 4))) 16 refl m l)

-- ---- what a corner adds to the sums, and its points
abbrev pub edge_in : Sense → View → ℕ → ℕ → Fraction
edge_in same S c d = edge_point S c d
edge_in reversed S c d = edge_point S d c

module _ (S : View) (c : ℕ) where
  abbrev n : ℕ
  n = S.shape.n

  abbrev at : ℕ → ℕ
  at = S.shape.at

  pub sharp-term-in : (z : Sense)
      → cond (sharp S.shape (leaving z c)) (x S (ahead z c)) (pos 0) +ℤ cond (boundary at n (entering z c)) (x S (behind z c)) (pos 0) ≡ sharp_term S c
  unfolding sharp
  sharp-term-in same = refl
  sharp-term-in reversed = +ℤ_comm (cond (boundary at n (prev c)) (x S (prev c)) (pos 0)) (cond (boundary at n c) (x S (next c)) (pos 0))

  pub ring-term-in : (z : Sense) → pos 2 *ℤ x S (ahead z c) +ℤ pos 2 *ℤ x S (behind z c) +ℤ x S (across c) ≡ ring_term S c
  ring-term-in same = refl
  ring-term-in reversed = ap (λ (t : ℤ). t +ℤ x S (across c)) (+ℤ_comm (pos 2 *ℤ x S (prev c)) (pos 2 *ℤ x S (next c)))

  pub inner-point-in : (z : Sense) → inner_mask (weight S.shape c) (x S c) (x S (ahead z c)) (x S (behind z c)) (x S (across c)) ≡ inner_point S c
  unfolding inner_point
  inner-point-in same = refl
  inner-point-in reversed = inner-mask-swap (weight S.shape c) (x S c) (x S (next c)) (x S (prev c)) (x S (across c))

  pub along-in : (z : Sense)
      → cond (sharp S.shape (leaving z c)) (boundary_edge_mask (x S c) (x S (ahead z c))) (edge_in z S (leaving z c) (twin at n (leaving z c)))
      ≡ point S c (kind_in z along)
  unfolding point along_point before_point
  along-in same = refl
  along-in reversed = refl

  pub before-in : (z : Sense)
      → cond (sharp S.shape (entering z c)) (boundary_edge_mask (x S c) (x S (behind z c))) (edge_in z S (twin at n (entering z c)) (entering z c))
      ≡ point S c (kind_in z before)
  unfolding point along_point before_point
  before-in same = refl
  before-in reversed = refl

-- two half-edges of one edge: where c leaves a vertex there, d enters it
module _ (S : View) (c d : ℕ) (o : Opposite same S.shape.at c d) where
  weight-opposite : weight S.shape (next c) ≡ weight S.shape d
  unfolding weight
  weight-opposite = rw o.0

  pub edge_in_lem : (z : Sense)
      → edge_mask (weight S.shape (origin z c)) (x S (origin z c)) (x S (target z c)) (x S (behind z (origin z c)))
      (x S (across (origin z d))) (x S (across (origin z c))) (x S (behind z (origin z d)))
      ≡ edge_in z S c d
  unfolding edge_point
  edge_in_lem same = refl
  edge_in_lem reversed =
      let two : (e : ℕ) → x S (next (next e)) ≡ x S (across e) = λ e. ap (x S) (let t : next (next e) ≡ across e = omega arith in t) in
      let three : (e : ℕ) → x S (across (next e)) ≡ x S (prev e) = λ e. ap (x S) (let t : across (next e) ≡ prev e = omega arith in t) in
      let near : x S (next c) ≡ x S d = ap S.value (sym o.0) in
      let far : x S c ≡ x S (next d) = ap S.value (sym o.1) in
      rw (weight-opposite, near, far, two c, three d, three c, two d)
      (edge-mask-swap (weight S.shape d) (x S d) (x S (next d)) (x S (prev d)) (x S (across c)) (x S (across d)) (x S (prev c)))
