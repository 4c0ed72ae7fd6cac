-- Across an edge: the vectors of its two faces into them have one cosine term, and sum to within 7 units of twice it.
use mathlib.Core.Path.{◌≡◌, refl, sym, ap, ap₂, ◌∙◌, subst₂}
use mathlib.Core.Bool.{false}
use Prim.Native.Nat.{ℕ, ◌+◌, ◌-◌, ◌*◌, ◌≤◌, ◌<◌}
use native.Mathlib.Omega.{arith}
use lib.IntN.{ℤ, pos, neg_ℤ, nat_abs, ◌+ℤ◌, ◌-ℤ◌, ◌*ℤ◌}
use Rattle.integer.specs.Nearest.{IsNearest}
use Rattle.integer.proofs.Difference.{int, nat, ◌⊕◌, ◌⊝◌, ◌⊛◌, prove-eq, read-abs}
use Rattle.integer.proofs.NearestLaws.{nearest-meets}
use Rattle.corner.specs.Corner.{next, across, prev}
use Rattle.mesh.specs.HalfEdge.{boundary, Simple}
use Rattle.mesh.specs.Tables.{Corners}
use Rattle.mesh.proofs.CornerLaws.{prev-next, turn-none, turn-next}
use Rattle.mesh.proofs.TwinLaws.{twin-ends, twin-twin}
use Rattle.mask.specs.Mask.{inner_mask, edge_mask}
use Rattle.patch.specs.Point.{View, x, weight, sharp, inner_point, edge_point, along_point, point}
use Rattle.control.specs.Control.{units}
use Rattle.patch.specs.Patch.{owner, kind, patch_point, control_value}
use Rattle.tangent.specs.Vector.{twin_at, corner_vector, end_vector, middle_vector, triple_difference, control_difference, cosine_at, corrected_divisor}
use Rattle.tangent.specs.Vector.{start_term, end_term, start_into, end_into}
use Rattle.tangent.proofs.DocumentLaws.{triple-difference-back, first_back}
use Rattle.surface.proofs.Seam.{along-inner, twin_inside, twin-points}
use Rattle.tangency.proofs.NearLaws.{mean-near, sum_near}

-- ---- the masks: an edge point is half the sum of the inner points on its two sides
module _ (w : ℕ) (p q a b f g : ℤ) where
  edge-sum : pos 256 *ℤ (edge_mask w p q a b f g).num ≡ pos 256 *ℤ (inner_mask w p q a f).num +ℤ pos 256 *ℤ (inner_mask w p b q g).num
  unfolding edge_mask inner_mask
  edge-sum = prove-eq
      (nat 256 ⊛ (nat (2 * w) ⊛ int p ⊕ nat 4 ⊛ int q ⊕ nat 2 ⊛ int a ⊕ nat 2 ⊛ int b ⊕ int f ⊕ int g))
      (nat 256 ⊛ (nat w ⊛ int p ⊕ nat 2 ⊛ int q ⊕ nat 2 ⊛ int a ⊕ int f) ⊕ nat 256 ⊛ (nat w ⊛ int p ⊕ nat 2 ⊛ int b ⊕ nat 2 ⊛ int q ⊕ int g))
      (omega arith)

  mean-mask : nat_abs (units (inner_mask w p q a f) +ℤ units (inner_mask w p b q g) -ℤ pos 2 *ℤ units (edge_mask w p q a b f g)) ≤ 2
  unfolding edge_mask inner_mask
  mean-mask =
      let h : 2 * w + 10 ≡ 2 * (w + 5) = omega arith in
      mean-near (pos 256 *ℤ (inner_mask w p q a f).num) (pos 256 *ℤ (inner_mask w p b q g).num)
      (units (inner_mask w p q a f)) (units (inner_mask w p b q g)) (units (edge_mask w p q a b f g)) (w + 5) (omega arith)
      (nearest-meets _ (w + 5) (omega arith))
      (nearest-meets _ (w + 5) (omega arith))
      (subst₂ (λ (z : ℤ) (m : ℕ). IsNearest z m (units (edge_mask w p q a b f g))) edge-sum h (nearest-meets _ (2 * w + 10) (omega arith)))

module _ (S : View) (k : Corners S.shape.n) (simple : Simple S.shape.at S.shape.n) (c : ℕ)
    (l : c < S.shape.n) (e : boundary S.shape.at S.shape.n c ≡ false) where
  abbrev d : ℕ
  d = twin_at S c

  inside : d < S.shape.n
  inside = twin_inside S k simple c l e

  ends : (S.shape.at d ≡ S.shape.at (next c)) × (S.shape.at (next d) ≡ S.shape.at c)
  ends = twin-ends S.shape.at S.shape.n c k inside

  -- ---- the points along the edge, and the inner ones behind its start
  shared : (i : ℕ) → i < 4 → control_value S d i ≡ control_value S c (3 - i)
  shared i h = ap units (twin-points S k simple c l e i h)

  near-is : control_value S c 1 ≡ units (edge_point S c d)
  unfolding patch_point owner kind point sharp
  near-is = ap (λ (b : ℕ). units (along_point S b)) (turn-none c) ∙ ap units (along-inner S c e)

  inner-is : control_value S c 5 ≡ units (inner_point S c)
  unfolding patch_point owner kind point
  inner-is = ap (λ (b : ℕ). units (inner_point S b)) (turn-none c)

  inner-twin : control_value S d 6 ≡ units (inner_point S (next d))
  unfolding patch_point owner kind point
  inner-twin = refl

  weight-twin : weight S.shape (next d) ≡ weight S.shape c
  unfolding weight
  weight-twin = rw ends.1

  edge-mean : nat_abs (control_value S c 5 +ℤ control_value S d 6 -ℤ pos 2 *ℤ control_value S c 1) ≤ 2
  unfolding inner_point edge_point
  edge-mean =
      rw (inner-is, inner-twin, near-is, weight-twin, turn-next 1 d, turn-next 2 d, prev-next d, ap S.value ends.1, ap S.value ends.0)
      (mean-mask (weight S.shape c) (x S c) (x S (next c)) (x S (prev c)) (x S (across d)) (x S (across c)) (x S (prev d)))

  -- ---- one cosine term
  middle-twin : middle_vector S d ≡ neg_ℤ (middle_vector S c)
  unfolding middle_vector
  middle-twin =
      ap₂ triple_difference (shared 2 (omega arith)) (shared 1 (omega arith)) ∙ sym (triple-difference-back (control_value S c 2) (control_value S c 1))

  end-twin : end_vector S d ≡ neg_ℤ (corner_vector S c)
  unfolding end_vector
  end-twin = ap (λ (b : ℕ). neg_ℤ (corner_vector S b)) (twin-twin S.shape.at k simple c l inside)

  pub terms-same : end_term S (twin_at S c) ≡ start_term S c
  terms-same =
      rw (end-twin, middle-twin, ends.0, ends.1) (sym (first_back (cosine_at S c) (cosine_at S (next c)) (corner_vector S c) (middle_vector S c)))

  -- ---- the sum
  six : nat_abs (control_difference S c 5 1 +ℤ control_difference S d 6 2) ≤ 6
  six =
      rw (shared 2 (omega arith))
      (let m = edge-mean in
      omega (
        arith,
        read-abs (int (control_value S c 5) ⊕ int (control_value S d 6) ⊝ nat 2 ⊛ int (control_value S c 1)),
        read-abs (nat 3 ⊛ (int (control_value S c 5) ⊝ int (control_value S c 1)) ⊕ nat 3 ⊛ (int (control_value S d 6) ⊝ int (control_value S c 1))),
      ))

  pub across-edge : nat_abs (pos corrected_divisor *ℤ (start_into S c +ℤ end_into S (twin_at S c)) -ℤ pos 2 *ℤ start_term S c) ≤ 7 * corrected_divisor
  unfolding start_into end_into
  across-edge =
      sum_near (start_term S c) (control_difference S c 5 1) (control_difference S d 6 2) (start_into S c) (end_into S d)
      (nearest-meets _ corrected_divisor (omega arith))
      (rw terms-same (nearest-meets _ corrected_divisor (omega arith)))
      six
