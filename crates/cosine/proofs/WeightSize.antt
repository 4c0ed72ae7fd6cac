-- No weight is above 2^22 in size: the numerator is at most 2^44, the divisor at least 3 * 2^21. (The largest is 434,298.)
use mathlib.Core.Path.{sym}
use Prim.Native.Nat.{ℕ, ◌*◌, ◌^◌, ◌≤◌}
use native.Mathlib.Omega.{arith}
use lib.IntN.{ℤ, pos, nat_abs, ◌+ℤ◌}
use Rattle.integer.proofs.Laws.{abs-*-≤}
use Rattle.integer.proofs.NearestLaws.{nearest-bounded}
use Rattle.finite.proofs.FoldLaws.{bool_cases}
use Rattle.cosine.specs.Cosine.{scale}
use Rattle.cosine.specs.Weight.{multiple_cosine, half_cosine, hypotenuse, divisor, edge_numerator, half_angles, face_numerator}
use Rattle.cosine.specs.Weight.{weighed, weight_by, edge_weight, face_weight}
use Rattle.cosine.proofs.SizeLaws.{divisor-size, multiple-size, sum-size}
use Rattle.cosine.proofs.WeightLaws.{Weighed, weighed-is, weight_is, weight-off}

weight-size : (f : ℕ → ℕ → ℤ) (n i : ℕ) → (Weighed n i → nat_abs (f n i) ≤ 2 ^ 44) → nat_abs (weight_by f n i) ≤ 2 ^ 22
weight-size f n i h =
    bool_cases (weighed n i)
    (λ t.
    let w = weighed-is n i t in
    let d = divisor-size n w.least w.most in
    rw (weight_is f n i t) (nearest-bounded (f n i) (divisor n) (2 ^ 22) (omega (arith, d.0)) (omega (arith, d.0, h w))))
    (λ t. rw (sym (weight-off f n i t)) (omega arith))

pub edge-weight-size : (n i : ℕ) → nat_abs (edge_weight n i) ≤ 2 ^ 22
edge-weight-size n i =
    weight-size edge_numerator n i (λ w.
    abs-*-≤ (pos (hypotenuse n) +ℤ half_cosine n) (multiple_cosine n i) (sum-size n w.most)
    (multiple-size n i (omega (arith, w.most)) (omega (arith, w.place))))

pub face-weight-size : (n i : ℕ) → nat_abs (face_weight n i) ≤ 2 ^ 22
face-weight-size n i =
    weight-size face_numerator n i (λ w.
    omega (
      arith,
      abs-*-≤ (pos scale) (multiple_cosine (2 * n) (half_angles i)) {A = 2 ^ 20} {B = 2 ^ 21} (omega arith)
          (multiple-size (2 * n) (half_angles i) (omega (arith, w.most)) (omega (arith, w.place))),
    ))
