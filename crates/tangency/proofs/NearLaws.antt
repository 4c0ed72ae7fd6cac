-- Where the 7 units come from: one half for the rounding of each of the two vectors; and three times one half for that of each of the two inner
-- points, and three times twice one half for that of the edge point, which is their mean.
use mathlib.Core.Path.{◌≡◌, sym, ap, ◌∙◌}
use Prim.Native.Nat.{ℕ, ◌*◌, ◌≤◌, ◌<◌}
use native.Mathlib.Omega.{arith}
use native.Mathlib.Nat.{lt_of_mul-lt-mul_right}
use lib.IntN.{ℤ, pos, nat_abs, ◌+ℤ◌, ◌-ℤ◌, ◌*ℤ◌}
use Rattle.integer.specs.Nearest.{IsNearest}
use Rattle.integer.proofs.Difference.{int, nat, ◌⊕◌, ◌⊝◌, ◌⊛◌, prove-eq}
use Rattle.integer.proofs.Laws.{abs-three, abs-*}
use Rattle.tangent.specs.Vector.{corrected_divisor}

-- how far the fraction y / d is from the whole number a, times d
abbrev off : ℤ → ℕ → ℤ → ℤ
off y d a = y -ℤ a *ℤ pos d

-- two fractions with one divisor and their mean, each of the three rounded
module _ (y z a b m : ℤ) (d : ℕ) (some : 0 < d) (f : IsNearest y d a) (g : IsNearest z d b) (e : IsNearest (y +ℤ z) (2 * d) m) where
  mean-off : nat_abs (a +ℤ b -ℤ pos 2 *ℤ m) * d ≡ nat_abs (off (y +ℤ z) (2 * d) m -ℤ off y d a -ℤ off z d b)
  mean-off =
      sym (abs-* (a +ℤ b -ℤ pos 2 *ℤ m) (pos d))
      ∙ ap nat_abs (prove-eq ((int a ⊕ int b ⊝ nat 2 ⊛ int m) ⊛ nat d)
      ((int y ⊕ int z ⊝ int m ⊛ (nat 2 ⊛ nat d)) ⊝ (int y ⊝ int a ⊛ nat d) ⊝ (int z ⊝ int b ⊛ nat d)) (omega arith))

  pub mean-near : nat_abs (a +ℤ b -ℤ pos 2 *ℤ m) ≤ 2
  mean-near =
      let t = abs-three (off (y +ℤ z) (2 * d) m) (off y d a) (off z d b) in
      let l : nat_abs (a +ℤ b -ℤ pos 2 *ℤ m) < 3 = lt_of_mul-lt-mul_right d (omega (arith, mean-off, f.near, g.near, e.near)) in
      omega arith

-- two vectors with one cosine term t, and the differences x and y, each rounded
module _ (t x y r s : ℤ) where
  abbrev D : ℕ
  D = corrected_divisor

  abbrev sum : ℤ → ℤ
  sum x = t +ℤ pos D *ℤ x

  sum-off : nat_abs (pos D *ℤ (r +ℤ s) -ℤ pos 2 *ℤ t) ≡ nat_abs (pos D *ℤ (x +ℤ y) -ℤ off (sum x) D r -ℤ off (sum y) D s)
  sum-off =
      ap nat_abs (prove-eq (nat D ⊛ (int r ⊕ int s) ⊝ nat 2 ⊛ int t)
      (nat D ⊛ (int x ⊕ int y) ⊝ (int t ⊕ nat D ⊛ int x ⊝ int r ⊛ nat D) ⊝ (int t ⊕ nat D ⊛ int y ⊝ int s ⊛ nat D)) (omega arith))

  pub sum_near : IsNearest (t +ℤ pos corrected_divisor *ℤ x) corrected_divisor r → IsNearest (t +ℤ pos corrected_divisor *ℤ y) corrected_divisor s
      → nat_abs (x +ℤ y) ≤ 6 → nat_abs (pos corrected_divisor *ℤ (r +ℤ s) -ℤ pos 2 *ℤ t) ≤ 7 * corrected_divisor
  sum_near f g h =
      let u = abs-three (pos D *ℤ (x +ℤ y)) (off (sum x) D r) (off (sum y) D s) in
      omega (arith, sum-off, f.near, g.near, abs-* (pos D) (x +ℤ y))
