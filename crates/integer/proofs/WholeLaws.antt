-- What rounding leaves: nothing exactly where the divisor divides.
use mathlib.Core.Path.{◌≡◌, refl, sym, ap, ◌∙◌}
use mathlib.Core.Bool.{true, false}
use Prim.Native.Nat.{ℕ, zero, suc, ◌*◌, ◌<◌}
use native.Mathlib.Omega.{arith}
use lib.Dec.{eqb}
use lib.IntN.{ℤ, pos, negsuc, neg_ℤ, nat_abs, ◌-ℤ◌, ◌*ℤ◌}
use borrow.Author.Tests.{eqb-true, eq-eqb, ne_eqb}
use Rattle.integer.specs.Nearest.{half_even, nearest_ℕ, nearest, remainder, whole}
use Rattle.integer.proofs.Difference.{int, nat, ◌⊝◌, ◌⊛◌, ~, prove-eq, read-abs}
use Rattle.integer.proofs.Laws.{abs_neg, abs-*}
use Rattle.integer.proofs.NearestLaws.{nearest-odd, nearest-exact, nearest-scaled}

pub whole-product : (z : ℤ) (d : ℕ) → whole z d ≡ true → z ≡ nearest z d *ℤ pos d
unfolding remainder
whole-product z d t =
    prove-eq (int z) (int (nearest z d) ⊛ nat d)
    (omega (arith, read-abs (int z ⊝ int (nearest z d) ⊛ nat d), eqb-true (nat_abs (z -ℤ nearest z d *ℤ pos d)) 0 t))

pub product_whole : (m : ℤ) (d : ℕ) → 0 < d → whole (m *ℤ pos d) d ≡ true
unfolding remainder
product_whole m d h =
    let none : m *ℤ pos d -ℤ m *ℤ pos d ≡ pos 0 = prove-eq (int m ⊛ nat d ⊝ int m ⊛ nat d) (nat 0) (omega arith) in
    rw (nearest-exact m d h, none)

-- of a negated number the negated rest is left
pub whole-odd : (z : ℤ) (d : ℕ) → 0 < d → whole (neg_ℤ z) d ≡ whole z d
unfolding remainder
whole-odd z d h =
    ap (λ (a : ℕ). eqb a 0)
    (ap (λ (r : ℤ). nat_abs (neg_ℤ z -ℤ r *ℤ pos d)) (nearest-odd z d h)
    ∙ ap nat_abs (prove-eq (~ (int z) ⊝ ~ (int (nearest z d)) ⊛ nat d) (~ (int z ⊝ int (nearest z d) ⊛ nat d)) (omega arith))
    ∙ abs_neg (z -ℤ nearest z d *ℤ pos d))

-- of a number and a divisor that are both multiplied the multiplied rest is left
pub whole_scaled : (z : ℤ) (d m : ℕ) → 0 < d → 0 < m → whole (z *ℤ pos m) (d * m) ≡ whole z d
unfolding remainder
whole_scaled z d m h j =
    ap (λ (a : ℕ). eqb a 0)
    (ap (λ (r : ℤ). nat_abs (z *ℤ pos m -ℤ r *ℤ pos (d * m))) (nearest-scaled z d m h j)
    ∙ ap nat_abs (prove-eq (int z ⊛ nat m ⊝ int (nearest z d) ⊛ (nat d ⊛ nat m)) ((int z ⊝ int (nearest z d) ⊛ nat d) ⊛ nat m) (omega arith))
    ∙ abs-* (z -ℤ nearest z d *ℤ pos d) (pos m))
    ∙ times_none (nat_abs (z -ℤ nearest z d *ℤ pos d)) m j
  where
    times_none : (a m : ℕ) → 0 < m → eqb (a * m) 0 ≡ eqb a 0
    times_none zero m j = eq-eqb (zero * m) 0 (omega arith)
    times_none (suc a) zero j = elim j [ ]
    times_none (suc a) (suc m) j = ne_eqb (suc a * suc m) 0 (λ e. omega arith) ∙ sym (ne_eqb (suc a) 0 (λ e. omega arith))

-- computed: 5/3 goes up to 2 and leaves -1, 5/2 goes down to 2 and leaves 1, -4/3 leaves -1, 6/3 nothing; a divisor 0 leaves all
examples :
    (remainder (pos 5) 3 ≡ negsuc 0) × (remainder (pos 5) 2 ≡ pos 1) × (remainder (negsuc 3) 3 ≡ negsuc 0) × (remainder (pos 7) 0 ≡ pos 7)
    × (whole (pos 6) 3 ≡ true) × (whole (pos 5) 3 ≡ false)
unfolding nearest nearest_ℕ half_even remainder
examples = (refl, refl, refl, refl, refl, refl)
