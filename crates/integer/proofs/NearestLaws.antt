-- The laws of `nearest`, for every divisor above 0. It is the one integer that `IsNearest` describes (`nearest-meets`, `nearest-unique`), and
-- each other law follows from that.
use mathlib.Core.Path.{◌≡◌, refl, ap, ◌∙◌}
use Prim.Native.Nat.{ℕ, zero, suc, ◌+◌, ◌-◌, ◌*◌, ◌%◌, ◌/◌, ◌≤◌, ◌<◌}
use native.Mathlib.Omega.{arith}
use native.Mathlib.Decide.{dec_le}
use native.Mathlib.Nat.{div-add-mod', mod-lt, lt_of_not-le, mul-le-mul_right, lt_of_mul-lt-mul_right, eq_of_mul-eq-mul_right}
use lib.Dec.{ltb, ltb→lt, nltb→le}
use lib.IntN.{ℤ, pos, negsuc, neg_ℤ, nat_abs, ◌+ℤ◌, ◌-ℤ◌, ◌*ℤ◌}
use lib.Signed.{◌≤ℤ◌, ≤ℤ_refl}
use Rattle.integer.specs.Nearest.{IsNearest, half_even, nearest_ℕ, nearest}
use Rattle.integer.proofs.Cases.{cond_cases}
use Rattle.integer.proofs.Difference.{pos_part, neg_part, le-by, abs_is, int, nat, ◌⊕◌, ◌⊝◌, ◌⊛◌, ~, prove-eq, read-abs}
use Rattle.integer.proofs.Laws.{order, ≤ℤ-antisym, abs_neg, abs-*}

-- ---- the rounding of naturals, by the rest
pub half_even-cases : (q r d : ℕ) (Q : ℕ → Type 0) → (2 * r < d → Q q) → (d < 2 * r → Q (q + 1)) → (2 * r ≡ d → Q (q + q % 2)) → Q (half_even q r d)
unfolding half_even
half_even-cases q r d Q down up half =
    cond_cases (ltb (2 * r) d) q _ Q (λ t. down (ltb→lt (2 * r) d t))
    (λ t. let l : d ≤ 2 * r = nltb→le (2 * r) d t in
    cond_cases (ltb d (2 * r)) (q + 1) _ Q (λ s. up (ltb→lt d (2 * r) s))
    (λ s. let g : 2 * r ≤ d = nltb→le d (2 * r) s in half (omega arith)))

pub nearest_ℕ-half_even : (a d : ℕ) → 0 < d → nearest_ℕ a d ≡ half_even (a / d) (a % d) d
unfolding nearest_ℕ
nearest_ℕ-half_even a zero h = absurd (omega arith)
nearest_ℕ-half_even a (suc d) h = refl

-- `IsNearest` of naturals, with no difference in the bounds
record Near (a d m : ℕ) : Type 0 where
  low : 2 * a ≤ 2 * (m * d) + d
  high : 2 * (m * d) ≤ 2 * a + d
  half : 2 * ((a - m * d) + (m * d - a)) ≡ d → m % 2 ≡ 0

-- t is the last binary digit of q, so q + t is even
half-near : (a d q r t : ℕ) → 0 < d → q * d + r ≡ a → 2 * r ≡ d → q % 2 ≡ t → Near a d (q + t)
half-near a d q r zero h e f g = record { low = omega arith; high = omega arith; half = λ _. omega arith }
half-near a d q r (suc zero) h e f g = record { low = omega arith; high = omega arith; half = λ _. omega arith }
half-near a d q r (suc (suc t)) h e f g = absurd (omega arith)

half_even-near : (a d q r : ℕ) → q * d + r ≡ a → r < d → Near a d (half_even q r d)
half_even-near a d q r e l =
    half_even-cases q r d (Near a d)
    (λ u. record { low = omega arith; high = omega arith; half = λ i. absurd (omega arith) })
    (λ u. record { low = omega arith; high = omega arith; half = λ i. absurd (omega arith) })
    (λ u. half-near a d q r (q % 2) (omega arith) e u refl)

nearest_ℕ-near : (a d : ℕ) → 0 < d → Near a d (nearest_ℕ a d)
nearest_ℕ-near a d h =
    rw (nearest_ℕ-half_even a d) (half_even-near a d (a / d) (a % d) (div-add-mod' a d) (mod-lt a h))

-- ---- `nearest` meets `IsNearest`
near-pos : (a d m : ℕ) → Near a d m → IsNearest (pos a) d (pos m)
near-pos a d m g =
    let e = read-abs (nat a ⊝ nat m ⊛ nat d) in
    record { near = omega arith; even = λ i. g.half (omega arith) }

near-neg : (a d m : ℕ) → Near (suc a) d m → IsNearest (negsuc a) d (neg_ℤ (pos m))
near-neg a d m g =
    let e = read-abs (int (negsuc a) ⊝ ~ (nat m) ⊛ nat d) in
    record { near = omega arith; even = λ i. omega (arith, abs_neg (pos m), g.half (omega arith)) }

pub nearest-meets : (z : ℤ) (d : ℕ) → 0 < d → IsNearest z d (nearest z d)
unfolding nearest
nearest-meets (pos a) d h = near-pos a d (nearest_ℕ a d) (nearest_ℕ-near a d h)
nearest-meets (negsuc a) d h = near-neg a d (nearest_ℕ (suc a) d) (nearest_ℕ-near (suc a) d h)

-- ---- a larger dividend has no smaller quotient: were r above s, it would be by one, each a half away, and so both even
module _ (y z : ℤ) (d : ℕ) (r s : ℤ) (h : 0 < d) (le : y ≤ℤ z) (f : IsNearest y d r) (g : IsNearest z d s) where
  not-above : pos_part s + neg_part r < pos_part r + neg_part s → ⊥
  not-above l =
      let m : (pos_part s + neg_part r + 1) * d ≤ (pos_part r + neg_part s) * d = mul-le-mul_right d (omega arith) in
      let a = read-abs (int y ⊝ int r ⊛ nat d) in
      let b = read-abs (int z ⊝ int s ⊛ nat d) in
      let i : 2 * nat_abs (y -ℤ r *ℤ pos d) ≡ d = omega (arith, order) in
      let j : 2 * nat_abs (z -ℤ s *ℤ pos d) ≡ d = omega (arith, order) in
      let u : pos_part r + neg_part s < pos_part s + neg_part r + 2 = lt_of_mul-lt-mul_right d (omega (arith, order)) in
      omega (arith, abs_is r, abs_is s, f.even i, g.even j)

  by_cases : Dec (pos_part r + neg_part s ≤ pos_part s + neg_part r) → pos_part r + neg_part s ≤ pos_part s + neg_part r
  by_cases (yes t) = t
  by_cases (no t) = absurd (not-above (lt_of_not-le t))

  ordered : r ≤ℤ s
  ordered = le-by r s (by_cases (dec_le (pos_part r + neg_part s) (pos_part s + neg_part r)))

pub nearest-monotone : (y z : ℤ) (d : ℕ) → 0 < d → y ≤ℤ z → nearest y d ≤ℤ nearest z d
nearest-monotone y z d h le = ordered y z d (nearest y d) (nearest z d) h le (nearest-meets y d h) (nearest-meets z d h)

pub nearest-unique : (z : ℤ) (d : ℕ) (r s : ℤ) → 0 < d → IsNearest z d r → IsNearest z d s → r ≡ s
nearest-unique z d r s h f g = ≤ℤ-antisym r s (ordered z z d r s h (≤ℤ_refl z) f g) (ordered z z d s r h (≤ℤ_refl z) g f)

-- ---- what follows from these two
nearest-is : (z : ℤ) (d : ℕ) (r : ℤ) → 0 < d → IsNearest z d r → nearest z d ≡ r
nearest-is z d r h f = nearest-unique z d (nearest z d) r h (nearest-meets z d h) f

pub nearest-odd : (z : ℤ) (d : ℕ) → 0 < d → nearest (neg_ℤ z) d ≡ neg_ℤ (nearest z d)
nearest-odd z d h = nearest-is (neg_ℤ z) d _ h (negated (nearest z d) (nearest-meets z d h))
  where
    negated : (r : ℤ) → IsNearest z d r → IsNearest (neg_ℤ z) d (neg_ℤ r)
    negated r f =
        let e : nat_abs (neg_ℤ z -ℤ neg_ℤ r *ℤ pos d) ≡ nat_abs (z -ℤ r *ℤ pos d) =
        omega (arith, read-abs (~ (int z) ⊝ ~ (int r) ⊛ nat d), read-abs (int z ⊝ int r ⊛ nat d)) in
        record { near = omega arith; even = λ i. omega (arith, abs_neg r, f.even (omega arith)) }

-- a shift by an even number of units; by an odd number it fails at a half: 1/2 gives 0, and 3/2 gives 2
pub nearest-even-shift : (z : ℤ) (d : ℕ) (k : ℤ) → 0 < d → nearest (z +ℤ pos 2 *ℤ k *ℤ pos d) d ≡ nearest z d +ℤ pos 2 *ℤ k
nearest-even-shift z d k h = nearest-is (z +ℤ pos 2 *ℤ k *ℤ pos d) d _ h (shifted (nearest z d) (nearest-meets z d h))
  where
    shifted : (r : ℤ) → IsNearest z d r → IsNearest (z +ℤ pos 2 *ℤ k *ℤ pos d) d (r +ℤ pos 2 *ℤ k)
    shifted r f =
        let e : nat_abs ((z +ℤ pos 2 *ℤ k *ℤ pos d) -ℤ (r +ℤ pos 2 *ℤ k) *ℤ pos d) ≡ nat_abs (z -ℤ r *ℤ pos d) =
        ap nat_abs (prove-eq (int z ⊕ nat 2 ⊛ int k ⊛ nat d ⊝ (int r ⊕ nat 2 ⊛ int k) ⊛ nat d) (int z ⊝ int r ⊛ nat d) (omega arith)) in
        record { near = omega arith; even = λ i. omega (arith, read-abs (int r ⊕ nat 2 ⊛ int k), abs_is r, f.even (omega arith)) }

pub nearest-exact : (m : ℤ) (d : ℕ) → 0 < d → nearest (m *ℤ pos d) d ≡ m
nearest-exact m d h =
    let e : nat_abs (m *ℤ pos d -ℤ m *ℤ pos d) ≡ 0 = omega (arith, read-abs (int m ⊛ nat d ⊝ int m ⊛ nat d)) in
    nearest-is (m *ℤ pos d) d m h (record { near = omega arith; even = λ i. absurd (omega arith) })

pub nearest-bounded : (z : ℤ) (d B : ℕ) → 0 < d → nat_abs z ≤ B * d → nat_abs (nearest z d) ≤ B
nearest-bounded z d B h le = bounded (nearest z d) (nearest-meets z d h)
  where
    bounded : (r : ℤ) → IsNearest z d r → nat_abs r ≤ B
    bounded r f =
        let l : nat_abs r < B + 1 =
        lt_of_mul-lt-mul_right d (omega (arith, read-abs (int r ⊛ nat d), abs-* r (pos d), read-abs (int z ⊝ int r ⊛ nat d), abs_is z)) in
        omega arith

pub nearest-scaled : (z : ℤ) (d m : ℕ) → 0 < d → 0 < m → nearest (z *ℤ pos m) (d * m) ≡ nearest z d
nearest-scaled z d m h j = nearest-is (z *ℤ pos m) (d * m) _ (omega (arith, mul-le-mul_right m h)) (scaled (nearest z d) (nearest-meets z d h))
  where
    scaled : (r : ℤ) → IsNearest z d r → IsNearest (z *ℤ pos m) (d * m) r
    scaled r f =
        let e : nat_abs (z *ℤ pos m -ℤ r *ℤ pos (d * m)) ≡ nat_abs (z -ℤ r *ℤ pos d) * m =
        ap nat_abs (prove-eq (int z ⊛ nat m ⊝ int r ⊛ (nat d ⊛ nat m)) ((int z ⊝ int r ⊛ nat d) ⊛ nat m) (omega arith)) ∙ abs-* (z -ℤ r *ℤ pos d) (pos m) in
        record { near = omega (arith, mul-le-mul_right m f.near); even = λ i. f.even (eq_of_mul-eq-mul_right m j _ _ (omega arith)) }

-- a divisor 0 gives 0
pub nearest-0 : (z : ℤ) → nearest z 0 ≡ pos 0
unfolding nearest nearest_ℕ
nearest-0 (pos a) = refl
nearest-0 (negsuc a) = refl

-- computed, at the halves 1/2, 3/2, 5/2 and -5/2, and at 11/4 and -9/4
examples :
    (nearest (pos 1) 2 ≡ pos 0) × (nearest (pos 3) 2 ≡ pos 2) × (nearest (pos 5) 2 ≡ pos 2) × (nearest (negsuc 4) 2 ≡ negsuc 1)
    × (nearest (pos 11) 4 ≡ pos 3) × (nearest (negsuc 8) 4 ≡ negsuc 1)
unfolding nearest nearest_ℕ half_even
examples = (refl, refl, refl, refl, refl, refl)
