-- What the functions of `src/` use: an integer by the test of its sign, the rounding of naturals by one comparison of the rest, what it leaves, and when
-- that is nothing.
--
--   rest_ℕ a d   what rounding a / d leaves, of two naturals
use mathlib.Core.Path.{◌≡◌, refl, sym, ap, ◌∙◌, subst}
use mathlib.Core.Bool.{Bool, true, false, cond}
use Prim.Native.Nat.{ℕ, zero, suc, ◌+◌, ◌*◌, ◌%◌, ◌/◌, ◌≤◌, ◌<◌}
use native.Mathlib.Nat.{div-add-mod', mod-lt}
use native.Mathlib.Omega.{arith}
use lib.Dec.{T, eqb, ltb}
use lib.IntN.{ℤ, pos, negsuc, neg_ℤ, nat_abs, ◌-ℤ◌, ◌*ℤ◌}
use lib.Signed.{lt_z, mag}
use borrow.Author.Tests.{ltb-true, ltb-false, le-ltb, ne_eqb}
use Rattle.integer.specs.Nearest.{half_even, nearest_ℕ, nearest, remainder, whole}
use Rattle.integer.proofs.Difference.{int, nat, ◌⊝◌, ◌⊛◌, ~, prove-eq, read-abs}
use Rattle.integer.proofs.Laws.{abs_neg}
use Rattle.integer.proofs.NearestLaws.{half_even-cases, nearest_ℕ-half_even, nearest-bounded, nearest-meets}

-- ---- a negative integer
pub mag-negative : (z : ℤ) → lt_z z (pos 0) ≡ true → mag z + 1 ≡ nat_abs z
mag-negative (pos a) t = absurd (omega (arith, ltb-true a 0 t))
mag-negative (negsuc a) t = omega arith

pub nearest_negative : (z : ℤ) (d : ℕ) → lt_z z (pos 0) ≡ true → neg_ℤ (pos (nearest_ℕ (nat_abs z) d)) ≡ nearest z d
unfolding nearest
nearest_negative (pos a) d t = absurd (omega (arith, ltb-true a 0 t))
nearest_negative (negsuc a) d t = refl

-- ---- an integer that is not negative
pub mag-not-negative : (z : ℤ) → lt_z z (pos 0) ≡ false → mag z ≡ nat_abs z
mag-not-negative (pos a) t = refl
mag-not-negative (negsuc a) t = absurd (subst T t tt)

pub nearest-not-negative : (z : ℤ) (d : ℕ) → lt_z z (pos 0) ≡ false → pos (nearest_ℕ (nat_abs z) d) ≡ nearest z d
unfolding nearest
nearest-not-negative (pos a) d t = refl
nearest-not-negative (negsuc a) d t = absurd (subst T t tt)

-- ---- naturals
pub nearest_ℕ-0 : (a : ℕ) → 0 ≡ nearest_ℕ a 0
unfolding nearest_ℕ
nearest_ℕ-0 a = refl

pub nearest_ℕ-up : (a d : ℕ) → 0 < d → d < 2 * (a % d) + a / d % 2 → a / d + 1 ≡ nearest_ℕ a d
nearest_ℕ-up a d h t = rw (nearest_ℕ-half_even a d) (up (a / d) (a % d) d t)
  where
    up : (q r d : ℕ) → d < 2 * r + q % 2 → q + 1 ≡ half_even q r d
    up q r d t = half_even-cases q r d (λ m. q + 1 ≡ m) (λ u. absurd (omega arith)) (λ u. refl) (λ u. omega arith)

pub nearest_ℕ-down : (a d : ℕ) → 0 < d → 2 * (a % d) + a / d % 2 ≤ d → a / d ≡ nearest_ℕ a d
nearest_ℕ-down a d h t = rw (nearest_ℕ-half_even a d) (down (a / d) (a % d) d t)
  where
    down : (q r d : ℕ) → 2 * r + q % 2 ≤ d → q ≡ half_even q r d
    down q r d t = half_even-cases q r d (λ m. q ≡ m) (λ u. refl) (λ u. absurd (omega arith)) (λ u. omega arith)

pub nearest_ℕ-≤ : (a d : ℕ) → nearest_ℕ a d ≤ a
unfolding nearest
nearest_ℕ-≤ a zero = omega (arith, nearest_ℕ-0 a)
nearest_ℕ-≤ a (suc d) = nearest-bounded (pos a) (suc d) a (omega arith) (le-mul a d)
  where
    le-mul : (a d : ℕ) → a ≤ a * suc d
    le-mul a d = omega arith

-- ---- what the rounding leaves
abbrev pub rest_ℕ : ℕ → ℕ → ℤ
rest_ℕ a d = pos a -ℤ pos (nearest_ℕ a d) *ℤ pos d

pub rest_up : (a d : ℕ) → 0 < d → d < 2 * (a % d) + a / d % 2 → pos (a % d) -ℤ pos d ≡ rest_ℕ a d
rest_up a d h t =
    prove-eq (nat (a % d) ⊝ nat d) (nat a ⊝ nat (nearest_ℕ a d) ⊛ nat d)
    (let e : nearest_ℕ a d * d ≡ a / d * d + d = rw (← (nearest_ℕ-up a d h t)) (omega arith) in omega (arith, div-add-mod' a d))

pub rest-down : (a d : ℕ) → 0 < d → 2 * (a % d) + a / d % 2 ≤ d → pos (a % d) ≡ rest_ℕ a d
rest-down a d h t =
    prove-eq (nat (a % d)) (nat a ⊝ nat (nearest_ℕ a d) ⊛ nat d)
    (let e : nearest_ℕ a d * d ≡ a / d * d = rw (← (nearest_ℕ-down a d h t)) in omega (arith, div-add-mod' a d))

-- at most half the divisor
pub rest-small : (a d : ℕ) → 0 < d → nat_abs (rest_ℕ a d) ≤ d
unfolding nearest
rest-small a d h = omega (arith, (nearest-meets (pos a) d h).near)

-- the rest of the magnitude, with the sign put back
pub remainder_signed : (z : ℤ) (d : ℕ) → cond (lt_z z (pos 0)) (neg_ℤ (rest_ℕ (nat_abs z) d)) (rest_ℕ (nat_abs z) d) ≡ remainder z d
unfolding nearest remainder
remainder_signed (pos a) d = rw (le-ltb a 0 (omega arith))
remainder_signed (negsuc a) d =
    prove-eq (~ (nat (suc a) ⊝ nat (nearest_ℕ (suc a) d) ⊛ nat d)) (int (negsuc a) ⊝ ~ (nat (nearest_ℕ (suc a) d)) ⊛ nat d) (omega arith)

-- nothing, exactly where the division of the magnitude leaves nothing
rest-none : (a d : ℕ) → 0 < d → eqb (nat_abs (rest_ℕ a d)) 0 ≡ eqb (a % d) 0
rest-none a d h = go (ltb d (2 * (a % d) + a / d % 2)) refl
  where
    go : (b : Bool) → ltb d (2 * (a % d) + a / d % 2) ≡ b → eqb (nat_abs (rest_ℕ a d)) 0 ≡ eqb (a % d) 0
    go true t =
        let up : d < 2 * (a % d) + a / d % 2 = ltb-true d (2 * (a % d) + a / d % 2) t in
        ap (λ (r : ℤ). eqb (nat_abs r) 0) (sym (rest_up a d h up))
        ∙ ne_eqb (nat_abs (pos (a % d) -ℤ pos d)) 0 (λ e. omega (arith, e, mod-lt a h, read-abs (nat (a % d) ⊝ nat d)))
        ∙ sym (ne_eqb (a % d) 0 (λ e. omega (arith, e, up)))
    go false t = ap (λ (r : ℤ). eqb (nat_abs r) 0) (sym (rest-down a d h (ltb-false d (2 * (a % d) + a / d % 2) t)))

abs-signed : (b : Bool) (r : ℤ) → nat_abs (cond b (neg_ℤ r) r) ≡ nat_abs r
abs-signed true r = abs_neg r
abs-signed false r = refl

pub whole-magnitude : (z : ℤ) (d : ℕ) → 0 < d → whole z d ≡ eqb (nat_abs z % d) 0
whole-magnitude z d h =
    ap (λ (r : ℤ). eqb (nat_abs r) 0) (sym (remainder_signed z d))
    ∙ ap (λ (a : ℕ). eqb a 0) (abs-signed (lt_z z (pos 0)) (rest_ℕ (nat_abs z) d))
    ∙ rest-none (nat_abs z) d h

pub remainder-0 : (z : ℤ) → z ≡ remainder z 0
unfolding nearest nearest_ℕ remainder
remainder-0 (pos a) = prove-eq (nat a) (nat a ⊝ nat 0 ⊛ nat 0) (omega arith)
remainder-0 (negsuc a) = prove-eq (int (negsuc a)) (int (negsuc a) ⊝ nat 0 ⊛ nat 0) (omega arith)
