-- A number of 32 bits over 256 is a double: the quotient is not rounded, and times 256.0 it is the number again.
-- 256.0 is `fin false 1 (pos 8)`.
use mathlib.Core.Path.{◌≡◌, refl, sym, ap, ◌∙◌, subst}
use mathlib.Core.Bool.{Bool, true, false}
use Prim.Native.Nat.{ℕ, suc, ◌*◌, ◌^◌, ◌≤◌, ◌<◌}
use native.Mathlib.Nat.{mul-one, one-mul, mul_assoc, mul_right_comm, mul-pos, mul-le-mul_right, eq_of_mul-eq-mul_right, lt_of_le_of_lt, le_of_lt, le_trans}
use lib.Dec.{lit<, lit≤}
use lib.IntN.{ℤ, pos, negsuc, nat_abs}
use lib.Signed.{mag}
use lib.Ieee.{Float, nan, inf, fin, binary64, up, down, unlike, round, div, mul, of_int}
use lib.Ieee.Fits.{down_pos, mul-fits, of_int-fits}
use lib.Ieee.Exact.{HasValue, round_exact}
use lib.Ieee.Back.{round_whole, whole_unique}
use Rattle.sample.specs.Answer.{negative, Over256}

same_sign : (s : Bool) → unlike s false ≡ s
same_sign true = refl
same_sign false = refl

-- n / q from the fraction a / c, where a = n d and c = q d
settle : (x : Float) (s : Bool) (n q a c d : ℕ) → 0 < d → a ≡ n * d → c ≡ q * d → HasValue x s a c → HasValue x s n q
settle nan s n q a c d p e f v = v
settle (inf t) s n q a c d p e f v = v
settle (fin t m k) s n q a c d p e f v = (
  v.0,
  eq_of_mul-eq-mul_right d p (m * up k * q) (n * down k)
      (mul_assoc (m * up k) q d ∙ ap (λ (z : ℕ). m * up k * z) (sym f) ∙ v.1 ∙ ap (λ (z : ℕ). z * down k) e ∙ mul_right_comm n d (down k)),
)

-- a whole number over 256.0
quotient : (x : Float) (s : Bool) (n : ℕ) → n ≤ 2 ^ 31 → HasValue x s n 1 → HasValue (div binary64 x (fin false 1 (pos 8))) s n 256
unfolding div
quotient nan s n h v = absurd v
quotient (inf t) s n h v = absurd v
quotient (fin t m k) s n h v =
    let a : m * up k * 1 ≡ n * down k = v.1 in
    let e : m * up k * 1 * 2 ^ 1074 ≡ n * 2 ^ 1066 * (256 * down k) =
    ap (λ (z : ℕ). z * 2 ^ 1074) a
    ∙ mul_right_comm n (down k) (2 ^ 1074)
    ∙ ap (λ (z : ℕ). z * down k) (sym (mul_assoc n (2 ^ 1066) 256))
    ∙ mul_assoc (n * 2 ^ 1066) 256 (down k) in
    let small : n < 2 ^ 53 = lt_of_le_of_lt h (lit< tt) in
    let fine : n * 2 ^ 1066 < 2 ^ 2098 = lt_of_le_of_lt (mul-le-mul_right (2 ^ 1066) h) (lit< tt) in
    subst (λ (z : Bool). HasValue (round binary64 z (m * up k * 1) (256 * down k)) s n 256) (sym (same_sign t))
    (settle (round binary64 t (m * up k * 1) (256 * down k)) s n 256 (m * up k * 1) (256 * down k) (down k) (down_pos k) a refl
    (subst (λ (z : Bool). HasValue (round binary64 t (m * up k * 1) (256 * down k)) z (m * up k * 1) (256 * down k)) v.0
    (round_exact binary64 t (m * up k * 1) (256 * down k) n 1066 (mul-pos (lit< tt) (down_pos k)) small fine e)))

-- a number over 256, times 256.0
product : (x : Float) (s : Bool) (n : ℕ) → n ≤ 2 ^ 31 → HasValue x s n 256 → HasValue (mul binary64 x (fin false 1 (pos 8))) s n 1
unfolding mul
product nan s n h v = absurd v
product (inf t) s n h v = absurd v
product (fin t m k) s n h v =
    let d = down k * 1 in
    let a : m * up k * 256 ≡ n * d = v.1 ∙ ap (λ (z : ℕ). n * z) (sym (mul-one (down k))) in
    let p : 0 < d = subst (λ (z : ℕ). 0 < z) (sym (mul-one (down k))) (down_pos k) in
    let e : m * up k * 256 * 2 ^ 1074 ≡ n * 2 ^ 1074 * d = ap (λ (z : ℕ). z * 2 ^ 1074) a ∙ mul_right_comm n d (2 ^ 1074) in
    let small : n < 2 ^ 53 = lt_of_le_of_lt h (lit< tt) in
    let fine : n * 2 ^ 1074 < 2 ^ 2098 = lt_of_le_of_lt (mul-le-mul_right (2 ^ 1074) h) (lit< tt) in
    subst (λ (z : Bool). HasValue (round binary64 z (m * up k * 256) d) s n 1) (sym (same_sign t))
    (settle (round binary64 t (m * up k * 256) d) s n 1 (m * up k * 256) d d p a (sym (one-mul d))
    (subst (λ (z : Bool). HasValue (round binary64 t (m * up k * 256) d) z (m * up k * 256) d) v.0
    (round_exact binary64 t (m * up k * 256) d n 1074 p small fine e)))

-- `Over256` is `HasValue` at 256
over_by : (x : Float) (z : ℤ) → HasValue x (negative z) (nat_abs z) 256 → Over256 x z
over_by nan z v = v
over_by (inf s) z v = v
over_by (fin s m e) z v = v

over-is : (x : Float) (z : ℤ) → Over256 x z → HasValue x (negative z) (nat_abs z) 256
over-is nan z v = v
over-is (inf s) z v = v
over-is (fin s m e) z v = v

whole : (z : ℤ) → nat_abs z ≤ 2 ^ 31 → HasValue (of_int binary64 z) (negative z) (nat_abs z) 1
unfolding of_int
whole (pos n) h = round_whole binary64 false n (le_trans h (lit≤ tt))
whole (negsuc n) h = round_whole binary64 true (suc n) (le_trans h (lit≤ tt))

abs-≤ : (z : ℤ) → mag z < 2 ^ 31 → nat_abs z ≤ 2 ^ 31
abs-≤ (pos n) h = le_of_lt h
abs-≤ (negsuc n) h = h

-- the division of the code, by a y that is 256.0
pub over256-exact : (z : ℤ) (y : Float) → mag z < 2 ^ 31 → y ≡ fin false 1 (pos 8) → Over256 (div binary64 (of_int binary64 z) y) z
over256-exact z y h e =
    let x = of_int binary64 z in
    rw e (over_by (div binary64 x (fin false 1 (pos 8))) z (quotient x (negative z) (nat_abs z) (abs-≤ z h) (whole z (abs-≤ z h))))

-- the way back: a double that is a sample over 256, times 256.0, is the sample
pub over256-back : (x : Float) (z : ℤ) → mag z < 2 ^ 31 → Over256 x z → mul binary64 x (fin false 1 (pos 8)) ≡ of_int binary64 z
over256-back x z h v =
    whole_unique binary64 (mul binary64 x (fin false 1 (pos 8))) (of_int binary64 z) (negative z) (nat_abs z)
    (mul-fits binary64 x (fin false 1 (pos 8))) (of_int-fits binary64 z)
    (product x (negative z) (nat_abs z) (abs-≤ z h) (over-is x z v)) (whole z (abs-≤ z h))
