-- The laws of ℤ that the kit's `lib.IntN` and `lib.Signed` lack: ring, order, absolute value, and numbers that fit a signed width.
use mathlib.Core.Path.{◌≡◌, refl, ◌∙◌}
use Prim.Native.Nat.{ℕ, suc, ◌+◌, ◌*◌, ◌<◌, ◌≤◌, ◌^◌}
use native.Mathlib.Omega.{arith}
use native.Mathlib.Nat.{mul-le-mul}
use lib.IntN.{ℤ, pos, negsuc, neg_ℤ, nat_abs, ◌+ℤ◌, ◌-ℤ◌, ◌*ℤ◌}
use lib.Signed.{mag, ◌≤ℤ◌}
use mir.Syntax.{Width}
use mir.Val.{SFits, to_z, of_z, hbits}
use mir.Facts.{to_z-of_z}
use Rattle.integer.proofs.Difference.{eq-by, le-by, lt_by, le_is, lt-is, abs_is, int, nat, ◌⊕◌, ◌⊝◌, ◌⊛◌, ~, prove-eq, prove_le, read-eq, read-abs}

-- ---- the ring
pub *ℤ-assoc : (a b c : ℤ) → (a *ℤ b) *ℤ c ≡ a *ℤ (b *ℤ c)
*ℤ-assoc a b c = prove-eq ((int a ⊛ int b) ⊛ int c) (int a ⊛ (int b ⊛ int c)) (omega arith)

pub *ℤ-+ℤ : (a b c : ℤ) → a *ℤ (b +ℤ c) ≡ a *ℤ b +ℤ a *ℤ c
*ℤ-+ℤ a b c = prove-eq (int a ⊛ (int b ⊕ int c)) (int a ⊛ int b ⊕ int a ⊛ int c) (omega arith)

pub +ℤ-*ℤ : (a b c : ℤ) → (a +ℤ b) *ℤ c ≡ a *ℤ c +ℤ b *ℤ c
+ℤ-*ℤ a b c = prove-eq ((int a ⊕ int b) ⊛ int c) (int a ⊛ int c ⊕ int b ⊛ int c) (omega arith)

pub *ℤ-neg_ℤ : (a b : ℤ) → a *ℤ neg_ℤ b ≡ neg_ℤ (a *ℤ b)
*ℤ-neg_ℤ a b = prove-eq (int a ⊛ ~ (int b)) (~ (int a ⊛ int b)) (omega arith)

-- ---- the order
-- for `omega (arith, order)`: orders of integers among the hypotheses, and as the goal
pub ruleset order = (le_is, lt-is, le-by, lt_by)

pub ≤ℤ-antisym : (a b : ℤ) → a ≤ℤ b → b ≤ℤ a → a ≡ b
≤ℤ-antisym a b f g = eq-by a b (omega (arith, order))

pub ≤ℤ-+ℤ : (a b c d : ℤ) → a ≤ℤ b → c ≤ℤ d → (a +ℤ c) ≤ℤ (b +ℤ d)
≤ℤ-+ℤ a b c d f g = prove_le (int a ⊕ int c) (int b ⊕ int d) (omega (arith, order))

-- an order from a difference that is not negative; for an inequality of products, with the difference by `ring`
pub ≤ℤ-by : (a b d : ℤ) → b -ℤ a ≡ d → pos 0 ≤ℤ d → a ≤ℤ b
≤ℤ-by a b d e f = le-by a b (omega (arith, order, read-eq (int b ⊝ int a) (int d) e))

pub *ℤ-nonneg : (a b : ℤ) → pos 0 ≤ℤ a → pos 0 ≤ℤ b → pos 0 ≤ℤ (a *ℤ b)
*ℤ-nonneg (pos a) (pos b) f g = prove_le (nat 0) (nat (a * b)) (omega arith)
*ℤ-nonneg (pos a) (negsuc b) f g = absurd g.le
*ℤ-nonneg (negsuc a) b f g = absurd f.le

-- ---- the absolute value
pub abs_neg : (a : ℤ) → nat_abs (neg_ℤ a) ≡ nat_abs a
abs_neg a = omega (arith, read-abs (~ (int a)), read-abs (int a))

pub abs-+ : (a b : ℤ) → nat_abs (a +ℤ b) ≤ nat_abs a + nat_abs b
abs-+ a b = omega (arith, read-abs (int a ⊕ int b), abs_is a, abs_is b)

pub abs-- : (a b : ℤ) → nat_abs (a -ℤ b) ≤ nat_abs a + nat_abs b
abs-- a b = omega (arith, read-abs (int a ⊝ int b), abs_is a, abs_is b)

pub abs-three : (a b c : ℤ) → nat_abs (a -ℤ b -ℤ c) ≤ nat_abs a + nat_abs b + nat_abs c
abs-three a b c = omega (arith, abs-- (a -ℤ b) c, abs-- a b)

pub abs-* : (a b : ℤ) → nat_abs (a *ℤ b) ≡ nat_abs a * nat_abs b
abs-* (pos a) (pos b) = refl
abs-* (pos a) (negsuc b) = abs_neg (pos (a * suc b))
abs-* (negsuc a) (pos b) = abs_neg (pos (suc a * b))
abs-* (negsuc a) (negsuc b) = refl

pub abs-*-≤ : (a b : ℤ) {A B : ℕ} → nat_abs a ≤ A → nat_abs b ≤ B → nat_abs (a *ℤ b) ≤ A * B
abs-*-≤ a b f g = rw abs-* (mul-le-mul f g)

-- ---- numbers that fit a signed width
mag-≤ : (a : ℤ) → mag a ≤ nat_abs a
mag-≤ (pos a) = omega arith
mag-≤ (negsuc a) = omega arith

pub sfits-abs : {w : Width} (a : ℤ) → nat_abs a < 2 ^ hbits w → SFits w a
sfits-abs a h = record { sfits = omega (arith, mag-≤ a) }

pub sfits-+ : {w : Width} (a b : ℤ) → nat_abs a + nat_abs b < 2 ^ hbits w → SFits w (a +ℤ b)
sfits-+ a b h = sfits-abs (a +ℤ b) (omega (arith, abs-+ a b))

-- a number that a call gave, read back from its bits
pub read_back : (w : Width) {r z : ℤ} → mag r < 2 ^ hbits w → r ≡ z → to_z w (of_z w r) ≡ z
read_back w ok e = to_z-of_z (record { sfits = ok }) ∙ e
