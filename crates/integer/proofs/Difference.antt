-- An integer is the difference of two naturals: so a law of ℤ is an equation or an order in ℕ, which `omega` proves.
--   pos_part z, neg_part z         z is the first minus the second, and one of them is 0
--   Expr, value e                an expression over integers (`int`), naturals (`nat`), ⊕, ⊝, ⊛, ~, and the integer that it is
--   minuend e, subtrahend e      two naturals, by the expression alone, whose difference the integer is
--   prove-eq, prove_le           an equation or an order of two expressions, from the one in ℕ, as `prove-eq e f (omega arith)`
--   read-eq, read-le, read-abs   and what an equation, an order or an absolute value says in ℕ, for `omega`'s list
use mathlib.Core.Path.{◌≡◌, refl, ap, subst}
use Prim.Native.Nat.{ℕ, zero, suc, ◌+◌, ◌*◌, ◌-◌, ◌<◌, ◌≤◌}
use native.Mathlib.Omega.{arith}
use lib.Dec.{T, ltb, ltb→lt, nltb→le, le→leb, leb→le, lt→ltb}
use lib.IntN.{ℤ, pos, negsuc, neg_ℤ, nat_abs, sub_ℕ, ◌+ℤ◌, ◌-ℤ◌, ◌*ℤ◌}
use lib.Signed.{◌≤ℤ◌, ◌<ℤ◌, le_z, lt_z}
use Rattle.integer.proofs.Cases.{cond_cases}

abbrev pub pos_part : ℤ → ℕ
pos_part (pos a) = a
pos_part (negsuc a) = 0

abbrev pub neg_part : ℤ → ℕ
neg_part (pos a) = 0
neg_part (negsuc a) = suc a

-- ---- two integers are equal, and ordered, as their differences are
pub eq-by : (x y : ℤ) → pos_part x + neg_part y ≡ pos_part y + neg_part x → x ≡ y
eq-by (pos a) (pos b) e = let h : a ≡ b = omega arith in ap pos h
eq-by (pos a) (negsuc b) e = absurd (omega arith)
eq-by (negsuc a) (pos b) e = absurd (omega arith)
eq-by (negsuc a) (negsuc b) e = let h : a ≡ b = omega arith in ap negsuc h

pub eq_is : (x y : ℤ) → x ≡ y → pos_part x + neg_part y ≡ pos_part y + neg_part x
eq_is x y e = subst (λ (z : ℤ). pos_part x + neg_part z ≡ pos_part z + neg_part x) e refl

le_z-by : (x y : ℤ) → pos_part x + neg_part y ≤ pos_part y + neg_part x → T (le_z x y)
le_z-by (pos a) (pos b) h = le→leb a b (omega arith)
le_z-by (pos a) (negsuc b) h = absurd (omega arith)
le_z-by (negsuc a) (pos b) h = tt
le_z-by (negsuc a) (negsuc b) h = le→leb b a (omega arith)

pub le-by : (x y : ℤ) → pos_part x + neg_part y ≤ pos_part y + neg_part x → x ≤ℤ y
le-by x y h = record { le = le_z-by x y h }

le_z-is : (x y : ℤ) → T (le_z x y) → pos_part x + neg_part y ≤ pos_part y + neg_part x
le_z-is (pos a) (pos b) t = omega (arith, leb→le a b t)
le_z-is (pos a) (negsuc b) t = absurd t
le_z-is (negsuc a) (pos b) t = omega arith
le_z-is (negsuc a) (negsuc b) t = omega (arith, leb→le b a t)

pub le_is : (x y : ℤ) → x ≤ℤ y → pos_part x + neg_part y ≤ pos_part y + neg_part x
le_is x y h = le_z-is x y h.le

lt_z-by : (x y : ℤ) → pos_part x + neg_part y < pos_part y + neg_part x → T (lt_z x y)
lt_z-by (pos a) (pos b) h = lt→ltb a b (omega arith)
lt_z-by (pos a) (negsuc b) h = absurd (omega arith)
lt_z-by (negsuc a) (pos b) h = tt
lt_z-by (negsuc a) (negsuc b) h = lt→ltb b a (omega arith)

pub lt_by : (x y : ℤ) → pos_part x + neg_part y < pos_part y + neg_part x → x <ℤ y
lt_by x y h = record { lt = lt_z-by x y h }

lt_z-is : (x y : ℤ) → T (lt_z x y) → pos_part x + neg_part y < pos_part y + neg_part x
lt_z-is (pos a) (pos b) t = omega (arith, ltb→lt a b t)
lt_z-is (pos a) (negsuc b) t = absurd t
lt_z-is (negsuc a) (pos b) t = omega arith
lt_z-is (negsuc a) (negsuc b) t = omega (arith, ltb→lt b a t)

pub lt-is : (x y : ℤ) → x <ℤ y → pos_part x + neg_part y < pos_part y + neg_part x
lt-is x y h = lt_z-is x y h.lt

-- ---- the operations
sub_ℕ-is : (a b : ℕ) → pos_part (sub_ℕ a b) + b ≡ neg_part (sub_ℕ a b) + a
sub_ℕ-is a b = cond_cases (ltb a b) (negsuc (b - suc a)) (pos (a - b)) (λ z. pos_part z + b ≡ neg_part z + a)
    (λ t. let h : a < b = ltb→lt a b t in omega arith)
    (λ t. let h : b ≤ a = nltb→le a b t in omega arith)

add_is : (x y : ℤ) → pos_part (x +ℤ y) + (neg_part x + neg_part y) ≡ neg_part (x +ℤ y) + (pos_part x + pos_part y)
add_is (pos a) (pos b) = omega arith
add_is (pos a) (negsuc b) = omega (arith, sub_ℕ-is a (suc b))
add_is (negsuc a) (pos b) = omega (arith, sub_ℕ-is b (suc a))
add_is (negsuc a) (negsuc b) = omega arith

pos_part-neg : (x : ℤ) → pos_part (neg_ℤ x) ≡ neg_part x
pos_part-neg (pos zero) = refl
pos_part-neg (pos (suc a)) = refl
pos_part-neg (negsuc a) = refl

neg_part-neg : (x : ℤ) → neg_part (neg_ℤ x) ≡ pos_part x
neg_part-neg (pos zero) = refl
neg_part-neg (pos (suc a)) = refl
neg_part-neg (negsuc a) = refl

mul_is : (x y : ℤ) → pos_part (x *ℤ y) + (pos_part x * neg_part y + neg_part x * pos_part y) ≡ neg_part (x *ℤ y) + (pos_part x * pos_part y + neg_part x * neg_part y)
mul_is (pos a) (pos b) = omega arith
mul_is (pos a) (negsuc b) = omega (arith, pos_part-neg (pos (a * suc b)), neg_part-neg (pos (a * suc b)))
mul_is (negsuc a) (pos b) = omega (arith, pos_part-neg (pos (suc a * b)), neg_part-neg (pos (suc a * b)))
mul_is (negsuc a) (negsuc b) = omega arith

pub abs_is : (x : ℤ) → nat_abs x ≡ pos_part x + neg_part x
abs_is (pos a) = omega arith
abs_is (negsuc a) = omega arith

-- ---- expressions
infixl 6 ◌⊕◌
infixl 6 ◌⊝◌
infixl 7 ◌⊛◌
pub data Expr : Type 0 where
  int : ℤ → Expr
  nat : ℕ → Expr
  ◌⊕◌ : Expr → Expr → Expr
  ◌⊝◌ : Expr → Expr → Expr
  ◌⊛◌ : Expr → Expr → Expr
  ~ : Expr → Expr

abbrev pub value : Expr → ℤ
value (int x) = x
value (nat m) = pos m
value (e ⊕ f) = value e +ℤ value f
value (e ⊝ f) = value e -ℤ value f
value (e ⊛ f) = value e *ℤ value f
value (~ e) = neg_ℤ (value e)

abbrev mutual
  pub minuend : Expr → ℕ
  minuend (int x) = pos_part x
  minuend (nat m) = m
  minuend (e ⊕ f) = minuend e + minuend f
  minuend (e ⊝ f) = minuend e + subtrahend f
  minuend (e ⊛ f) = minuend e * minuend f + subtrahend e * subtrahend f
  minuend (~ e) = subtrahend e

  pub subtrahend : Expr → ℕ
  subtrahend (int x) = neg_part x
  subtrahend (nat m) = 0
  subtrahend (e ⊕ f) = subtrahend e + subtrahend f
  subtrahend (e ⊝ f) = subtrahend e + minuend f
  subtrahend (e ⊛ f) = minuend e * subtrahend f + subtrahend e * minuend f
  subtrahend (~ e) = minuend e

-- (a - b) (c - d) by the parts, where p - q and r - s are the same two differences
mul-difference : (p q r s a b c d x y : ℕ) → p + b ≡ q + a → r + d ≡ s + c → x + (p * s + q * r) ≡ y + (p * r + q * s)
    → x + (a * d + b * c) ≡ y + (a * c + b * d)
mul-difference p q r s a b c d x y e f g =
    omega (arith, ap (λ (t : ℕ). t * r) e, ap (λ (t : ℕ). t * s) e, ap (λ (t : ℕ). a * t) f, ap (λ (t : ℕ). b * t) f)

sound : (e : Expr) → pos_part (value e) + subtrahend e ≡ neg_part (value e) + minuend e
sound (int x) = omega arith
sound (nat m) = omega arith
sound (e ⊕ f) = omega (arith, sound e, sound f, add_is (value e) (value f))
sound (e ⊝ f) = omega (arith, sound e, sound f, add_is (value e) (neg_ℤ (value f)), pos_part-neg (value f), neg_part-neg (value f))
sound (e ⊛ f) =
    mul-difference (pos_part (value e)) (neg_part (value e)) (pos_part (value f)) (neg_part (value f)) (minuend e) (subtrahend e) (minuend f) (subtrahend f) _ _
    (sound e) (sound f) (mul_is (value e) (value f))
sound (~ e) = omega (arith, sound e, pos_part-neg (value e), neg_part-neg (value e))

pub prove-eq : (e f : Expr) → minuend e + subtrahend f ≡ minuend f + subtrahend e → value e ≡ value f
prove-eq e f h = eq-by (value e) (value f) (omega (arith, sound e, sound f))

pub prove_le : (e f : Expr) → minuend e + subtrahend f ≤ minuend f + subtrahend e → value e ≤ℤ value f
prove_le e f h = le-by (value e) (value f) (omega (arith, sound e, sound f))

pub read-eq : (e f : Expr) → value e ≡ value f → minuend e + subtrahend f ≡ minuend f + subtrahend e
read-eq e f h = omega (arith, sound e, sound f, eq_is (value e) (value f) h)

pub read-le : (e f : Expr) → value e ≤ℤ value f → minuend e + subtrahend f ≤ minuend f + subtrahend e
read-le e f h = omega (arith, sound e, sound f, le_is (value e) (value f) h)

one-sided : (x : ℤ) (a b : ℕ) → pos_part x + b ≡ neg_part x + a → nat_abs x ≡ (a - b) + (b - a)
one-sided (pos c) a b e = omega arith
one-sided (negsuc c) a b e = omega arith

pub read-abs : (e : Expr) → nat_abs (value e) ≡ (minuend e - subtrahend e) + (subtrahend e - minuend e)
read-abs e = one-sided (value e) (minuend e) (subtrahend e) (sound e)
