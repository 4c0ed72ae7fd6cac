-- Signed arithmetic as the machine does it in 64 bits: each operand is stored as its bits and read back, and nothing is lost where every part is small.
--
--   Term           a number of 32 bits (`narrow`) or 64 bits (`wide`) with a bound of its size, a multiple, a product, a sum, a difference
--   value e        the integer that it is
--   bound e        a bound of its size
--   machine e      what the machine computes for e, from what it has stored
--   Ranged e       its numbers fit their bits and keep their bounds
--   small e        no part of it has a bound of 2^63 or more
use mathlib.Core.Path.{◌≡◌, refl, sym, ap, ap₂, ◌∙◌, subst}
use mathlib.Core.Bool.{Bool, true, ◌&&◌}
use Prim.Native.Nat.{ℕ, ◌+◌, ◌*◌, ◌≤◌, ◌<◌, ◌^◌}
use native.Mathlib.Nat.{mul-le-mul_left}
use native.Mathlib.Omega.{arith}
use lib.Dec.{ltb}
use lib.IntN.{ℤ, pos, neg_ℤ, nat_abs, ◌+ℤ◌, ◌-ℤ◌, ◌*ℤ◌}
use borrow.Author.Tests.{ltb-true}
use mir.Syntax.{w32, w64}
use mir.Val.{SFits, to_z, of_z}
use mir.Facts.{to_z-of_z, to_z_pos}
use Rattle.integer.proofs.Difference.{int, nat, ◌⊝◌, ~, prove-eq}
use Rattle.integer.proofs.Laws.{abs_neg, abs-+, abs--, abs-*, abs-*-≤, sfits-abs}
use Rattle.finite.proofs.AnyAll.{and-true}

infixl 6 ◌⊞◌
infixl 6 ◌⊟◌
infixl 7 ◌⊠◌
pub data Term : Type 0 where
  narrow wide : ℤ → ℕ → Term
  times : ℕ → Term → Term
  ◌⊠◌ ◌⊞◌ ◌⊟◌ : Term → Term → Term

abbrev pub value : Term → ℤ
value (narrow z B) = z
value (wide z B) = z
value (times k e) = pos k *ℤ value e
value (e ⊠ f) = value e *ℤ value f
value (e ⊞ f) = value e +ℤ value f
value (e ⊟ f) = value e -ℤ value f

abbrev pub bound : Term → ℕ
bound (narrow z B) = B
bound (wide z B) = B
bound (times k e) = k * bound e
bound (e ⊠ f) = bound e * bound f
bound (e ⊞ f) = bound e + bound f
bound (e ⊟ f) = bound e + bound f

abbrev pub stored : ℤ → ℤ
stored z = to_z w64 (of_z w64 z)

abbrev pub machine : Term → ℤ
machine (narrow z B) = to_z w32 (of_z w32 z)
machine (wide z B) = z
machine (times k e) = to_z w64 k *ℤ stored (machine e)
machine (e ⊠ f) = stored (machine e) *ℤ stored (machine f)
machine (e ⊞ f) = stored (machine e) +ℤ stored (machine f)
machine (e ⊟ f) = stored (machine e) -ℤ stored (machine f)

abbrev pub Ranged : Term → Type 0
Ranged (narrow z B) = SFits w32 z × (nat_abs z ≤ B)
Ranged (wide z B) = nat_abs z ≤ B
Ranged (times k e) = Ranged e
Ranged (e ⊠ f) = Ranged e × Ranged f
Ranged (e ⊞ f) = Ranged e × Ranged f
Ranged (e ⊟ f) = Ranged e × Ranged f

-- this part itself, and the parts of it
abbrev light : Term → Bool
light e = ltb (bound e) (2 ^ 63)

abbrev pub small : Term → Bool
small (narrow z B) = light (narrow z B)
small (wide z B) = light (wide z B)
small (times k e) = light (times k e) && (ltb k (2 ^ 63) && small e)
small (e ⊠ f) = light (e ⊠ f) && (small e && small f)
small (e ⊞ f) = light (e ⊞ f) && (small e && small f)
small (e ⊟ f) = light (e ⊟ f) && (small e && small f)

pub size : (e : Term) → Ranged e → nat_abs (value e) ≤ bound e
size (narrow z B) r = r.1
size (wide z B) r = r
size (times k e) r = omega (arith, abs-* (pos k) (value e), mul-le-mul_left k (size e r))
size (e ⊠ f) r = abs-*-≤ (value e) (value f) (size e r.0) (size f r.1)
size (e ⊞ f) r = omega (arith, abs-+ (value e) (value f), size e r.0, size f r.1)
size (e ⊟ f) r = omega (arith, abs-- (value e) (value f), size e r.0, size f r.1)

small-light : (e : Term) → small e ≡ true → light e ≡ true
small-light (narrow z B) h = h
small-light (wide z B) h = h
small-light (times k e) h = (and-true (light (times k e)) (ltb k (2 ^ 63) && small e) h).0
small-light (e ⊠ f) h = (and-true (light (e ⊠ f)) (small e && small f) h).0
small-light (e ⊞ f) h = (and-true (light (e ⊞ f)) (small e && small f) h).0
small-light (e ⊟ f) h = (and-true (light (e ⊟ f)) (small e && small f) h).0

value-fits : (e : Term) → Ranged e → small e ≡ true → SFits w64 (value e)
value-fits e r h = sfits-abs (value e) (omega (arith, size e r, ltb-true (bound e) (2 ^ 63) (small-light e h)))

parts : (x y z : Bool) → (x && (y && z)) ≡ true → (y ≡ true) × (z ≡ true)
parts x y z h = and-true y z (and-true x (y && z) h).1

read-stored : (e : Term) → machine e ≡ value e → Ranged e → small e ≡ true → stored (machine e) ≡ value e
read-stored e q r h = ap stored q ∙ to_z-of_z (value-fits e r h)

exact : (e : Term) → Ranged e → small e ≡ true → machine e ≡ value e
exact (narrow z B) r h = to_z-of_z r.0
exact (wide z B) r h = refl
exact (times k e) r h =
    let b = parts (light (times k e)) (ltb k (2 ^ 63)) (small e) h in
    ap₂ ◌*ℤ◌ (to_z_pos w64 (omega (arith, ltb-true k (2 ^ 63) b.0))) (read-stored e (exact e r b.1) r b.1)
exact (e ⊠ f) r h =
    let b = parts (light (e ⊠ f)) (small e) (small f) h in
    ap₂ ◌*ℤ◌ (read-stored e (exact e r.0 b.0) r.0 b.0) (read-stored f (exact f r.1 b.1) r.1 b.1)
exact (e ⊞ f) r h =
    let b = parts (light (e ⊞ f)) (small e) (small f) h in
    ap₂ ◌+ℤ◌ (read-stored e (exact e r.0 b.0) r.0 b.0) (read-stored f (exact f r.1 b.1) r.1 b.1)
exact (e ⊟ f) r h =
    let b = parts (light (e ⊟ f)) (small e) (small f) h in
    ap₂ ◌-ℤ◌ (read-stored e (exact e r.0 b.0) r.0 b.0) (read-stored f (exact f r.1 b.1) r.1 b.1)

-- what it has stored, read back
pub result : (e : Term) → Ranged e → small e ≡ true → stored (machine e) ≡ value e
result e r h = read-stored e (exact e r h) r h

-- what it stores fits
pub fits : (e : Term) → Ranged e → small e ≡ true → SFits w64 (machine e)
fits e r h = subst (SFits w64) (sym (exact e r h)) (value-fits e r h)

-- ---- a negation, which the machine makes as a difference from 0
pub negation : (z : ℤ) → pos 0 -ℤ z ≡ neg_ℤ z
negation z = prove-eq (nat 0 ⊝ int z) (~ (int z)) (omega arith)

pub negation-fits : (z : ℤ) → nat_abs z < 2 ^ 63 → SFits w64 (neg_ℤ z)
negation-fits z l = sfits-abs (neg_ℤ z) (omega (arith, abs_neg z))
