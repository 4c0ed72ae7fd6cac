-- A weighted sum of numbers of 32 bits as the machine computes it, in 64 bits: each number is stored as its bits and read back, and nothing is lost.
--
--   Sum            a sum of numbers, each with a weight (`term`) or as it is (`one`)
--   value e        the integer that it is
--   weights e      the sum of its weights
--   stored z       the integer z, stored in 64 bits and read back
--   machine e      what the machine computes for e, from what it has stored
--   Ranged e, Light e   its numbers fit 32 bits; its weights sum to at most 2^20
--   Narrow a       the four values of a face fit 32 bits
use mathlib.Core.Path.{◌≡◌, sym, ap, ap₂, ◌∙◌, subst}
use Prim.Native.Nat.{ℕ, ◌+◌, ◌*◌, ◌≤◌, ◌<◌, ◌^◌}
use native.Mathlib.Omega.{arith}
use lib.IntN.{ℤ, pos, negsuc, nat_abs, ◌+ℤ◌, ◌*ℤ◌}
use lib.Signed.{mag}
use mir.Syntax.{w32, w64}
use mir.Val.{SFits, to_z, of_z, hbits}
use mir.Facts.{to_z-of_z, to_z_pos, sfits_widen}
use Rattle.integer.proofs.Laws.{sfits-abs}
use Rattle.mask.specs.FractionOf.{fraction_of}
use Rattle.mask.specs.declared.model.FaceValues.{FaceValues}
use Rattle.mask.proofs.LinearLaws.{bounds}

infixl 6 ◌⊞◌
pub data Sum : Type 0 where
  one : ℤ → Sum
  term : ℕ → ℤ → Sum
  ◌⊞◌ : Sum → Sum → Sum

abbrev pub value : Sum → ℤ
value (one z) = z
value (term k z) = pos k *ℤ z
value (e ⊞ f) = value e +ℤ value f

abbrev pub weights : Sum → ℕ
weights (one z) = 1
weights (term k z) = k
weights (e ⊞ f) = weights e + weights f

abbrev pub stored : ℤ → ℤ
stored z = to_z w64 (of_z w64 z)

abbrev pub machine : Sum → ℤ
machine (one z) = to_z w32 (of_z w32 z)
machine (term k z) = to_z w64 k *ℤ stored (to_z w32 (of_z w32 z))
machine (e ⊞ f) = stored (machine e) +ℤ stored (machine f)

abbrev pub Ranged : Sum → Type 0
Ranged (one z) = SFits w32 z
Ranged (term k z) = SFits w32 z
Ranged (e ⊞ f) = Ranged e × Ranged f

abbrev pub Light : Sum → Type 0
Light e = weights e ≤ 1048576

-- the largest magnitude in 32 bits, that of the smallest number
range : (z : ℤ) → SFits w32 z → nat_abs z ≤ 2147483648 * 1
range (pos z) l = omega (arith, l.sfits)
range (negsuc z) l = omega (arith, l.sfits)

size : (e : Sum) → Ranged e → nat_abs (value e) ≤ 2147483648 * weights e
size (one z) l = range z l
size (term k z) l = omega (arith, (bounds 2147483648).scale k {k = 1} {z = z} {z' = z} (range z l))
size (e ⊞ f) l = (bounds 2147483648).plus {k = weights e} {l = weights f} {y = value e} {y' = value e} {z = value f} {z' = value f}
    (size e l.0) (size f l.1)

-- the value fits, with room to spare
value-fits : (e : Sum) → Ranged e → Light e → SFits w64 (value e)
value-fits e l w = sfits-abs (value e) (omega (arith, size e l))

pub exact : (e : Sum) → Ranged e → Light e → machine e ≡ value e
exact (one z) l w = to_z-of_z l
exact (term k z) l w = ap₂ ◌*ℤ◌ (to_z_pos w64 (omega arith)) (ap stored (to_z-of_z l) ∙ to_z-of_z {w = w64} (sfits_widen tt l))
exact (e ⊞ f) l w =
    let le : Light e = omega arith in
    let lf : Light f = omega arith in
    ap₂ ◌+ℤ◌ (ap stored (exact e l.0 le) ∙ to_z-of_z (value-fits e l.0 le)) (ap stored (exact f l.1 lf) ∙ to_z-of_z (value-fits f l.1 lf))

pub exact-stored : (e : Sum) → Ranged e → Light e → stored (machine e) ≡ value e
exact-stored e l w = ap stored (exact e l w) ∙ to_z-of_z (value-fits e l w)

pub fits : (e : Sum) → Ranged e → Light e → SFits w64 (machine e)
fits e l w = subst (SFits w64) (sym (exact e l w)) (value-fits e l w)

-- the fraction of a sum, as the machine hands it on
pub fraction : (e : Sum) → Ranged e → Light e → (den : ℕ)
    → fraction_of (record { num = stored (machine e); den = den }) ≡ record { num = value e; den = den }
fraction e l w den = rw (exact-stored e l w)

-- ---- the values of a face
pub record Narrow (a : FaceValues) : Type 0 where
  pub here : SFits w32 a.here
  pub next : SFits w32 a.next
  pub across : SFits w32 a.across
  pub prev : SFits w32 a.prev

pub narrow : (a : FaceValues) → mag a.here < 2 ^ hbits w32 → mag a.next < 2 ^ hbits w32 → mag a.across < 2 ^ hbits w32
    → mag a.prev < 2 ^ hbits w32 → Narrow a
narrow a h n c p = record { here = record { sfits = h }; next = record { sfits = n }; across = record { sfits = c }; prev = record { sfits = p } }
