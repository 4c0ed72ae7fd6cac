-- `reflected_coordinate` meets its contract: the negation of a coordinate within the limit fits 32 bits.
use mathlib.Core.Path.{◌≡◌, refl, sym, ap, ◌∙◌, subst}
use Prim.Native.Nat.{ℕ, zero, suc, ◌≤◌}
use native.Mathlib.Omega.{arith}
use lib.IntN.{ℤ, pos, neg_ℤ, nat_abs, ◌-ℤ◌}
use mir.Syntax.{w32}
use mir.Val.{SFits}
use mir.Facts.{to_z-of_z}
use Rattle.integer.proofs.Difference.{int, nat, ◌⊝◌, ~, prove-eq}
use Rattle.integer.proofs.Laws.{sfits-abs, abs_neg}
use Rattle.limits.specs.Limits.{max_coordinate}
use Rattle.edit.specs.Mirror.{reflected}
use Rattle.edit.proofs.image.reflected_coordinate.Goals as goal

-- ---- negation, as the machine does it
minus : (z : ℤ) → pos 0 -ℤ z ≡ neg_ℤ z
minus z = prove-eq (nat 0 ⊝ int z) (~ (int z)) (omega arith)

fits : (z : ℤ) → nat_abs z ≤ max_coordinate → SFits w32 (pos 0 -ℤ z)
fits z l = subst (SFits w32) (sym (minus z)) (sfits-abs (neg_ℤ z) (omega (arith, abs_neg z)))

-- y and z stay
kept : (k : ℕ) (z : ℤ) → (k ≡ 0 → ⊥) → z ≡ reflected k z
kept zero z h = absurd (h refl)
kept (suc k) z h = refl

pub overflow_sub-result : goal.overflow_sub-result
overflow_sub-result c = simp (to_z-of_z c.ranges.z) (fits c.args.z c.requires)

pub returns-then-k-eq0 : goal.returns-then-k-eq0
returns-then-k-eq0 c =
    simp (to_z-of_z c.ranges.z, to_z-of_z (fits c.args.z c.requires))
    (minus c.args.z ∙ ap (λ (k : ℕ). reflected k c.args.z) (sym c.if-k-eq0.true))

pub returns : goal.returns
returns c = simp (to_z-of_z c.ranges.z) (kept c.args.k c.args.z c.if-k-eq0.false)
