-- `quotient` meets its contract: the rounded magnitude is at most the magnitude, so with the sign of `num` it fits,
-- and by the sign's two cases it is `nearest`.
use Rattle.std.proofs.Common.{◌≡◌, ◌∙◌, ap, ℕ, ◌≤◌, true, false, arith, w64, pos, neg_ℤ, nat_abs, FitsSigned}
use lib.Signed.{lt_z}
use mir.Facts.{to_z-of_z}
use Rattle.integer.specs.Nearest.{nearest_ℕ}
use Rattle.integer.proofs.Rounding.{mag-negative, mag-not-negative, nearest_negative, nearest-not-negative, nearest_ℕ-≤}
use Rattle.integer.proofs.quotient.Goals.{After-round_magnitude-size, Else-num-lt0, Then-num-lt0}
use Rattle.integer.proofs.quotient.Goals as goal

size : (c : After-round_magnitude-size) → c.round_magnitude-size.result ≡ nearest_ℕ (nat_abs c.args.num) c.args.den
size c =
    let f : FitsSigned w64 c.args.num = c.ranges.num in
    c.round_magnitude-size.ensures ∙ ap (λ (a : ℕ). nearest_ℕ a c.args.den) (simp to_z-of_z at c.magnitude.ensures)

size-≤ : (c : After-round_magnitude-size) → c.round_magnitude-size.result ≤ nat_abs c.args.num
size-≤ c = rw (size c) (nearest_ℕ-≤ (nat_abs c.args.num) c.args.den)

negative : (c : Then-num-lt0) → lt_z c.args.num (pos 0) ≡ true
negative c = let f : FitsSigned w64 c.args.num = c.ranges.num in simp to_z-of_z at c.if-num-lt0.true

not_negative : (c : Else-num-lt0) → lt_z c.args.num (pos 0) ≡ false
not_negative c = let f : FitsSigned w64 c.args.num = c.ranges.num in simp to_z-of_z at c.if-num-lt0.false

pub negated-requires : goal.negated-requires
negated-requires c = omega (arith, size-≤ c.before, mag-negative c.args.num (negative c))

pub overflow_cast-result : goal.overflow_cast-result
overflow_cast-result c = record { sfits = omega (arith, size-≤ c.before, mag-not-negative c.args.num (not_negative c)) }

pub returns-then-num-lt0 : goal.returns-then-num-lt0
returns-then-num-lt0 c =
    to_z-of_z {w = w64} (record { sfits = c.negated.type_inv })
    ∙ c.negated.ensures
    ∙ ap (λ (a : ℕ). neg_ℤ (pos a)) (size c.before.before)
    ∙ nearest_negative _ _ (negative c.before)

pub returns-else-num-lt0 : goal.returns-else-num-lt0
returns-else-num-lt0 c = to_z-of_z (overflow_cast-result c) ∙ ap pos (size c.before) ∙ nearest-not-negative _ _ (not_negative c)
