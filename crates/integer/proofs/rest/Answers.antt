-- `rest` meets its contract: the sign of `num` is put back on the rest of its magnitude, which is at most the divisor.
use Rattle.std.proofs.Common.{◌≡◌, ◌∙◌, ap, cond, ℕ, ◌<◌, arith, w64, ℤ, pos, neg_ℤ, nat_abs, FitsSigned}
use lib.Signed.{lt_z}
use mir.Facts.{to_z-of_z}
use Rattle.integer.proofs.Laws.{read_back}
use Rattle.integer.proofs.Rounding.{rest_ℕ, remainder_signed, remainder-0, rest-small}
use Rattle.integer.proofs.rest.Goals.{After-rest_of_magnitude}
use Rattle.integer.proofs.rest.Goals as goal

-- ---- the rest of the magnitude is given
module _ (c : After-rest_of_magnitude) where
  abbrev left : ℤ
  left = rest_ℕ (nat_abs c.args.num) c.args.den

  left_is : c.rest_of_magnitude.result ≡ left
  left_is =
      let f : FitsSigned w64 c.args.num = c.ranges.num in
      c.rest_of_magnitude.ensures ∙ ap (λ (a : ℕ). rest_ℕ a c.args.den) (simp to_z-of_z at c.magnitude.ensures)

  some : 0 < c.args.den
  some = omega (arith, c.if-den-gt0.true)

pub with_sign-requires : goal.with_sign-requires
with_sign-requires c =
    rw (read_back w64 c.rest_of_magnitude.type_inv (left_is c)) (omega (arith, rest-small (nat_abs c.args.num) c.args.den (some c)))

pub returns-then-den-gt0 : goal.returns-then-den-gt0
returns-then-den-gt0 c =
    let r : After-rest_of_magnitude = c.before in
    let f : FitsSigned w64 c.args.num = c.ranges.num in
    let g : FitsSigned w64 c.rest_of_magnitude.result = record { sfits = c.rest_of_magnitude.type_inv } in
    to_z-of_z {w = w64} (record { sfits = c.with_sign.type_inv })
    ∙ c.with_sign.ensures
    ∙ simp (to_z-of_z f, to_z-of_z g)
    (ap (λ (z : ℤ). cond (lt_z c.args.num (pos 0)) (neg_ℤ z) z) (left_is r) ∙ remainder_signed c.args.num c.args.den)

pub returns : goal.returns
returns c =
    let none : c.args.den ≡ 0 = omega (arith, c.if-den-gt0.false) in
    to_z-of_z c.ranges.num ∙ rw none (remainder-0 c.args.num)
