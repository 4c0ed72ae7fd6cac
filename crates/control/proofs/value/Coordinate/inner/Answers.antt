-- `inner` meets its contract: the mask is given the weight and the values that the inner point names.
use Rattle.std.proofs.Common.{sym, ap, ◌∙◌, subst, ◌≤◌, ◌^◌, arith, nat_abs}
use Rattle.mask.specs.Mask.{Fraction, inner_mask}
use Rattle.mask.specs.declared.model.FaceValues.{FaceValues}
use Rattle.control.specs.Control.{inner_at, value_of}
use Rattle.control.proofs.ControlLaws.{narrow, inner-small}
use Rattle.control.proofs.value.Coordinate.inner.Goals as goal

pub in_units-requires : goal.in_units-requires
in_units-requires c =
    let a = c.face.result in
    let ok = c.face.type_inv in
    let small =
    inner-small c.args.w a (omega (arith, c.ranges.w))
    (narrow a (omega (arith, ok)) (omega (arith, ok)) (omega (arith, ok)) (omega (arith, ok)))
    in
    subst (λ (q : Fraction). nat_abs q.num ≤ 2 ^ 54) (sym c.inner_mask.ensures) small

pub returns : goal.returns
unfolding inner_at
returns c =
    let of : FaceValues → Fraction = λ a. inner_mask c.args.w a.here a.next a.prev a.across in
    c.in_units.ensures ∙ ap value_of (c.inner_mask.ensures ∙ ap of c.face.ensures)
