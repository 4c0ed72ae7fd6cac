-- `edge` meets its contract: the mask is given the weight and the values that the edge point names.
use Rattle.std.proofs.Common.{sym, ap, ap₂, ◌∙◌, subst, ◌≤◌, ◌^◌, arith, nat_abs}
use Rattle.mask.specs.Mask.{Fraction, edge_mask}
use Rattle.mask.specs.declared.model.FaceValues.{FaceValues}
use Rattle.control.specs.Control.{edge_at, value_of}
use Rattle.control.proofs.ControlLaws.{narrow, edge-small}
use Rattle.control.proofs.value.Coordinate.edge.Goals as goal

pub in_units-requires : goal.in_units-requires
in_units-requires c =
    let a = c.face.result in
    let b = c.face-2.result in
    let ok = c.face.type_inv in
    let ok' = c.face-2.type_inv in
    let small =
    edge-small c.args.w a b (omega (arith, c.ranges.w))
    (narrow a (omega (arith, ok)) (omega (arith, ok)) (omega (arith, ok)) (omega (arith, ok)))
    (narrow b (omega (arith, ok')) (omega (arith, ok')) (omega (arith, ok')) (omega (arith, ok')))
    in
    subst (λ (q : Fraction). nat_abs q.num ≤ 2 ^ 54) (sym c.edge_mask.ensures) small

pub returns : goal.returns
unfolding edge_at
returns c =
    let of : FaceValues → FaceValues → Fraction = λ a b. edge_mask c.args.w a.here a.next a.prev b.across a.across b.prev in
    c.in_units.ensures ∙ ap value_of (c.edge_mask.ensures ∙ ap₂ of c.face.ensures c.face-2.ensures)
