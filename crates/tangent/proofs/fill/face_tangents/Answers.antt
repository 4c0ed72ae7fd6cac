-- `face_tangents` meets its contract: the values, the parts and the cosines are made one from the other, and the numbers from them.
use Rattle.std.proofs.Common.{◌≡◌, ap, ap₂, ◌∙◌, List, ℕ, ℤ}
use Rattle.tangent.specs.Lists.{parts_from, values_of, numbers_by, cosines_from}
use Rattle.tangent.proofs.DrawnLaws.{table-small, source, known}
use Rattle.tangent.proofs.fill.face_tangents.Goals.{After-side_parts-parts}
use Rattle.tangent.proofs.fill.face_tangents.Goals as goal

pub invariant_of-tables : goal.invariant_of-tables
invariant_of-tables c = record { small = table-small c.requires c.fill_values.ensures }

pub side_parts-parts-requires : goal.side_parts-parts-requires
side_parts-parts-requires c = source c.requires

parts-are : (c : After-side_parts-parts)
    → c.side_parts-parts.result
    ≡ parts_from (values_of c.args.accepted.mesh.positions.now c.args.accepted.mesh.indices.now) c.args.accepted.twins.now c.args.valences.now c.args.g
parts-are c = c.side_parts-parts.ensures ∙ ap (λ (v : List ℤ). parts_from v c.args.accepted.twins.now c.args.valences.now c.args.g) c.fill_values.ensures

pub invariant_of-source : goal.invariant_of-source
invariant_of-source c =
    record { known = known c.requires (parts-are (goal.at.invariant_of-source c).After-side_parts-parts) c.cosines_of-cosines.ensures }

pub returns : goal.returns
returns c =
    let a = c.args in
    let counted = c.requires.counted in
    let table = values_of a.accepted.mesh.positions.now a.accepted.mesh.indices.now in
    c.numbers.ensures
    ∙ ap₂ numbers_by
    (parts-are (goal.at.returns c).After-side_parts-parts ∙ ap (λ (v : List ℕ). parts_from table a.accepted.twins.now v a.g) counted)
    (c.cosines_of-cosines.ensures ∙ ap cosines_from counted)
