-- `listed_part` meets its contract: the counts at both ends of the side are read, and the table of parts is that of the definition.
use Rattle.std.proofs.Common.{ap, ◌∙◌, ℕ, ◌+◌, ◌*◌, ◌/◌, ◌%◌, arith, w64}
use lib.ListN.{get_or}
use Rattle.integer.proofs.Laws.{read_back}
use Rattle.tangent.specs.Told.{part_told}
use Rattle.tangent.proofs.TableLaws.{part-is}
use Rattle.tangent.proofs.parts.listed_part.Goals as goal

pub returns : goal.returns
returns c =
    let a = c.args in
    let s = a.j % 12 / 3 in
    let count : ℕ → ℕ = λ t. get_or a.valences.now t 0 in
    read_back w64 c.part_of.type_inv
    (c.part_of.ensures
    ∙ ap (part_told a.tables.values.now a.tables.twins.now (count s) (count ((s + 1) % 4)) (a.j % 3) (4 * a.g + s))
    (part-is _ (a.j / 12) (omega (arith, c.requires.1))))
