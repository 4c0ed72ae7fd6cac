-- `twin` meets its contract: the list has "no twin" for a half-edge that has none.
use borrow.Author.Rules.{rules}
use Rattle.mesh.proofs.WalkLaws.{corner-none, corner-some}
use Rattle.mesh.proofs.walk.Twins.twin.Goals as goal

pub returns-then-d : goal.returns-then-d
returns-then-d c = search (corner-none, rules)

pub returns : goal.returns
returns c = search (corner-some, rules)
