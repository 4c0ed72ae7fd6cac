-- `around` meets its contract: the corner after c is the twin of the half-edge that comes in before it.
use borrow.Author.Rules.{rules}
use Rattle.mesh.proofs.WalkLaws.{around-corner}
use Rattle.mesh.proofs.walk.Twins.around.Goals as goal

pub returns : goal.returns
returns c = search (around-corner, rules)
