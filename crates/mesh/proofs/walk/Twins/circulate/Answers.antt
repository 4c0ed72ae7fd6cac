-- `circulate` meets its contract: a walk on that came back to its start is a closed turn, and one that ended is completed by the walk back.
use Rattle.mesh.proofs.ConnectedLaws.{corners-whole, twins-paired}
use Rattle.mesh.proofs.WalkLaws.{run-closed}
use Rattle.mesh.proofs.walk.Twins.circulate.Goals as goal

pub returns-in-Closed : goal.returns-in-Closed
returns-in-Closed c = let t = c.args.self.twinned in run-closed (corners-whole t) (twins-paired t) _ c.requires _ c.in-Closed.ensures
