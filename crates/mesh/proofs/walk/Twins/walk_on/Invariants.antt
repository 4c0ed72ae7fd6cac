-- `walk_on` meets its contract: the corners met are different, and the walk stops back at its start or where no corner comes next.
use Prim.Native.Nat.{◌-◌}
use lib.ListN.{length}
use Rattle.mesh.proofs.WalkLaws.{Onward}
use Rattle.mesh.specs.Tables.{twin_of}
use Rattle.mesh.proofs.walk.Twins.walk_on.Given as goal

abbrev pub invariant-loop-on : goal.invariant-loop-on
invariant-loop-on l = Onward (twin_of l.self.twins.now) (length l.self.faces.now) l.start l.met l.on

abbrev pub decreases-loop-on : goal.decreases-loop-on
decreases-loop-on l = length l.self.faces.now - l.met
