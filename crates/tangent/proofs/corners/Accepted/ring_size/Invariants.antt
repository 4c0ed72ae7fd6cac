-- `ring_size` meets its contract: the corners met are different, and the walk is back at its first corner, or ends at the boundary.
use Rattle.std.proofs.Common.{◌-◌, length}
use Rattle.mesh.specs.Tables.{twin_of}
use Rattle.mesh.proofs.WalkLaws.{Onward}
use Rattle.tangent.proofs.corners.Accepted.ring_size.Given as goal

abbrev pub invariant-loop-on : goal.invariant-loop-on
invariant-loop-on l = Onward (twin_of l.self.twins.now) (length l.self.mesh.indices.now) l.c l.met l.on

abbrev pub decreases-loop-on : goal.decreases-loop-on
decreases-loop-on l = length l.self.mesh.indices.now - l.met
