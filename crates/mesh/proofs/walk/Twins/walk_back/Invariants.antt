-- `walk_back` meets its contract: the corners met grow by the one before the first of them until there is none, so they are one chain.
use Prim.Native.Nat.{◌-◌}
use lib.ListN.{length}
use Rattle.mesh.proofs.WalkLaws.{Backward}
use Rattle.mesh.specs.Tables.{twin_of}
use Rattle.mesh.proofs.walk.Twins.walk_back.Given as goal

abbrev pub invariant-loop-back : goal.invariant-loop-back
invariant-loop-back l = Backward (twin_of l.self.twins.now) (length l.self.faces.now) l.start l.met l.back

abbrev pub decreases-loop-back : goal.decreases-loop-back
decreases-loop-back l = length l.self.faces.now - l.met
