-- `write_points` meets its contract: at each a the list is filled with the points before it, and the three sums are those of a.
use Prim.Native.Nat.{◌+◌, ◌-◌}
use Rattle.line.proofs.LineLaws.{LineDrawn}
use Rattle.line.proofs.points.write_points.Given as goal

abbrev pub invariant-loop-a : goal.invariant-loop-a
invariant-loop-a l = LineDrawn l.curves l.n l.initial.line l.line l.x l.y l.z l.a

abbrev pub decreases-loop-a : goal.decreases-loop-a
decreases-loop-a l = l.n + 1 - l.a
