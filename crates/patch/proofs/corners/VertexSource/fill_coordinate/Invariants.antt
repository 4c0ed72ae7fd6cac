-- `fill_coordinate` meets its contract: coordinate k of the corner points passed is written, by the rule of each vertex and its two sums.
use Rattle.patch.specs.PatchTables.{Coordinate, ruled_point}
use Rattle.patch.specs.Sources.{corners_in}
use Rattle.patch.proofs.corners.VertexSource.fill_coordinate.Given as goal

abbrev pub invariant-loop-p : goal.invariant-loop-p
invariant-loop-p l = Coordinate (ruled_point (corners_in l.self) l.k) l.p l.k l.initial.points l.points l.initial.flags l.flags
