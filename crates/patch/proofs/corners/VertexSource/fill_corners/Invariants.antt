-- `fill_corners` meets its contract: each pass writes one coordinate of the corner points, and takes flags away.
use Rattle.patch.specs.PatchTables.{CornerPoints, ruled_point}
use Rattle.patch.specs.Sources.{corners_in}
use Rattle.patch.proofs.corners.VertexSource.fill_corners.Given as goal

abbrev pub invariant-loop-k : goal.invariant-loop-k
invariant-loop-k l = CornerPoints (ruled_point (corners_in l.self)) l.self.vertices l.k l.points l.flags
