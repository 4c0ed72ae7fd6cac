-- `fill_corners` meets its contract: each pass writes one coordinate of the corner points, and takes flags away.
use native.Mathlib.Nat.{not-suc-le-zero}
use native.Mathlib.Omega.{arith}
use Rattle.finite.specs.Fold.{fold_below}
use Rattle.patch.specs.PatchTables.{ruled_point}
use Rattle.patch.specs.Sources.{corners_in}
use Rattle.patch.proofs.CornerTableLaws.{corners-more}
use Rattle.patch.proofs.corners.VertexSource.fill_corners.Goals as goal

pub loop-k-init : goal.loop-k-init
unfolding fold_below
loop-k-init c = record { points-are = λ k p b l. absurd (not-suc-le-zero b); flags-are = c.requires.flagged }

pub loop-k-preserved : goal.loop-k-preserved
loop-k-preserved c =
    corners-more (ruled_point (corners_in c.args.self)) c.args.self.vertices c.loop-k.k (omega arith) c.loop-k.invariant c.fill_coordinate.ensures
