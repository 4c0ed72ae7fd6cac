-- `reflect_faces` meets its contract: the places passed hold the vertices of their reflected corners, and the others what they held.
use mathlib.Core.Path.{ap}
use Prim.Native.Nat.{ℕ}
use native.Mathlib.Omega.{arith}
use lib.ListN.{get_or}
use Rattle.finite.proofs.FilledLaws.{filled-start, filled_more, filled-all}
use Rattle.edit.proofs.image.reflect_faces.Goals as goal

pub loop-c-init : goal.loop-c-init
loop-c-init c = filled-start _ _

pub loop-c-preserved : goal.loop-c-preserved
loop-c-preserved c =
    filled_more _ _ _ _ _ c.loop-c-test.true c.loop-c.invariant (ap (λ (d : ℕ). get_or c.args.faces.now d 0) c.reflected_corner.ensures)

pub returns : goal.returns
returns c = filled-all _ _ _ _ _ (omega arith) (omega arith) c.loop-c.invariant
