-- `reflect_positions` meets its contract: the places passed hold their coordinates reflected, and the others what they held.
use mathlib.Core.Path.{ap, ◌∙◌}
use Prim.Native.Nat.{◌%◌, ◌≤◌}
use native.Mathlib.Omega.{arith}
use lib.IntN.{ℤ, pos, nat_abs}
use lib.ListN.{get_or}
use mir.Syntax.{w32}
use mir.Val.{SFits}
use mir.Facts.{to_z-of_z}
use Rattle.integer.proofs.Laws.{sfits-abs, read_back}
use Rattle.limits.specs.Limits.{max_coordinate}
use Rattle.edit.specs.Mirror.{reflected}
use Rattle.finite.proofs.FilledLaws.{filled-start, filled_more, filled-all}
use Rattle.edit.proofs.image.reflect_positions.Goals as goal

pub loop-i-init : goal.loop-i-init
loop-i-init c = filled-start _ _

pub loop-i-preserved : goal.loop-i-preserved
loop-i-preserved c =
    let z : ℤ = get_or c.args.positions.now c.loop-i.i (pos 0) in
    let small : nat_abs z ≤ max_coordinate = c.requires.by_index c.loop-i.i (omega arith) in
    let fits : SFits w32 z = sfits-abs z (omega arith) in
    filled_more _ _ _ _ _ c.loop-i-test.true c.loop-i.invariant
    (read_back w32 c.reflected_coordinate.type_inv (c.reflected_coordinate.ensures ∙ ap (reflected (c.loop-i.i % 3)) (to_z-of_z fits)))

pub returns : goal.returns
returns c = filled-all _ _ _ _ _ (omega arith) (omega arith) c.loop-i.invariant
