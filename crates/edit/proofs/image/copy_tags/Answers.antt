-- `copy_tags` meets its contract: the places passed hold the tags, and there is no other place.
use mathlib.Core.Path.{refl, ◌∙◌}
use native.Mathlib.Omega.{arith}
use Rattle.finite.proofs.FilledLaws.{filled-start, filled_more, filled-all, filled-whole}
use Rattle.finite.proofs.Lists.{below-of-list}
use Rattle.edit.proofs.image.copy_tags.Goals as goal

pub loop-p-init : goal.loop-p-init
loop-p-init c = filled-start _ _

pub loop-p-preserved : goal.loop-p-preserved
loop-p-preserved c = filled_more _ _ _ _ _ c.loop-p-test.true c.loop-p.invariant refl

pub returns : goal.returns
returns c = filled-all _ _ _ _ _ (omega arith) (omega arith) c.loop-p.invariant ∙ filled-whole _ _ _ c.requires ∙ below-of-list c.args.tags.now 0
