-- `copy_tags` meets its contract: the places passed hold the tags, and there is no other place.
use mathlib.Core.Path.{◌≡◌}
use lib.ListN.{get_or}
use Rattle.finite.specs.Filled.{filled}
use Rattle.edit.proofs.image.copy_tags.Given as goal

abbrev pub invariant-loop-p : goal.invariant-loop-p
invariant-loop-p l = l.out ≡ filled (λ p. get_or l.tags p 0) l.p l.initial.out
