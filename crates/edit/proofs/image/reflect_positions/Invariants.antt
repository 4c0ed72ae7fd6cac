-- `reflect_positions` meets its contract: the places passed hold their coordinates reflected, and the others what they held.
use mathlib.Core.Path.{◌≡◌}
use Prim.Native.Nat.{◌%◌}
use lib.IntN.{pos}
use lib.ListN.{get_or}
use Rattle.finite.specs.Filled.{filled}
use Rattle.edit.specs.Mirror.{reflected}
use Rattle.edit.proofs.image.reflect_positions.Given as goal

abbrev pub invariant-loop-i : goal.invariant-loop-i
invariant-loop-i l = l.out ≡ filled (λ j. reflected (j % 3) (get_or l.positions j (pos 0))) l.i l.initial.out
