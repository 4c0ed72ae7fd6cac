-- `blend` meets its contract: after each turn the sum is the definition's over the terms passed, and at most 2 ^ 62 in size.
use mathlib.Core.Path.{◌≡◌}
use Prim.Native.Nat.{◌-◌, ◌≤◌}
use lib.IntN.{pos}
use lib.ListN.{get_or}
use Rattle.finite.specs.Fold.{sum_below_ℤ}
use Rattle.sample.proofs.BlendLaws.{term}
use Rattle.sample.proofs.bernstein.blend.Given as goal

abbrev pub invariant-loop-i : goal.invariant-loop-i
invariant-loop-i l = (l.i ≤ 4) × (l.sum ≡ sum_below_ℤ (term l.weights (λ j. get_or l.values j (pos 0))) l.i)

abbrev pub decreases-loop-i : goal.decreases-loop-i
decreases-loop-i l = 4 - l.i
