-- `fill_ends` meets its contract: the ends of a corner are what the twins tell of half-edge c and of the one before it.
use mathlib.Core.Path.{◌≡◌}
use Rattle.finite.specs.Filled.{filled}
use Rattle.patch.specs.Lists.{ends_in}
use Rattle.patch.proofs.counts.fill_ends.Given as goal

abbrev pub invariant-loop-c : goal.invariant-loop-c
invariant-loop-c l = l.place-items ≡ filled (ends_in l.twins) l.c l.initial.place-items
