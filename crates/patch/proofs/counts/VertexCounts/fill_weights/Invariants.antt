-- `fill_weights` meets its contract: the tables have the faces of the corner's vertex, and whether it is inside, which make its weight.
use mathlib.Core.Path.{◌≡◌}
use Rattle.finite.specs.Filled.{filled}
use Rattle.patch.specs.Point.{weight}
use Rattle.patch.specs.Lists.{shape_of}
use Rattle.patch.proofs.counts.VertexCounts.fill_weights.Given as goal

abbrev pub invariant-loop-c : goal.invariant-loop-c
invariant-loop-c l = l.weight-items ≡ filled (weight (shape_of l.faces)) l.c l.initial.weight-items
