-- `count_faces` meets its contract: each place has the counts of the corners passed at its vertex, and no count of 1024 corners overflows.
use Prim.Native.Nat.{◌+◌}
use Rattle.finite.specs.Fold.{indicator}
use Rattle.mesh.specs.Tables.{vertex_of}
use Rattle.patch.specs.Lists.{boundary_in}
use Rattle.patch.proofs.SumLaws.{Passed}
use Rattle.patch.proofs.counts.count_faces.Given as goal

abbrev pub invariant-loop-c : goal.invariant-loop-c
invariant-loop-c l =
    Passed 0 ◌+◌ (vertex_of l.faces) (λ d. 1) (λ d. indicator (boundary_in l.twins d)) l.c l.counts.valences l.counts.leaving
