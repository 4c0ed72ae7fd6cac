-- `sums` meets its contract: each place has the sums of the terms passed at its vertex, and no sum of 1024 terms overflows.
use lib.IntN.{pos, ◌+ℤ◌}
use Rattle.mesh.specs.Tables.{vertex_of}
use Rattle.patch.specs.Lists.{ring_term_by, sharp_term_by}
use Rattle.patch.proofs.SumLaws.{Passed}
use Rattle.patch.proofs.corners.VertexSource.sums.Given as goal

abbrev pub invariant-loop-c : goal.invariant-loop-c
invariant-loop-c l =
    Passed (pos 0) ◌+ℤ◌ (vertex_of l.self.faces.now) (ring_term_by l.self.values.now l.k) (sharp_term_by l.self.values.now l.self.ends.now l.k) l.c
    l.sums.ring l.sums.sharp
