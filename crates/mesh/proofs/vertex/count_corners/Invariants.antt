-- `count_corners` meets its contract: each place has counted the corners passed at its vertex.
use Prim.Native.Nat.{◌+◌}
use Rattle.finite.proofs.Gather.{Gathered}
use Rattle.limits.specs.Limits.{max_vertices}
use Rattle.mesh.specs.Tables.{vertex_of}
use Rattle.mesh.proofs.vertex.count_corners.Given as goal

abbrev pub invariant-loop-p : goal.invariant-loop-p
invariant-loop-p l = Gathered 0 ◌+◌ (vertex_of l.faces) (λ d. 1) l.p-index max_vertices l.valences
