-- `fill_twins` meets its contract: the places passed hold their twins, and the others what they held.
use mathlib.Core.Path.{◌≡◌}
use Rattle.finite.specs.Filled.{filled}
use Rattle.mesh.specs.HalfEdge.{twin}
use Rattle.mesh.specs.Tables.{vertex_of}
use Rattle.mesh.proofs.chain.Chains.fill_twins.Given as goal

abbrev pub invariant-loop-c : goal.invariant-loop-c
invariant-loop-c l = l.place-items ≡ filled (twin (vertex_of l.self.faces.now) l.self.n) l.c l.initial.place-items
