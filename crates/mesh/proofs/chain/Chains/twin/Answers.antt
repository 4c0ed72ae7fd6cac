-- `twin` meets its contract: the last half-edge that runs from the end of c to its start is the twin, as no half-edge occurs twice; where there is
-- none, c has no twin.
use mathlib.Core.Path.{ap, ◌∙◌}
use Prim.Native.Nat.{ℕ}
use Rattle.mesh.specs.HalfEdge.{runs}
use Rattle.mesh.specs.Tables.{vertex_of, latest}
use Rattle.mesh.proofs.ChainLaws.{twin-latest}
use Rattle.mesh.proofs.chain.Chains.twin.Goals as goal

pub returns : goal.returns
returns c =
    let vertex = vertex_of c.args.self.faces.now in
    c.unwrap_or.ensures
    ∙ twin-latest vertex c.args.self.n c.args.c c.find.result c.requires.1
    (c.find.ensures ∙ ap (λ (e : ℕ). latest (runs vertex (vertex e) (vertex c.args.c)) c.args.self.n) c.next_corner.ensures)
