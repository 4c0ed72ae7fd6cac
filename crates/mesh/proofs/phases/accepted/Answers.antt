-- `accepted` meets its contract: the half-edges before their twins are the edges, and 4F + B = 2E gives the boundary.
use mathlib.Core.Path.{◌≡◌, ap₂, ◌∙◌}
use Prim.Native.Nat.{ℕ, ◌+◌, ◌*◌, ◌-◌}
use native.Mathlib.Omega.{arith}
use lib.Dec.{ltb}
use Rattle.finite.proofs.Counting.{count-le}
use Rattle.mesh.specs.HalfEdge.{boundaries}
use Rattle.finite.specs.Fold.{count_below}
use Rattle.mesh.proofs.ListLaws.{count-front}
use Rattle.mesh.proofs.PhaseLaws.{edges-table, edges-left}
use Rattle.mesh.specs.Tables.{twin_of, vertex_of}
use Rattle.mesh.proofs.phases.accepted.Goals.{After-count_edges-edges}
use Rattle.mesh.proofs.phases.accepted.Goals as goal

-- ---- the edges are counted: the boundary half-edges are what they leave over
module _ (c : After-count_edges-edges) where
  abbrev n : ℕ
  n = 4 * c.args.mesh.faces

  abbrev boundary-count : ℕ
  boundary-count = boundaries (vertex_of c.args.mesh.indices.now) n

  counted : c.count_edges-edges.result ≡ count_below (λ d. ltb d (twin_of c.args.twins.now d)) n
  counted = c.count_edges-edges.ensures ∙ count-front ltb c.args.twins.now n c.requires.twinned.twins-listed

  left : n + boundary-count ≡ 2 * c.count_edges-edges.result
  left = edges-left c.requires c.count_edges-edges.result counted

-- ---- the answers, in the order of the code
pub overflow_mul-boundary : goal.overflow_mul-boundary
overflow_mul-boundary c =
    let a = (goal.at.overflow_mul-boundary c).After-count_edges-edges in
    omega (arith, c.requires.twinned.indices.few, counted a, count-le (λ d. ltb d (twin_of c.args.twins.now d)) (n a))

pub overflow_sub-boundary : goal.overflow_sub-boundary
overflow_sub-boundary c = omega (arith, left (goal.at.overflow_sub-boundary c).After-count_edges-edges)

pub returns : goal.returns
returns c =
    let a = (goal.at.returns c).After-count_edges-edges in
    let m = c.args.mesh in
    let b : 2 * c.count_edges-edges.result - n a ≡ boundary-count a = omega (arith, left a) in
    ap₂ (λ (e x : ℕ). record { vertices = m.vertices; faces = m.faces; edges = e; boundary = x }) (counted a ∙ edges-table c.requires) b
