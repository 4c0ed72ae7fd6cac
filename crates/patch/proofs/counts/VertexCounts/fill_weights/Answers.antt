-- `fill_weights` meets its contract: the tables have the faces of the corner's vertex, and whether it is inside, which make its weight.
use mathlib.Core.Path.{◌∙◌}
use Prim.Native.Nat.{ℕ, ◌<◌, ◌≤◌}
use native.Mathlib.Omega.{arith}
use lib.ListN.{length, get_or, length-take}
use Rattle.limits.specs.Limits.{max_vertices}
use Rattle.finite.proofs.FilledLaws.{filled-start, filled_more}
use Rattle.mesh.specs.Tables.{vertex_of}
use Rattle.patch.specs.Lists.{shape_of}
use Rattle.patch.proofs.SumLaws.{valence-few}
use Rattle.patch.proofs.TableLaws.{weight-most, weight-entries}
use Rattle.patch.proofs.FillingLaws.{filled-lent}
use Rattle.patch.proofs.counts.VertexCounts.fill_weights.Goals.{After-corner_weight}
use Rattle.patch.proofs.counts.VertexCounts.fill_weights.Goals as goal

-- ---- a turn: corner c is listed, and its vertex has a place in the tables
module _ (c : After-corner_weight) where
  below : c.loop-c.c < length c.args.faces.now
  below = let h = length-take (length c.args.faces.now) c.args.weights.now in omega (arith, c.loop-c-test.true)

  named : c.from-p.result < max_vertices
  named = rw c.from-p.ensures (c.requires.indices.named c.loop-c.c below)

pub loop-c-init : goal.loop-c-init
loop-c-init c = filled-start _ _

-- a weight is 4, or at most twice as many as there are corners
pub overflow_cast-weight : goal.overflow_cast-weight
overflow_cast-weight c =
    let n : ℕ = length c.args.faces.now in
    let few : get_or c.args.self.now.valences c.from-p.result 0 ≤ n =
    rw (c.requires.counts.valences-are c.from-p.result (named c)) (valence-few (vertex_of c.args.faces.now) c.from-p.result n) in
    rw (c.corner_weight.ensures) (omega (arith, weight-most c.inside.result (get_or c.args.self.now.valences c.from-p.result 0) n few, c.requires.indices.few))

pub loop-c-preserved : goal.loop-c-preserved
loop-c-preserved c =
    let p = c.from-p.result in
    let k = c.requires.counts in
    filled_more _ _ _ _ _ c.loop-c-test.true c.loop-c.invariant
    (c.corner_weight.ensures
    ∙ weight-entries (shape_of c.args.faces.now) c.loop-c.c p _ _ c.from-p.ensures (c.inside.ensures ∙ k.inside-are p (named c)) (k.valences-are p (named c)))

pub returns : goal.returns
returns c =
    let h = length-take (length c.args.faces.now) c.args.weights.now in
    filled-lent _ _ c.loop-c.c _ _ c.requires.room (omega arith) c.loop-c.invariant
