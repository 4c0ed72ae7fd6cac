-- `count_corners` meets its contract: each place has counted the corners passed at its vertex.
use mathlib.Core.Path.{◌≡◌, refl, ap, ◌∙◌}
use Prim.Native.Nat.{◌+◌, ℕ, ◌<◌}
use lib.ListN.{length}
use native.Mathlib.Omega.{arith}
use lib.Dec.{eqb}
use Rattle.finite.proofs.Gather.{gathered_none, gathered-more, gather-count}
use Rattle.finite.proofs.Counting.{sum-monoid, count-le}
use Rattle.finite.specs.Fold.{gather}
use Rattle.limits.specs.Limits.{max_vertices}
use Rattle.mesh.specs.Fan.{valence}
use Rattle.mesh.specs.Tables.{vertex_of}
use Rattle.mesh.proofs.vertex.count_corners.Goals as goal

pub loop-p-init : goal.loop-p-init
loop-p-init c = gathered_none 0 ◌+◌ _ _ _ c.args.valences.now c.requires.2

-- the valence that is counted up is at most the number of corners passed
pub overflow_add-valences : goal.overflow_add-valences
overflow_add-valences c =
    let vertex = vertex_of c.args.faces.now in
    let p = c.from.result in
    let named : p < max_vertices = rw c.from.ensures (c.requires.0.named c.loop-p.p-index c.loop-p-test.true) in
    let counted = c.loop-p.invariant p named ∙ gather-count vertex c.loop-p.p-index p in
    omega (arith, counted, count-le (λ d. eqb (vertex d) p) c.loop-p.p-index, c.requires.0.few)

pub loop-p-preserved : goal.loop-p-preserved
loop-p-preserved c =
    let named : c.from.result < max_vertices = rw c.from.ensures (c.requires.0.named c.loop-p.p-index c.loop-p-test.true) in
    gathered-more sum-monoid (vertex_of c.args.faces.now) (λ d. 1) max_vertices c.loop-p.p-index c.from.result _ c.loop-p.valences
    (omega arith) c.from.ensures refl c.loop-p.invariant

pub returns : goal.returns
unfolding valence
returns c =
    let all : c.loop-p.p-index ≡ length c.args.faces.now = omega arith in
    λ q b. c.loop-p.invariant q b ∙ ap (λ (k : ℕ). gather 0 ◌+◌ (vertex_of c.args.faces.now) (λ d. 1) k q) all
