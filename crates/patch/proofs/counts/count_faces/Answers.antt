-- `count_faces` meets its contract: each place has the counts of the corners passed at its vertex, and no count of 1024 corners overflows.
use mathlib.Core.Path.{◌≡◌, refl, ap, ◌∙◌}
use Prim.Native.Nat.{ℕ, ◌+◌, ◌≤◌}
use native.Mathlib.Omega.{arith}
use lib.Dec.{eqb}
use lib.ListN.{length, get_or}
use Rattle.finite.specs.Fold.{indicator}
use Rattle.finite.proofs.Counting.{sum-monoid, indicator-le}
use Rattle.finite.proofs.Flags.{byte-indicator}
use Rattle.mesh.specs.Fan.{valence, on_boundary}
use Rattle.mesh.specs.Tables.{vertex_of}
use Rattle.patch.specs.Lists.{boundary_in}
use Rattle.patch.proofs.SumLaws.{passed-none, passed-more, gathered-few, gather_ext, count_none}
use Rattle.patch.proofs.FacePointLaws.{boundary-in}
use Rattle.patch.proofs.counts.count_faces.Goals as goal

pub loop-c-init : goal.loop-c-init
loop-c-init c = passed-none

pub overflow_add-counts : goal.overflow_add-counts
overflow_add-counts c =
    let i = c.requires.indices in
    let at = c.from-p.ensures in
    let named = i.named c.loop-c.c c.loop-c-test.true in
    omega (
      arith,
      gathered-few (vertex_of c.args.faces.now) c.from-p.result (λ d. 1) c.loop-c.c _ c.loop-c.invariant.first-is (rw at named) (λ d. omega arith),
      i.few,
    )

pub overflow_add-counts-in-loop-c : goal.overflow_add-counts-in-loop-c
overflow_add-counts-in-loop-c c =
    let i = c.requires.indices in
    let at = c.from-p.ensures in
    let named = i.named c.loop-c.c c.loop-c-test.true in
    let one : c.from.result ≤ 1 = rw (c.from.ensures, byte-indicator) (indicator-le c.is_boundary.result) in
    omega (
      arith,
      gathered-few (vertex_of c.args.faces.now) c.from-p.result (λ d. indicator (boundary_in c.args.twins.now d)) c.loop-c.c _
          c.loop-c.invariant.second_is (rw at named) (λ d. indicator-le (boundary_in c.args.twins.now d)),
      i.few,
    )

pub loop-c-preserved : goal.loop-c-preserved
loop-c-preserved c =
    let at = c.from-p.ensures in
    let named = c.requires.indices.named c.loop-c.c c.loop-c-test.true in
    let added = c.from.ensures ∙ byte-indicator c.is_boundary.result ∙ ap indicator c.is_boundary.ensures in
    passed-more sum-monoid c.loop-c.invariant (rw at named) at refl
    (ap (λ (n : ℕ). get_or c.loop-c.counts.leaving c.from-p.result 0 + n) added)

pub returns : goal.returns
unfolding valence on_boundary
returns c =
    let inv = c.loop-c.invariant in
    let at : ℕ → ℕ = vertex_of c.args.faces.now in
    let n : ℕ = length c.args.faces.now in
    let all : c.loop-c.c ≡ n = omega arith in
    record {
      valences-listed = inv.first-long;
      leaving-listed = inv.second-long;
      valences-are = rw all at inv.first-is;
      inside-are = λ p h.
          ap (λ (m : ℕ). eqb m 0)
          ((rw all at inv.second_is) p h ∙ gather_ext at p 0 ◌+◌ n (λ d b. ap indicator (boundary-in c.requires.twinned d b)))
          ∙ count_none at p _ n;
    }
