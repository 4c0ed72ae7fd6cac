-- `sums` meets its contract: each place has the sums of the terms passed at its vertex, and no sum of 1024 terms overflows.
use mathlib.Core.Bool.{cond}
use mathlib.Core.Path.{◌≡◌, ap, ◌∙◌}
use Prim.Native.Nat.{ℕ, ◌<◌, ◌≤◌, ◌*◌}
use native.Mathlib.Omega.{arith}
use lib.IntN.{ℤ, pos, nat_abs, ◌+ℤ◌, ◌*ℤ◌}
use lib.ListN.{length, get_or}
use Rattle.finite.proofs.IntegerSum.{sum_ℤ-monoid}
use Rattle.limits.specs.Limits.{max_vertices, max_coordinate}
use Rattle.mask.specs.declared.model.FaceValues.{FaceValues}
use Rattle.mesh.specs.Tables.{vertex_of}
use Rattle.patch.specs.Lists.{next_counts, prev_counts, no_ends, ring_term_by, sharp_term_by, ring_sum_by, sharp_sum_by}
use Rattle.patch.proofs.SumLaws.{passed-blank, passed-more, gathered-bound, added-fits, added-is}
use Rattle.patch.proofs.TableLaws.{ring-by-size, sharp-by-size}
use Rattle.patch.proofs.corners.VertexSource.sums.Goals.{After-ring_of, After-sharp_term, Start}
use Rattle.patch.proofs.corners.VertexSource.sums.Goals as goal

-- ---- the terms, and their sizes
abbrev ring_of : Start → ℕ → ℤ
ring_of s = ring_term_by s.args.self.values.now s.args.k

abbrev sharp-of : Start → ℕ → ℤ
sharp-of s = sharp_term_by s.args.self.values.now s.args.self.ends.now s.args.k

-- ---- a turn: the vertex of corner c has a place in the tables, and the sums so far are small
module _ (c : After-ring_of) where
  abbrev start : Start
  start = (goal.at.After-ring_of c).Start

  abbrev ring : ℤ
  ring = get_or c.loop-c.sums.ring c.from-p.result (pos 0)

  abbrev sharp : ℤ
  sharp = get_or c.loop-c.sums.sharp c.from-p.result (pos 0)

  few : c.loop-c.c ≤ 1024
  few = omega (arith, c.loop-c-test.true, c.args.self.serves.indices.few)

  named : c.from-p.result < max_vertices
  named = rw c.from-p.ensures (c.args.self.serves.indices.named c.loop-c.c c.loop-c-test.true)

  ring-small : nat_abs ring ≤ 5 * max_coordinate * c.loop-c.c
  ring-small =
      gathered-bound (vertex_of c.args.self.faces.now) c.from-p.result (ring_of start) c.loop-c.c _ c.loop-c.invariant.first-is named
      (λ d _. ring-by-size c.args.self.serves.bounded c.args.k d)

  sharp-small : nat_abs sharp ≤ 5 * max_coordinate * c.loop-c.c
  sharp-small =
      gathered-bound (vertex_of c.args.self.faces.now) c.from-p.result (sharp-of start) c.loop-c.c _ c.loop-c.invariant.second_is named
      (λ d _. sharp-by-size c.args.self.serves.bounded c.args.k d c.args.self.ends.now)

  ring-is : c.ring_of.result ≡ ring_of start c.loop-c.c
  ring-is = c.ring_of.ensures ∙ ap (λ (a : FaceValues). pos 2 *ℤ a.next +ℤ pos 2 *ℤ a.prev +ℤ a.across) c.face-a.ensures

  ring-term : nat_abs c.ring_of.result ≤ 5 * max_coordinate
  ring-term = rw ring-is (ring-by-size c.args.self.serves.bounded c.args.k c.loop-c.c)

module _ (c : After-sharp_term) where
  abbrev turn : After-ring_of
  turn = (goal.at.After-sharp_term c).After-ring_of

  sharp-is : c.sharp_term.result ≡ sharp-of (start turn) c.loop-c.c
  sharp-is =
      let e = get_or c.args.self.ends.now c.loop-c.c no_ends in
      c.sharp_term.ensures ∙ ap (λ (a : FaceValues). cond (next_counts e) a.next (pos 0) +ℤ cond (prev_counts e) a.prev (pos 0)) c.face-a.ensures

  sharp-term : nat_abs c.sharp_term.result ≤ 5 * max_coordinate
  sharp-term = rw sharp-is (sharp-by-size c.args.self.serves.bounded c.args.k c.loop-c.c c.args.self.ends.now)

pub loop-c-init : goal.loop-c-init
loop-c-init c = passed-blank (omega arith) (omega arith) c.requires.ring-are c.requires.sharp-are

pub overflow_add-sums : goal.overflow_add-sums
overflow_add-sums c = let t = (goal.at.overflow_add-sums c).After-ring_of in added-fits (ring t) t.ring_of.result (few t) (ring-small t) (ring-term t)

pub overflow_add-sums-in-loop-c : goal.overflow_add-sums-in-loop-c
overflow_add-sums-in-loop-c c =
    let s = (goal.at.overflow_add-sums-in-loop-c c).After-sharp_term in
    let t = turn s in
    added-fits (sharp t) s.sharp_term.result (few t) (sharp-small t) (sharp-term s)

pub loop-c-preserved : goal.loop-c-preserved
loop-c-preserved c =
    let s = (goal.at.loop-c-preserved c).After-sharp_term in
    let t = turn s in
    passed-more sum_ℤ-monoid c.loop-c.invariant (named t) c.from-p.ensures
    (added-is (ring t) t.ring_of.result (few t) (ring-small t) (ring-term t) ∙ ap (λ (z : ℤ). ring t +ℤ z) (ring-is t))
    (added-is (sharp t) s.sharp_term.result (few t) (sharp-small t) (sharp-term s) ∙ ap (λ (z : ℤ). sharp t +ℤ z) (sharp-is s))

pub returns : goal.returns
unfolding ring_sum_by sharp_sum_by
returns c =
    let inv = c.loop-c.invariant in
    let all : c.loop-c.c ≡ length c.args.self.faces.now = omega arith in
    record { ring-are = rw all at inv.first-is; sharp-are = rw all at inv.second_is }
