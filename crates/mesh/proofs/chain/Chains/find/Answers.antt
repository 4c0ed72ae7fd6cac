-- `find` meets its contract: the chain passes every corner of p from the last on, so the first half-edge to q that it meets is the last of all.
use mathlib.Core.Path.{◌≡◌, sym, ap, ◌∙◌}
use Prim.Native.Nat.{ℕ, ◌<◌}
use native.Mathlib.Omega.{arith}
use lib.Dec.{eqb}
use lib.ListN.{get_or}
use Rattle.std.specs.Prelude.{Some}
use Rattle.corner.specs.Corner.{next}
use Rattle.mesh.proofs.ChainLaws.{walked_start, walked-below, walked-found, walked_none, walked_more, walked-less}
use Rattle.mesh.specs.Tables.{vertex_of, corner_in, latest}
use Rattle.mesh.proofs.chain.Chains.find.Goals.{After-from-c, After-next_corner}
use Rattle.mesh.proofs.chain.Chains.find.Goals as goal

-- ---- corner c of the chain is named: it is below n, and the link there holds the corner before it at the same vertex
module _ (c : After-from-c) where
  abbrev vertex : ℕ → ℕ
  vertex = vertex_of c.args.self.faces.now

  named : c.loop-at.at ≡ Some c.from-c.result
  named = c.in-Some.is ∙ ap Some (sym c.from-c.ensures)

  below : c.from-c.result < c.args.self.n
  below = walked-below vertex c.args.p c.args.q c.args.self.n c.loop-at.at c.loop-at.invariant c.from-c.result named

  link-is : corner_in (get_or c.args.self.tables.now.link c.from-c.result 0) ≡ latest (λ d. eqb (vertex d) (vertex c.from-c.result)) c.from-c.result
  link-is = c.args.self.linked.chained.links c.from-c.result below

-- ---- the corner after it is read: its vertex is where half-edge c ends
end-is : (c : After-next_corner) → vertex_of c.args.self.faces.now c.next_corner.result ≡ vertex_of c.args.self.faces.now (next c.from-c.result)
end-is c = ap (vertex_of c.args.self.faces.now) c.next_corner.ensures

-- ---- the answers, in the order of the code
pub loop-at-init : goal.loop-at-init
loop-at-init c =
    let vertex = vertex_of c.args.self.faces.now in
    let head = c.args.self.linked.chained.heads c.from.result (omega arith) in
    walked_start vertex c.args.p c.args.q c.args.self.n _
    (c.corner_in-at.ensures ∙ head ∙ ap (λ (r : ℕ). latest (λ d. eqb (vertex d) r) c.args.self.n) c.from.ensures)

pub returns-then-self-next_corner : goal.returns-then-self-next_corner
returns-then-self-next_corner c =
    let w = (goal.at.returns-then-self-next_corner c).After-from-c in
    let e = (goal.at.returns-then-self-next_corner c).After-next_corner in
    sym c.in-Some.is
    ∙ walked-found (vertex w) c.args.p c.args.q c.args.self.n c.loop-at.at c.loop-at.invariant c.from-c.result (named w)
    (sym (end-is e) ∙ c.if-self-next_corner.true)

pub loop-at-smaller : goal.loop-at-smaller
loop-at-smaller c =
    let w = (goal.at.loop-at-smaller c).After-from-c in
    walked-less (vertex w) c.loop-at.at c.from-c.result _ (named w) (c.corner_in-at-in-Some.ensures ∙ link-is w)

pub loop-at-preserved : goal.loop-at-preserved
loop-at-preserved c =
    let w = (goal.at.loop-at-preserved c).After-from-c in
    let e = (goal.at.loop-at-preserved c).After-next_corner in
    walked_more (vertex w) c.args.p c.args.q c.args.self.n c.loop-at.at c.from-c.result _ c.loop-at.invariant (named w)
    (λ q. c.if-self-next_corner.false (end-is e ∙ q)) (c.corner_in-at-in-Some.ensures ∙ link-is w)

pub returns : goal.returns
returns c = walked_none (vertex_of c.args.self.faces.now) c.args.p c.args.q c.args.self.n c.loop-at.at c.loop-at.invariant c.in_default.is
