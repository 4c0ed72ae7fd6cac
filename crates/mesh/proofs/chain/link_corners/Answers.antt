-- `link_corners` meets its contract: the corners passed are chained and no half-edge among them runs as an earlier one does; the loop stops at
-- the first that does.
use mathlib.Core.Path.{◌≡◌, refl, sym, ap, ◌∙◌}
use Prim.Native.Nat.{ℕ, ◌<◌}
use Rattle.limits.specs.Limits.{max_vertices}
use native.Mathlib.Omega.{arith}
use Rattle.std.specs.Option.{is_some}
use Rattle.finite.specs.Fold.{any_below}
use Rattle.finite.proofs.AnyAll.{any-start, any-more, any_found, any-not}
use Rattle.corner.specs.Corner.{next}
use Rattle.mesh.specs.HalfEdge.{runs}
use Rattle.mesh.specs.Tables.{vertex_of, latest}
use Rattle.mesh.proofs.ChainLaws.{latest-any, chained-start, chained_more, doubled-earlier}
use Rattle.mesh.proofs.chain.link_corners.Goals.{After-is_some}
use Rattle.mesh.proofs.chain.link_corners.Goals as goal

-- ---- the half-edges before c are looked at: whether one runs as c does
module _ (c : After-is_some) where
  abbrev vertex : ℕ → ℕ
  vertex = vertex_of c.args.faces.now

  earlier : c.is_some.result ≡ any_below (runs vertex (vertex c.loop-c.c) (vertex (next c.loop-c.c))) c.loop-c.c
  earlier =
      c.is_some.ensures
      ∙ ap is_some (c.find.ensures ∙ ap (λ (e : ℕ). latest (runs vertex (vertex c.loop-c.c) (vertex e)) c.loop-c.c) c.next_corner.ensures)
      ∙ latest-any _ _

-- ---- the answers, in the order of the code
pub loop-c-init : goal.loop-c-init
loop-c-init c = record { chained = chained-start _ _ _ c.requires.1; apart = any-start _ }

pub returns-then-is_some-clause-value : goal.returns-then-is_some-clause-value
returns-then-is_some-clause-value c =
    any_found _ _ _ _ c.loop-c-test.true (earlier (goal.at.returns-then-is_some-clause-value c).After-is_some) c.if-is_some.true
    ∙ sym (doubled-earlier _ _)

pub loop-c-preserved : goal.loop-c-preserved
loop-c-preserved c =
    let s = (goal.at.loop-c-preserved c).After-is_some in
    let named : c.from-at.result < max_vertices = rw c.from-at.ensures (c.requires.0.named c.loop-c.c c.loop-c-test.true) in
    record {
      chained =
          chained_more (vertex s) c.loop-c.c c.from-at.result _ _ c.loop-c.invariant.chained c.from-at.ensures _ refl named
          (omega arith) (omega (arith, c.requires.0.few));
      apart = any-more _ _ _ c.loop-c.invariant.apart (earlier s) c.if-is_some.false;
    }

pub returns-clause-value : goal.returns-clause-value
returns-clause-value c = any-not _ _ _ c.loop-c.invariant.apart c.loop-c-test.false ∙ sym (doubled-earlier _ _)
