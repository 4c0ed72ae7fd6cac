-- `point_lines` meets its contract: the lines before a are stored, each by the three numbers at its place, and the first one has room.
use mathlib.Core.Path.{◌≡◌, subst}
use mathlib.Core.List.{List}
use Prim.Native.Nat.{ℕ, ◌+◌, ◌-◌, ◌≤◌}
use native.Mathlib.Omega.{arith}
use lib.IntN.{ℤ}
use lib.ListN.{length-take, length-drop}
use Rattle.answer.specs.Table.{result}
use Rattle.line.specs.Line.{point_in}
use Rattle.sample.specs.declared.model.Place.{Place}
use Rattle.text.specs.Text.{Printed}
use Rattle.listing.specs.Listing.{line_of}
use Rattle.listing.proofs.RowLaws.{run-one, running-start, running_more, running-stuck, running-end}
use Rattle.listing.proofs.samples.point_lines.Invariants.{line_text}
use Rattle.listing.proofs.samples.point_lines.Goals.{then-loop-a-test+else-out-at-ge-LINE_PLACES, else-loop-a-test}
use Rattle.listing.proofs.samples.point_lines.Goals as goal

pub loop-a-init : goal.loop-a-init
loop-a-init c = running-start _ _ _ _ (omega (arith, c.requires.0.a-within))

-- the line that is stored is that of the next place
printed-at : (points : List ℤ) (p : Place) (a : ℕ) {l m : List ℕ} {r : ℕ} → p.a ≤ a
    → Printed (line_of (result (point_in points a)) p.face a p.b) l m r → Printed (line_text points p (a - p.a + 0)) l m r
printed-at points p a {l} {m} {r} on q =
    subst (λ (i : ℕ). Printed (line_of (result (point_in points i)) p.face i p.b) l m r) (let e : a ≡ p.a + (a - p.a + 0) = omega (arith, on) in e) q

pub loop-a-preserved : goal.loop-a-preserved
loop-a-preserved c =
    let points = c.args.points.now in
    let p = c.args.p in
    running_more c.loop-a.invariant _ _
    (run-one (λ j. line_text points p (c.loop-a.a - p.a + j)) 1 (omega arith)
    (rw (length-take, length-drop) (omega (arith, c.if-out-at-ge-LINE_PLACES.true)))
    c.point_line-at.auto.out (printed-at points p c.loop-a.a c.loop-a.invariant.on c.point_line-at.ensures))
    (omega (arith, c.loop-a-test.true))

pub returns : goal.returns
returns c =
    running-end c.loop-a.invariant (λ e.
    elim c.loop-a-test.branch [
      | then-loop-a-test+else-out-at-ge-LINE_PLACES full ↦ running-stuck c.loop-a.invariant e c.requires.2 full.if-out-at-ge-LINE_PLACES.false
      | else-loop-a-test over ↦ omega (arith, over.loop-a-test.false, e, c.requires.0.a-within)
    ])
