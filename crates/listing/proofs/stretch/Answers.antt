-- `stretch` meets its contract: the lines before the next one are stored, each where it had room, and the loop stops where no line is left or the next
-- one has no room.
use native.Mathlib.Nat.{le-max_left}
use native.Mathlib.Omega.{arith}
use Rattle.answer.specs.Table.{answered}
use Rattle.listing.proofs.RowLaws.{running-start, running-lines, running-stretched}
use Rattle.listing.proofs.stretch.Goals as goal

pub loop-to-init : goal.loop-to-init
loop-to-init c = running-start _ _ _ _ (le-max_left _ _)

pub loop-to-preserved : goal.loop-to-preserved
loop-to-preserved c =
    running-lines (answered c.args.answer) c.args.patches.now c.args.line c.line_count-lines.ensures c.loop-to.invariant _ _ c.loop-to-test.true
    c.next_lines-more.ensures

pub returns-else-out-at-ge-LINE_PLACES : goal.returns-else-out-at-ge-LINE_PLACES
returns-else-out-at-ge-LINE_PLACES c =
    running-stretched (answered c.args.answer) c.args.patches.now c.args.line c.line_count-lines.ensures c.loop-to.invariant
    (λ _. c.if-out-at-ge-LINE_PLACES.false)

pub returns-after-loop-to : goal.returns-after-loop-to
returns-after-loop-to c =
    running-stretched (answered c.args.answer) c.args.patches.now c.args.line c.line_count-lines.ensures c.loop-to.invariant
    (λ more. absurd (omega (arith, more, c.loop-to-test.false)))
