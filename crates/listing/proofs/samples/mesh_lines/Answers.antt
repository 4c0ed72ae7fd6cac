-- `mesh_lines` meets its contract: the line of the counts is the first, and the lines behind it are those of the row that a place stands in.
use native.Mathlib.Omega.{arith}
use Rattle.answer.specs.Table.{result}
use Rattle.listing.specs.Listing.{lines_from}
use Rattle.listing.proofs.RowLaws.{run-one}
use Rattle.listing.proofs.PlaceLaws.{row-run}
use Rattle.listing.proofs.samples.mesh_lines.Goals as goal

pub returns-then-line-eq0 : goal.returns-then-line-eq0
returns-then-line-eq0 c =
    rw c.if-line-eq0.true
    (run-one (lines_from (result c.args.t) c.args.patches.now 0) _ (omega (arith, c.requires.0)) c.requires.1 c.counts_line.auto.line
    c.counts_line.ensures)

pub returns : goal.returns
returns c =
    row-run c.args.t c.args.patches.now c.args.line _ (omega (arith, c.if-line-eq0.false)) c.requires.0 c.place_of.ensures.0 c.place_of.ensures.1
    c.row_lines.ensures
