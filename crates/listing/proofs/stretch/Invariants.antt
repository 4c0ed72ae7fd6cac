-- `stretch` meets its contract: the lines before the next one are stored, each where it had room, and the loop stops where no line is left or the next
-- one has no room.
use Prim.Native.Nat.{◌-◌, max}
use Rattle.answer.specs.Table.{answered}
use Rattle.listing.specs.Listing.{lines_from}
use Rattle.listing.proofs.RowLaws.{Running}
use Rattle.listing.proofs.stretch.Given as goal

abbrev pub invariant-loop-to : goal.invariant-loop-to
invariant-loop-to l = Running (lines_from (answered l.answer) l.patches l.line) l.line (max l.line l.lines) l.initial.out l.out l.to l.at

abbrev pub decreases-loop-to : goal.decreases-loop-to
decreases-loop-to l = l.lines - l.to
