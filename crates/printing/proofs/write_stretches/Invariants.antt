-- `write_stretches` ends: the buffer has room for a line, so each stretch leads on, and none leads beyond the last line. What was written is the lines so far.
use Rattle.std.proofs.Common.{◌≡◌, ◌-◌, ◌≤◌, ℕ, List, length}
use Rattle.std.specs.Io.KnownBytes.{Appends}
use Rattle.answer.specs.Table.{answered}
use Rattle.listing.proofs.StretchLaws.{Stretches}
use Rattle.printing.proofs.write_stretches.Given as goal

abbrev pub invariant-loop-line : goal.invariant-loop-line
invariant-loop-line g l =
    (l.line ≤ l.lines)
    × (length l.out ≡ length l.initial.out)
    × ((t : List ℕ) × Stretches (answered l.file) l.patches l.line t × Appends (g.W.Write.contents l.initial.to) (g.W.Write.contents l.to) t)

abbrev pub decreases-loop-line : goal.decreases-loop-line
decreases-loop-line g l = l.lines - l.line
