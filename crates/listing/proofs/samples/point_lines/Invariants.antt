-- `point_lines` meets its contract: the lines before a are stored, each by the three numbers at its place, and the first one has room.
use mathlib.Core.List.{List}
use Prim.Native.Nat.{ℕ, ◌+◌, ◌-◌}
use lib.IntN.{ℤ}
use Rattle.answer.specs.Table.{result}
use Rattle.line.specs.Line.{point_in}
use Rattle.listing.specs.Listing.{line_of}
use Rattle.sample.specs.declared.model.Place.{Place}
use Rattle.listing.proofs.RowLaws.{Running}
use Rattle.listing.proofs.samples.point_lines.Given as goal

-- the line of the point that is j places after p
abbrev pub line_text : List ℤ → Place → ℕ → List ℕ
line_text points p j = line_of (result (point_in points (p.a + j))) p.face (p.a + j) p.b

abbrev pub invariant-loop-a : goal.invariant-loop-a
invariant-loop-a l = Running (line_text l.points l.p) l.p.a (l.n + 1) l.initial.out l.out l.a l.at

abbrev pub decreases-loop-a : goal.decreases-loop-a
decreases-loop-a l = l.n + 1 - l.a
