-- `stepped` meets its contract: numbers of at most 2 ^ 61 have sums that fit.
use Prim.Native.Nat.{◌^◌}
use native.Mathlib.Omega.{arith}
use Rattle.line.specs.declared.model.Differences.{Differences}
use Rattle.line.proofs.SizedLaws.{read, ReadAs, sized, plus-fits, plus-sized}
use Rattle.line.proofs.DifferenceLaws.{same-differences}
use Rattle.line.proofs.differences.stepped.Goals.{After-struct_told-1, After-struct_told-2-1, After-struct_told-3-1, Start}
use Rattle.line.proofs.differences.stepped.Goals as goal

-- ---- at the entry: the four numbers, as the machine reads them
module _ (s : Start) where
  abbrev d : Differences
  d = s.args.d

  value : ReadAs (read d.value) d.value (2 ^ 61)
  value = sized d.value s.requires.value (omega arith)

  first : ReadAs (read d.first) d.first (2 ^ 61)
  first = sized d.first s.requires.first (omega arith)

  second : ReadAs (read d.second) d.second (2 ^ 61)
  second = sized d.second s.requires.second (omega arith)

  third : ReadAs (read d.third) d.third (2 ^ 61)
  third = sized d.third s.requires.third (omega arith)

-- ---- the way back from each sum
abbrev start : After-struct_told-1 → Start
start c = (goal.at.After-struct_told-1 c).Start

abbrev start-2 : After-struct_told-2-1 → Start
start-2 c = start (goal.at.After-struct_told-2-1 c).After-struct_told-1

abbrev start-3 : After-struct_told-3-1 → Start
start-3 c = start-2 (goal.at.After-struct_told-3-1 c).After-struct_told-2-1

-- ---- the answers, in the order of the code
pub overflow_add-result : goal.overflow_add-result
overflow_add-result c = let s = start c in plus-fits (value s) (first s) (omega arith)

pub overflow_add-result-2 : goal.overflow_add-result-2
overflow_add-result-2 c = let s = start-2 c in plus-fits (first s) (second s) (omega arith)

pub overflow_add-result-3 : goal.overflow_add-result-3
overflow_add-result-3 c = let s = start-3 c in plus-fits (second s) (third s) (omega arith)

pub returns : goal.returns
returns c =
    let s = start-3 (goal.at.returns c).After-struct_told-3-1 in
    same-differences
    (plus-sized (value s) (first s) (omega arith)).is
    (plus-sized (first s) (second s) (omega arith)).is
    (plus-sized (second s) (third s) (omega arith)).is
    (third s).is
