-- `differences` meets its contract: the values are at most 2 ^ 45, so that their differences fit.
use mathlib.Core.Path.{◌∙◌}
use Prim.Native.Nat.{ℕ, ◌+◌, ◌*◌, ◌^◌, ◌<◌}
use native.Mathlib.Omega.{arith}
use lib.IntN.{ℤ, pos, ◌-ℤ◌, ◌*ℤ◌}
use lib.ListN.{get_or}
use Rattle.line.specs.Differences.{forward}
use Rattle.line.proofs.SizedLaws.{read, ReadAs, sized, times-fits, times-sized, minus-fits, minus-sized}
use Rattle.line.proofs.DifferenceLaws.{same-differences, third-is}
use Rattle.line.proofs.differences.differences.Goals.{After-later-1, After-next-1, After-result-1, Start}
use Rattle.line.proofs.differences.differences.Goals as goal

-- ---- at the entry: the values and their differences, as the machine reads them
module _ (s : Start) where
  abbrev at : ℕ → ℤ
  at i = get_or s.args.values i (pos 0)

  value : (i : ℕ) → i < 4 → ReadAs (read (at i)) (at i) (2 ^ 45)
  value i l = sized (at i) (s.requires.fine i l) (omega arith)

  first : (i : ℕ) → i < 3 → ReadAs (read (read (at (i + 1)) -ℤ read (at i))) (forward at i) (2 ^ 46)
  first i l = minus-sized (value (i + 1) (omega arith)) (value i (omega arith)) (omega arith)

  span : ReadAs (read (read (at 3) -ℤ read (at 0))) (at 3 -ℤ at 0) (2 ^ 46)
  span = minus-sized (value 3 (omega arith)) (value 0 (omega arith)) (omega arith)

  thrice : ReadAs (read (pos 3 *ℤ read (read (at 2) -ℤ read (at 1)))) (pos 3 *ℤ forward at 1) (3 * 2 ^ 46)
  thrice = times-sized 3 (first 1 (omega arith)) (omega arith)

-- ---- the way back from each difference
abbrev start : After-next-1 → Start
start c = (goal.at.After-next-1 c).Start

abbrev start-2 : After-later-1 → Start
start-2 c = start (goal.at.After-later-1 c).After-next-1

abbrev start-3 : After-result-1 → Start
start-3 c = start-2 (goal.at.After-result-1 c).After-later-1

pub overflow_sub-first : goal.overflow_sub-first
overflow_sub-first c = let s = start c in minus-fits (value s 1 (omega arith)) (value s 0 (omega arith)) (omega arith)

pub overflow_sub-later : goal.overflow_sub-later
overflow_sub-later c = let s = start-2 c in minus-fits (value s 2 (omega arith)) (value s 1 (omega arith)) (omega arith)

pub overflow_sub-result : goal.overflow_sub-result
overflow_sub-result c = let s = start-2 c in minus-fits (first s 1 (omega arith)) (first s 0 (omega arith)) (omega arith)

pub overflow_sub-result-2 : goal.overflow_sub-result-2
overflow_sub-result-2 c = let s = start-3 c in minus-fits (value s 3 (omega arith)) (value s 0 (omega arith)) (omega arith)

pub overflow_mul-result : goal.overflow_mul-result
overflow_mul-result c = times-fits 3 (first (start-3 c) 1 (omega arith)) (omega arith)

pub overflow_sub-result-3 : goal.overflow_sub-result-3
overflow_sub-result-3 c = let s = start-3 c in minus-fits (span s) (thrice s) (omega arith)

pub returns : goal.returns
returns c =
    let s = start-3 c in
    same-differences
    (value s 0 (omega arith)).is
    (first s 0 (omega arith)).is
    (minus-sized (first s 1 (omega arith)) (first s 0 (omega arith)) (omega arith)).is
    ((minus-sized (span s) (thrice s) (omega arith)).is ∙ third-is (at s))
