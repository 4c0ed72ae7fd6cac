-- What the line call answers, and what it leaves in the list that it is lent, whatever it is passed (rules S6 and R2).
--
--   line_length n           the numbers of a line: three for each a from 0 to N
--   line_coordinate .. i    what stands at place i of a line: coordinate i % 3 of the sample at a = i / 3
--   line_rows ..            the causes, in their order: those of a sample at a = 0, which is never above N, then 17
--   line_answer ..          the answer: done, or the number of the refusal
--   line_after ..           the lent list afterwards: with the line at its front, or as it was after a refusal
--   point_in line a         the point at places 3a, 3a + 1 and 3a + 2 of a list
--   LineLeft patches f n b line line'   line' is the lent list after the line call. In the words of the sample call: where nothing is refused, its
--                          answer at each (a, b) is the point in the list at a
--   LineSampled patches f n b line r line'   r is the answer of that call, and line' is the list afterwards
use Rattle.std.specs.Prelude.{◌≡◌, Bool, List, [], ◌∷◌, ◌++◌, ℕ, ◌+◌, ◌*◌, ◌/◌, ◌%◌, ◌≤◌, ltb, ℤ, pos, length, get_or, Result}
use Rattle.std.proofs.Math.Option.{Option, none}
use Rattle.finite.specs.Filled.{filled}
use Rattle.answer.specs.Table.{Row, row, first_met, Answer, result, answer_by, written_by, answered}
use Rattle.answer.specs.declared.refusal.Refusal.{Refusal}
use Rattle.sample.specs.Bernstein.{coordinate_at}
use Rattle.sample.specs.Refusal.{sample_rows}
use Rattle.sample.specs.Answer.{sample_answer}
use Rattle.sample.specs.declared.model.Point.{Point}

abbrev pub line_length : ℕ → ℕ
line_length n = 3 * (n + 1)

abbrev pub line_coordinate : List ℤ → ℕ → ℕ → ℕ → ℕ → ℤ
line_coordinate patches f n b i = coordinate_at patches f n (i / 3) b (i % 3)

-- 17: the lent list has fewer places than the line
unfoldable pub line_short : ℕ → List ℤ → Bool
line_short n line = ltb (length line) (line_length n)

abbrev pub line_rows : List ℤ → ℕ → ℕ → ℕ → List ℤ → List Row
line_rows patches f n b line = sample_rows patches f n 0 b ++ (row (line_short n line) 17 ∷ [])

abbrev pub line_refusal : List ℤ → ℕ → ℕ → ℕ → List ℤ → Option ℕ
line_refusal patches f n b line = first_met (line_rows patches f n b line)

abbrev pub line_answer : List ℤ → ℕ → ℕ → ℕ → List ℤ → Answer Unit
line_answer patches f n b line = answer_by (line_refusal patches f n b line) tt

abbrev pub line_after : List ℤ → ℕ → ℕ → ℕ → List ℤ → List ℤ
line_after patches f n b line = written_by (line_refusal patches f n b line) line (filled (line_coordinate patches f n b) (line_length n) line)

abbrev pub point_in : List ℤ → ℕ → Point
point_in line a = record { x = get_or line (3 * a) (pos 0); y = get_or line (3 * a + 1) (pos 0); z = get_or line (3 * a + 2) (pos 0) }

pub record LineLeft (patches : List ℤ) (f n b : ℕ) (line line' : List ℤ) : Type 0 where
  pub line-is : line' ≡ line_after patches f n b line
  pub samples-are : line_refusal patches f n b line ≡ none → (a : ℕ) → a ≤ n → sample_answer patches f n a b ≡ result (point_in line' a)

pub record LineSampled (patches : List ℤ) (f n b : ℕ) (line : List ℤ) (r : Result Unit Refusal) (line' : List ℤ) : Type 0 where
  pub answer-is : answered r ≡ line_answer patches f n b line
  pub left : LineLeft patches f n b line line'
