-- What the sample call and the reading answer, whatever they are passed.
--
--   point_at ..         the sample of a patch list, for a face, N and a place: three numbers
--   sample_answer ..    the answer of the sample call
--   negative n         the sign of n: whether it is below 0
--   Over256 r n        the double r is finite, and its exact value is the sample n over 256 (rule S5)
--   Reads r answer     the reading r holds the answer: three doubles, each exactly the sample over 256, or the refusal's number
use Rattle.std.specs.Prelude.{◌≡◌, Bool, true, false, List, ℕ, ◌*◌, ℤ, pos, negsuc, nat_abs, Float, Result, Ok, Err}
use Rattle.std.specs.Float.{nan, inf, fin}
use Rattle.std.specs.Float.Ieee.{up, down}
use Rattle.answer.specs.declared.refusal.Refusal.{Refusal}
use Rattle.answer.specs.Number.{number}
use Rattle.answer.specs.Table.{first_met, Answer, result, refusal, answer_by}
use Rattle.sample.specs.Bernstein.{coordinate_at}
use Rattle.sample.specs.Refusal.{sample_rows}
use Rattle.sample.specs.declared.model.Point.{Point}
use Rattle.sample.specs.declared.model.Micrometres.{Micrometres}

abbrev pub point_at : List ℤ → ℕ → ℕ → ℕ → ℕ → Point
point_at patches f n a b = record { x = coordinate_at patches f n a b 0; y = coordinate_at patches f n a b 1; z = coordinate_at patches f n a b 2 }

unfoldable pub sample_answer : List ℤ → ℕ → ℕ → ℕ → ℕ → Answer Point
sample_answer patches f n a b = answer_by (first_met (sample_rows patches f n a b)) (point_at patches f n a b)

abbrev pub negative : ℤ → Bool
negative (pos a) = false
negative (negsuc a) = true

-- `fin s m e` is ± m * 2 ^ e, and 2 ^ e is up e / down e; neither a NaN nor an infinity is a number over 256
abbrev pub Over256 : Float → ℤ → Type 0
Over256 nan n = ⊥
Over256 (inf s) n = ⊥
Over256 (fin s m e) n = (s ≡ negative n) × (m * up e * 256 ≡ nat_abs n * down e)

abbrev pub Reads : Result Micrometres Refusal → Answer Point → Type 0
Reads (Ok p) (result q) = Over256 p.x q.x × Over256 p.y q.y × Over256 p.z q.z
Reads (Ok p) (refusal k) = ⊥
Reads (Err r) (result q) = ⊥
Reads (Err r) (refusal k) = number r ≡ k
