-- What the marked sample call answers, whatever it is passed (rules S7 and R2).
--
--   marks_off marks f     12 too: the list `marks` ends before the sixteen bytes of face f
--   marked_rows ..        the causes, in their order: those of a sample, where 12 is met for either list
--   patch_marked marks f  the sixteen bytes of face f are all 1: no control point of its patch was rounded
--   division_whole ..     the sample's own division by N^6 leaves nothing in any coordinate
--   sample_exact ..       the mark of the sample: both
--   marked_answer ..      the answer of the marked sample call
use Rattle.std.specs.Prelude.{Bool, ◌&&◌, ◌||◌, List, [], ◌∷◌, ℕ, ◌+◌, ◌*◌, ◌^◌, eqb, ltb, ℤ, length, get_or}
use Rattle.integer.specs.Nearest.{whole}
use Rattle.finite.specs.Fold.{all_below}
use Rattle.answer.specs.Table.{Row, row, first_met, Answer, answer_by}
use Rattle.sample.specs.Bernstein.{numerator, control_at}
use Rattle.sample.specs.Refusal.{face_off, control_off, place_off}
use Rattle.sample.specs.Answer.{point_at}
use Rattle.sample.specs.declared.model.MarkedPoint.{MarkedPoint}

unfoldable pub marks_off : List ℕ → ℕ → Bool
marks_off marks f = ltb (length marks) (16 * f + 16)

abbrev pub marked_rows : List ℤ → List ℕ → ℕ → ℕ → ℕ → ℕ → List Row
marked_rows patches marks f n a b =
    row (face_off patches f || marks_off marks f) 12 ∷ (row (control_off patches f) 13 ∷ (row (place_off n a b) 14 ∷ []))

unfoldable pub patch_marked : List ℕ → ℕ → Bool
patch_marked marks f = all_below (λ m. eqb (get_or marks (16 * f + m) 0) 1) 16

unfoldable pub division_whole : List ℤ → ℕ → ℕ → ℕ → ℕ → Bool
division_whole patches f n a b = all_below (λ k. whole (numerator n a b (control_at patches f k)) (n ^ 6)) 3

abbrev pub sample_exact : List ℤ → List ℕ → ℕ → ℕ → ℕ → ℕ → Bool
sample_exact patches marks f n a b = patch_marked marks f && division_whole patches f n a b

unfoldable pub marked_answer : List ℤ → List ℕ → ℕ → ℕ → ℕ → ℕ → Answer MarkedPoint
marked_answer patches marks f n a b =
    answer_by (first_met (marked_rows patches marks f n a b)) (record { point = point_at patches f n a b; exact = sample_exact patches marks f n a b })
