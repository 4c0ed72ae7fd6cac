-- The curves along u that all samples of a face with one b share, and what the call that makes them answers, whatever it is passed.
--
--   curve_at patches f n b k   the curve of coordinate k: four values, each the sum of its control values by the weights of b
--   curve_refusal ..           the refusal that the call meets: that of a sample at a = 0, which is never above N
--   curves_answer ..           its answer: the curves and their divisor, or the number of the refusal
use Rattle.std.specs.Prelude.{List, ℕ, ◌+◌, ◌*◌, ◌^◌, ℤ, pos, ◌*ℤ◌}
use Rattle.std.proofs.Math.Option.{Option}
use Rattle.finite.specs.Fold.{sum_below_ℤ}
use Rattle.finite.specs.Filled.{list_below}
use Rattle.answer.specs.Table.{first_met, Answer, answer_by}
use Rattle.sample.specs.Bernstein.{bernstein, control_at}
use Rattle.sample.specs.Refusal.{sample_rows}
use Rattle.sample.specs.declared.model.Curves.{Curves}

abbrev pub curve_at : List ℤ → ℕ → ℕ → ℕ → ℕ → List ℤ
curve_at patches f n b k = list_below (λ i. sum_below_ℤ (λ j. pos (bernstein n b j) *ℤ control_at patches f k (i + 4 * j)) 4) 4

abbrev pub curve_refusal : List ℤ → ℕ → ℕ → ℕ → Option ℕ
curve_refusal patches f n b = first_met (sample_rows patches f n 0 b)

unfoldable pub curves_answer : List ℤ → ℕ → ℕ → ℕ → Answer Curves
curves_answer patches f n b =
    let c = curve_at patches f n b in answer_by (curve_refusal patches f n b) (record { divisor = n ^ 6; x = c 0; y = c 1; z = c 2 })
