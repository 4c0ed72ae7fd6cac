-- The answer of the line call: the causes of a line are those of each of its samples and 17, and a line that is written holds their answers.
use mathlib.Core.Path.{◌≡◌, sym, ap, ap₂, ◌∙◌}
use mathlib.Core.List.{List, [], ◌∷◌}
use mathlib.Core.Option.{Option, none, some}
use Prim.Native.Nat.{ℕ, ◌+◌, ◌*◌, ◌/◌, ◌%◌, ◌^◌, ◌≤◌, ◌<◌}
use native.Mathlib.Omega.{arith}
use lib.IntN.{ℤ, pos}
use lib.ListN.{length, get_or}
use borrow.Author.Tests.{lt-ltb, le-ltb}
use Rattle.integer.specs.Nearest.{nearest}
use Rattle.finite.specs.Filled.{filled}
use Rattle.answer.specs.Table.{row, first_met, result, refusal, answer_by}
use Rattle.std.specs.Prelude.{Ok, Err}
use Rattle.answer.specs.declared.refusal.Refusal.{Refusal}
use Rattle.answer.specs.Number.{number}
use Rattle.finite.proofs.FilledLaws.{filled_at, filled-ext}
use Rattle.answer.proofs.TableLaws.{or_else, or_else-none, first-append, append-none, result-none, refusal-met}
use Rattle.sample.specs.Bernstein.{rounded, coordinate_at}
use Rattle.sample.specs.Refusal.{place_off, sample_rows}
use Rattle.sample.specs.Answer.{point_at, sample_answer}
use Rattle.line.specs.Line.{line_length, line_coordinate, line_short, line_refusal, point_in, LineSampled}
use Rattle.sample.specs.Curve.{curve_at, curve_refusal, curves_answer}
use Rattle.sample.specs.declared.model.Curves.{Curves}
use Rattle.sample.proofs.BlendLaws.{same_point}
use Rattle.sample.proofs.RefusalLaws.{allowed}
use Rattle.sample.proofs.CurveLaws.{curve-bound, curve-numerator}
use Rattle.line.specs.Points.{curve_coordinate, curve_in, Drawable}
use Rattle.line.proofs.LineLaws.{each_three}

-- ---- the causes of a line: those of its sample at a = 0, then 17
module _ (patches : List ℤ) (f n b : ℕ) (line : List ℤ) where
  abbrev first : Option ℕ
  first = first_met (sample_rows patches f n 0 b)

  line-rows : line_refusal patches f n b line ≡ or_else first (first_met (row (line_short n line) 17 ∷ []))
  line-rows = first-append (sample_rows patches f n 0 b) (row (line_short n line) 17 ∷ [])

  pub line-stopped : {k : ℕ} → first ≡ some k → line_refusal patches f n b line ≡ some k
  line-stopped e = line-rows ∙ rw e

  pub line-short : first ≡ none → length line < line_length n → line_refusal patches f n b line ≡ some 17
  unfolding line_short
  line-short e h = line-rows ∙ rw (e, lt-ltb (length line) (line_length n) h)

  -- in a list that is long enough nothing else is met
  long-rows : line_length n ≤ length line → line_refusal patches f n b line ≡ first
  unfolding line_short
  long-rows h = line-rows ∙ rw (le-ltb (length line) (line_length n) h) (or_else-none first)

  pub line_clear : first ≡ none → line_length n ≤ length line → line_refusal patches f n b line ≡ none
  line_clear e h = long-rows h ∙ e

  first-clear : line_refusal patches f n b line ≡ none → first ≡ none
  first-clear e = (append-none (sample_rows patches f n 0 b) (row (line_short n line) 17 ∷ []) e).0

-- ---- every sample of a line meets the causes of the first one
place-first : (n a b : ℕ) → a ≤ n → place_off n a b ≡ place_off n 0 b
unfolding place_off
place-first n a b l = rw (le-ltb n a l, le-ltb n 0 (omega arith))

module _ (patches : List ℤ) (f n b : ℕ) (line : List ℤ) (a : ℕ) (l : a ≤ n) where
  answered-first : sample_answer patches f n a b ≡ answer_by (first_met (sample_rows patches f n 0 b)) (point_at patches f n a b)
  unfolding sample_answer
  answered-first = rw (place-first n a b l)

  -- so a line that is refused in a list that is long enough is refused at each of its places
  pub line_refused : {k : ℕ} → line_length n ≤ length line → line_refusal patches f n b line ≡ some k → sample_answer patches f n a b ≡ refusal k
  line_refused h e = answered-first ∙ rw (sym (long-rows patches f n b line h) ∙ e)

  line-answered : line_refusal patches f n b line ≡ none → sample_answer patches f n a b ≡ result (point_at patches f n a b)
  line-answered e = answered-first ∙ rw (first-clear patches f n b line e)

-- ---- the curves that a line is made from
module _ (patches : List ℤ) (f n b : ℕ) {r : Curves} (gave : result r ≡ curves_answer patches f n b) where
  pub met-none : curve_refusal patches f n b ≡ none
  unfolding curves_answer
  met-none = (result-none (curve_refusal patches f n b) gave).0

  same : (let c = curve_at patches f n b in r ≡ record { divisor = n ^ 6; x = c 0; y = c 1; z = c 2 })
  unfolding curves_answer
  same = (result-none (curve_refusal patches f n b) gave).1

  pub given-at : (k : ℕ) → k < 3 → curve_in r k ≡ curve_at patches f n b k
  given-at =
      each_three (λ k. curve_in r k ≡ curve_at patches f n b k)
      (ap (λ (c : Curves). c.x) same) (ap (λ (c : Curves). c.y) same) (ap (λ (c : Curves). c.z) same)

  pub drawable : {line : List ℤ} → line_length n ≤ length line → Drawable r n line
  drawable room =
      let steps = (allowed patches f n 0 b met-none).samplable.across in
      record {
        curved = λ k below. record {
          least = steps.least;
          most = steps.most;
          over = ap (λ (c : Curves). c.divisor) same;
          size = rw (given-at k below) (curve-bound patches f n b met-none k below);
        };
        room = room;
      }

-- a refusal of the curves is what a sample at a = 0 meets
pub curves-met : (patches : List ℤ) (f n b : ℕ) {k : ℕ} → refusal k ≡ curves_answer patches f n b → curve_refusal patches f n b ≡ some k
unfolding curves_answer
curves-met patches f n b e = refusal-met _ (curve_refusal patches f n b) e

-- coordinate k of a line is that of its samples
along-is : (patches : List ℤ) (f n b k a : ℕ) {curve : List ℤ} → curve ≡ curve_at patches f n b k → curve_coordinate n curve a ≡ coordinate_at patches f n a b k
unfolding rounded
along-is patches f n b k a e =
    ap (λ (c : List ℤ). curve_coordinate n c a) e ∙ ap (λ (z : ℤ). nearest z (n ^ 6)) (curve-numerator patches f n b a k)

pub line-along : (patches : List ℤ) (f n b : ℕ) (line : List ℤ) {r : Curves} → result r ≡ curves_answer patches f n b
    → filled (λ i. curve_coordinate n (curve_in r (i % 3)) (i / 3)) (line_length n) line ≡ filled (line_coordinate patches f n b) (line_length n) line
line-along patches f n b line gave =
    filled-ext (line_length n) line (λ i _. along-is patches f n b (i % 3) (i / 3) (given-at patches f n b gave (i % 3) (omega arith)))

-- ---- a line that is written
line-holds : (patches : List ℤ) (f n b a k : ℕ) (line : List ℤ) → a ≤ n → k < 3
    → get_or (filled (line_coordinate patches f n b) (line_length n) line) (3 * a + k) (pos 0) ≡ coordinate_at patches f n a b k
line-holds patches f n b a k line l below =
    let q : (3 * a + k) / 3 ≡ a = omega arith in
    let r : (3 * a + k) % 3 ≡ k = omega arith in
    filled_at (line_coordinate patches f n b) (line_length n) (3 * a + k) line (pos 0) (omega arith)
    ∙ ap₂ (λ (i j : ℕ). coordinate_at patches f n i b j) q r

module _ (patches : List ℤ) (f n b : ℕ) (line : List ℤ) where
  pub line-done : {after : List ℤ} → line_refusal patches f n b line ≡ none
      → after ≡ filled (line_coordinate patches f n b) (line_length n) line → LineSampled patches f n b line (Ok tt) after
  line-done {after} e written = record {
    answer-is = rw e;
    left = record { line-is = written ∙ rw e; samples-are = λ _ a l. line-answered patches f n b line a l e ∙ ap result (held a l) };
  }
    where
      -- coordinate k of the sample at a, by its place
      at : (a k : ℕ) → a ≤ n → k < 3 → coordinate_at patches f n a b k ≡ get_or after (3 * a + k) (pos 0)
      at a k l below = sym (rw written (line-holds patches f n b a k line l below))

      held : (a : ℕ) → a ≤ n → point_at patches f n a b ≡ point_in after a
      held a l =
          same_point
          (at a 0 l (omega arith) ∙ ap (λ (i : ℕ). get_or after i (pos 0)) (omega arith))
          (at a 1 l (omega arith))
          (at a 2 l (omega arith))

  pub line-not-done : {r : Refusal} → line_refusal patches f n b line ≡ some (number r) → LineSampled patches f n b line (Err r) line
  line-not-done {r} e = record {
    answer-is = rw e;
    left = record { line-is = rw e; samples-are = λ q. let z : ◌≡◌ {A = ℕ} 0 1 = cc in absurd (omega arith) };
  }
