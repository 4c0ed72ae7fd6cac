-- When the sample call says no: the causes as the code tests them, the answer by the first cause that is met, and what holds where none is.
use mathlib.Core.Path.{◌≡◌, sym, ap, ◌∙◌}
use mathlib.Core.Bool.{true, false}
use mathlib.Core.List.{List}
use mathlib.Core.Option.{none, some}
use Prim.Native.Nat.{ℕ, ◌+◌, ◌*◌, ◌/◌, ◌≤◌, ◌<◌}
use native.Mathlib.Omega.{arith}
use lib.Dec.{ltb, leb}
use lib.IntN.{ℤ}
use lib.ListN.{length}
use borrow.Author.Tests.{lt-ltb, le-ltb, ltb-false, leb-true, leb-false}
use Rattle.answer.specs.Table.{first_met, Answer, result, refusal, answer_by}
use Rattle.finite.proofs.FoldLaws.{bool_cases}
use Rattle.finite.proofs.AnyAll.{or-false}
use Rattle.answer.proofs.TableLaws.{none-met, over, over_by}
use Rattle.sample.specs.declared.model.MarkedPoint.{MarkedPoint}
use Rattle.sample.specs.Refusal.{min_steps, max_steps, face_off, control_off, place_off, sample_rows}
use Rattle.sample.specs.Answer.{point_at, sample_answer}
use Rattle.sample.specs.Marked.{division_whole}
use Rattle.sample.specs.Blend.{Samplable}
use Rattle.sample.proofs.BlendLaws.{same-marked}
use Rattle.sample.proofs.PatchLaws.{patch_of, point_of, patch-small, patch-point, patch-whole}

-- ---- the causes as the code tests them
pub face-off : (patches : List ℤ) (f : ℕ) → length patches / 48 ≤ f → face_off patches f ≡ true
unfolding face_off
face-off patches f h = lt-ltb (length patches) (48 * f + 48) (omega arith)

pub face-on : (patches : List ℤ) (f : ℕ) → f < length patches / 48 → face_off patches f ≡ false
unfolding face_off
face-on patches f h = le-ltb (length patches) (48 * f + 48) (omega arith)

pub face-tested : (patches : List ℤ) (f : ℕ) → leb (length patches / 48) f ≡ face_off patches f
unfolding face_off
face-tested patches f =
    bool_cases (leb (length patches / 48) f)
    (λ t. t ∙ sym (lt-ltb (length patches) (48 * f + 48) (let h = leb-true (length patches / 48) f t in omega arith)))
    (λ e. e ∙ sym (le-ltb (length patches) (48 * f + 48) (let h = leb-false (length patches / 48) f e in omega arith)))

-- ---- nothing is met
--   SampleAllowed patches f n a b   the face is listed, and its patch can be sampled at (a, b)
pub record SampleAllowed (patches : List ℤ) (f n a b : ℕ) : Type 0 where
  pub listed : f < length patches / 48
  pub samplable : Samplable (patch_of patches f) n a b

pub face-listed : (patches : List ℤ) (f : ℕ) → face_off patches f ≡ false → f < length patches / 48
unfolding face_off
face-listed patches f e = omega (arith, ltb-false (length patches) (48 * f + 48) e)

pub place-on : (n a b : ℕ) → place_off n a b ≡ false → (min_steps ≤ n) × (n ≤ max_steps) × (a ≤ n) × (b ≤ n)
unfolding place_off
place-on n a b e =
    let h₁ = or-false (ltb n min_steps) _ e in
    let h₂ = or-false (ltb max_steps n) _ h₁.1 in
    let h₃ = or-false (ltb n a) (ltb n b) h₂.1 in
    (ltb-false n min_steps h₁.0, ltb-false max_steps n h₂.0, ltb-false n a h₃.0, ltb-false n b h₃.1)

pub allowed : (patches : List ℤ) (f n a b : ℕ) → first_met (sample_rows patches f n a b) ≡ none → SampleAllowed patches f n a b
allowed patches f n a b e =
    let past-12 = none-met (face_off patches f) 12 _ e in
    let past-13 = none-met (control_off patches f) 13 _ past-12.1 in
    let past-14 = none-met (place_off n a b) 14 _ past-13.1 in
    let listed = face-listed patches f past-12.0 in
    let on = place-on n a b past-14.0 in
    record {
      listed = listed;
      samplable = record {
        small = patch-small patches f listed past-13.0;
        at = record { least = on.0; most = on.1; within = on.2 };
        across = record { least = on.0; most = on.1; within = on.3 };
      };
    }

-- ---- the answer, by the first cause met
--   own_answer ..   the sample and whether its own division leaves nothing, or the number of a refusal
abbrev pub own_answer : List ℤ → ℕ → ℕ → ℕ → ℕ → Answer MarkedPoint
own_answer patches f n a b =
    answer_by (first_met (sample_rows patches f n a b)) (record { point = point_at patches f n a b; exact = division_whole patches f n a b })

module _ (patches : List ℤ) (f n a b : ℕ) where
  pub refused : {k : ℕ} → first_met (sample_rows patches f n a b) ≡ some k → refusal k ≡ own_answer patches f n a b
  refused e = rw e

  -- by the part of the list
  pub answered : first_met (sample_rows patches f n a b) ≡ none → f < length patches / 48
      → {p : MarkedPoint} → p ≡ point_of (patch_of patches f) n a b → result p ≡ own_answer patches f n a b
  answered e h q = ap result (q ∙ same-marked (patch-point patches f h n a b) (patch-whole patches f h n a b)) ∙ rw e

  -- its point is what the sample call answers
  pub own-point : over (λ (p : MarkedPoint). p.point) (own_answer patches f n a b) ≡ sample_answer patches f n a b
  unfolding sample_answer
  own-point = over_by (λ (p : MarkedPoint). p.point) (first_met (sample_rows patches f n a b)) _
