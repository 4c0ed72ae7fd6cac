-- The answer of the marked sample call: its causes are those of a sample, with 12 for the marks too, and its mark is that of the patch and of the
-- division.
use mathlib.Core.Path.{◌≡◌, ◌∙◌}
use mathlib.Core.Bool.{Bool, true, ◌&&◌}
use mathlib.Core.List.{List}
use mathlib.Core.Option.{some}
use Prim.Native.Nat.{ℕ, ◌+◌, ◌-◌, ◌*◌, ◌/◌, ◌≤◌, ◌<◌}
use native.Mathlib.Omega.{arith}
use lib.Dec.{eqb}
use lib.IntN.{ℤ}
use lib.ListN.{length, get_or, take, drop, length-take, length-drop}
use lib.Seq.{get_or-drop, get_or-take}
use borrow.Author.Tests.{lt-ltb, le-ltb}
use Rattle.std.specs.List.{list_all}
use Rattle.answer.specs.Table.{first_met, refusal}
use Rattle.finite.proofs.FoldLaws.{fold-ext, bool_cases}
use Rattle.finite.proofs.Lists.{all-of-list}
use Rattle.answer.proofs.TableLaws.{over, over_by}
use Rattle.sample.specs.declared.model.MarkedPoint.{MarkedPoint}
use Rattle.sample.specs.Refusal.{face_off, sample_rows}
use Rattle.sample.specs.Marked.{marks_off, marked_rows, patch_marked, marked_answer}
use Rattle.sample.proofs.RefusalLaws.{own_answer}

-- ---- the causes: 12 for the marks, then those of a sample
module _ (patches : List ℤ) (marks : List ℕ) (f n a b : ℕ) where
  pub marks-off : length marks / 16 ≤ f → first_met (marked_rows patches marks f n a b) ≡ some 12
  unfolding marks_off
  marks-off h =
      let short = lt-ltb (length marks) (16 * f + 16) (omega arith) in
      bool_cases (face_off patches f) (λ e. rw e) (λ e. rw (e, short))

  marks-on : f < length marks / 16 → first_met (marked_rows patches marks f n a b) ≡ first_met (sample_rows patches f n a b)
  unfolding marks_off
  marks-on h =
      let long = le-ltb (length marks) (16 * f + 16) (omega arith) in
      bool_cases (face_off patches f) (λ e. rw e) (λ e. rw (e, long))

-- ---- the marks of a face
-- the part that is handed on
abbrev pub marks_of : List ℕ → ℕ → List ℕ
marks_of marks f = take (16 * f + 16 - 16 * f) (drop (16 * f) marks)

module _ (marks : List ℕ) (f : ℕ) (within : f < length marks / 16) where
  marks-length : length (marks_of marks f) ≡ 16
  marks-length = simp (length-take, length-drop) (omega arith)

  marks-at : (i : ℕ) → i < 16 → get_or (marks_of marks f) i 0 ≡ get_or marks (16 * f + i) 0
  marks-at i l = let q : i < 16 * f + 16 - 16 * f = omega arith in rw (get_or-take, get_or-drop)

  pub marks-all : list_all (λ m. eqb m 1) (marks_of marks f) ≡ patch_marked marks f
  unfolding patch_marked
  marks-all = all-of-list (λ m. eqb m 1) (marks_of marks f) 0 ∙ rw marks-length (fold-ext true ◌&&◌ 16 (λ i l. rw (marks-at i l)))

-- ---- the answer
--   with_marks m p   the sample p with both marks: m, and that of its own division
abbrev pub with_marks : Bool → MarkedPoint → MarkedPoint
with_marks m p = record { point = p.point; exact = m && p.exact }

module _ (patches : List ℤ) (marks : List ℕ) (f n a b : ℕ) where
  pub marked_refused : {k : ℕ} → first_met (marked_rows patches marks f n a b) ≡ some k → refusal k ≡ marked_answer patches marks f n a b
  unfolding marked_answer
  marked_refused e = rw e

  -- where the marks are listed, the answer of the sample with its own mark is the call's, the marks asked as well
  pub own-marked : f < length marks / 16 → over (with_marks (patch_marked marks f)) (own_answer patches f n a b) ≡ marked_answer patches marks f n a b
  unfolding marked_answer
  own-marked h = over_by (with_marks (patch_marked marks f)) (first_met (sample_rows patches f n a b)) _ ∙ rw (marks-on patches marks f n a b h)
