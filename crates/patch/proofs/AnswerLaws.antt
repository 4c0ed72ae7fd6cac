-- From the answer of the check to that of the patch call.
use mathlib.Core.Path.{◌≡◌, refl, sym, ap, ◌∙◌}
use mathlib.Core.Bool.{Bool, true, false, ◌||◌}
use mathlib.Core.List.{List, [], ◌∷◌}
use mathlib.Core.Option.{Option, none}
use Prim.Native.Nat.{ℕ, ◌*◌, ◌≤◌}
use lib.ListN.{length}
use borrow.Author.Tests.{ltb-false}
use Rattle.finite.specs.Filled.{filled}
use Rattle.std.specs.Prelude.{Result, Err}
use Rattle.answer.specs.declared.refusal.Refusal.{Refusal}
use Rattle.answer.specs.declared.refusal.Refusal.TheVariants.{ListShort}
use Rattle.answer.specs.Table.{row, first_met, result, refusal, answer_by, answered, refuse_by}
use Rattle.answer.specs.Number.{number}
use Rattle.answer.proofs.TableLaws.{none-met, append-none, result-none, refusal-met}
use Rattle.finite.proofs.AnyAll.{or-false}
use Rattle.finite.proofs.FilledLaws.{length-filled, filled_at}
use Rattle.limits.specs.declared.model.Mesh.{Mesh}
use Rattle.mesh.specs.HalfEdge.{twin}
use Rattle.mesh.specs.IndexedMesh.{IndexedMesh, corners, at}
use Rattle.mesh.specs.Refusal.{early_rows, late_rows}
use Rattle.mesh.specs.WellFormed.{WellFormed}
use Rattle.mesh.specs.Answer.{counts_of, mesh_refusal, mesh_answer, twins_after, twins_short, lent_rows, given}
use Rattle.mesh.proofs.AcceptedLaws.{accepted-from}
use Rattle.mesh.proofs.PhaseLaws.{early-passed, refusal-alike, twins-alike, twins-accepted}
use Rattle.patch.specs.Patch.{patches_after, marks_after}
use Rattle.patch.specs.Answer.{Lent, lent, Patched, patches_short, marks_short, lists_short, patch_rows, patch_answer, patch_twins, patch_list, marks_list}
use Rattle.patch.specs.Lists.{Twins}

-- ---- the call's own row, as it is handed to the check: first the patch list and the marks, then the twins
given-short : (twins written : Bool) → first_met (given (refuse_by written ListShort) ∷ (row twins 2 ∷ [])) ≡ first_met (row (twins || written) 2 ∷ [])
given-short true true = refl
given-short true false = refl
given-short false true = refl
given-short false false = refl

module _ (M : IndexedMesh) (d : Lent) (own : Result Unit Refusal) (short : own ≡ refuse_by (patches_short M d.patches || marks_short M d.marks) ListShort) where
  same_rows : first_met (given own ∷ lent_rows M d.twins) ≡ first_met (patch_rows M d)
  same_rows = rw short (given-short (twins_short M d.twins) (patches_short M d.patches || marks_short M d.marks))

  pub same-refusal : mesh_refusal M (given own ∷ lent_rows M d.twins) [] ≡ mesh_refusal M (patch_rows M d) []
  same-refusal = refusal-alike M (given own ∷ lent_rows M d.twins) (patch_rows M d) (λ _. same_rows) []

  pub same_answer : mesh_answer M (given own ∷ lent_rows M d.twins) [] ≡ patch_answer M d
  same_answer = ap (λ (k : Option ℕ). answer_by k (counts_of M)) same-refusal

  pub same-twins : twins_after M (given own ∷ lent_rows M d.twins) [] d.twins ≡ patch_twins M d
  same-twins = twins-alike M (given own ∷ lent_rows M d.twins) (patch_rows M d) (λ _. same_rows) [] d.twins

-- ---- a refused mesh: the patch list and the marks are as they were
pub patched-refused : (M : IndexedMesh) (d : Lent) {r : Result Mesh Refusal} {e : Refusal} {t : List ℕ} → r ≡ Err e
    → refusal (number e) ≡ patch_answer M d → t ≡ patch_twins M d → Patched M d r (lent t d.patches d.marks)
patched-refused M d gone told left =
    let met = refusal-met (counts_of M) (mesh_refusal M (patch_rows M d) []) told in
    record { answer-is = ap answered gone ∙ told; twins-are = left; patches-are = rw met; marks-are = rw met }

-- ---- an accepted mesh
module _ (M : IndexedMesh) (d : Lent) {m : Mesh} (answer : result m ≡ patch_answer M d) where
  unmet : mesh_refusal M (patch_rows M d) [] ≡ none
  unmet = (result-none (mesh_refusal M (patch_rows M d) []) answer).0

  parts : (first_met (early_rows M (patch_rows M d)) ≡ none) × (first_met (late_rows M) ≡ none)
  unfolding mesh_refusal
  parts = append-none (early_rows M (patch_rows M d)) (late_rows M) unmet

  lists-long : lists_short M d ≡ false
  lists-long = (none-met (lists_short M d) 2 none (early-passed M (patch_rows M d) parts.0).0).0

  pub twins-long : corners M ≤ length d.twins
  twins-long =
      ltb-false (length d.twins) (corners M)
      (or-false (twins_short M d.twins) (patches_short M d.patches || marks_short M d.marks) lists-long).0

  written-long : (patches_short M d.patches ≡ false) × (marks_short M d.marks ≡ false)
  written-long =
      or-false (patches_short M d.patches) (marks_short M d.marks)
      (or-false (twins_short M d.twins) (patches_short M d.patches || marks_short M d.marks) lists-long).1

  pub patches-long : 48 * M.faces ≤ length d.patches
  patches-long = ltb-false (length d.patches) (48 * M.faces) written-long.0

  pub marks-long : 16 * M.faces ≤ length d.marks
  marks-long = ltb-false (length d.marks) (16 * M.faces) written-long.1

  pub result-well-formed : WellFormed M
  result-well-formed = accepted-from M (patch_rows M d) parts.0 parts.1

  pub result-list : patch_list M d ≡ patches_after M d.patches
  result-list = rw unmet

  pub result-marks : marks_list M d ≡ marks_after M d.marks
  result-marks = rw unmet

  -- the twins that the call left
  module _ (t : List ℕ) (left : t ≡ patch_twins M d) where
    filled-twins : t ≡ filled (twin (at M) (corners M)) (corners M) d.twins
    filled-twins = left ∙ sym (twins-accepted M (patch_rows M d) parts.0 parts.1 d.twins)

    pub twins-left : Twins M.indices t
    twins-left =
        let whole = result-well-formed.sized.indices-are in
        record {
          listed = rw (whole, filled-twins, length-filled (twin (at M) (corners M)) (corners M) d.twins twins-long) twins-long;
          are = rw whole (λ c l. rw filled-twins (filled_at (twin (at M) (corners M)) (corners M) c d.twins 0 l));
        }
