-- From the answer of the check, which has a list of twins of the call's own here, to that of the tangent call.
use mathlib.Core.Path.{◌≡◌, sym, ap, ◌∙◌}
use mathlib.Core.Bool.{false, not, ◌||◌}
use mathlib.Core.List.{List, [], ◌∷◌}
use mathlib.Core.Option.{Option, none, some}
use Prim.Native.Nat.{ℕ, ◌*◌, ◌≤◌, ◌<◌}
use native.Mathlib.Omega.{arith}
use lib.Dec.{eqb, leb}
use lib.IntN.{ℤ}
use lib.ListN.{length, replicate, length-replicate}
use borrow.Author.Tests.{le-ltb, leb-false}
use Rattle.std.specs.Prelude.{Result, Ok, Err}
use Rattle.answer.specs.Number.{number}
use Rattle.answer.specs.Table.{row, first_met, result, refusal, answer_by, written_by, refused}
use Rattle.answer.specs.declared.refusal.Refusal.{Refusal}
use Rattle.answer.proofs.TableLaws.{skipped, none-met, append-none, result-none, refusal-met}
use Rattle.finite.proofs.AnyAll.{or-false}
use Rattle.finite.proofs.FilledLaws.{length-filled, filled_at, list_below-ext}
use Rattle.limits.specs.Limits.{max_faces}
use Rattle.limits.specs.declared.model.Mesh.{Mesh}
use Rattle.mesh.specs.HalfEdge.{twin}
use Rattle.mesh.specs.IndexedMesh.{IndexedMesh, corners, at}
use Rattle.mesh.specs.Refusal.{mesh_sizes_off, early_rows, late_rows}
use Rattle.mesh.specs.WellFormed.{WellFormed}
use Rattle.mesh.specs.Answer.{counts_of, mesh_refusal, lent_rows, check_answer, check_twins}
use Rattle.mesh.proofs.AcceptedLaws.{accepted-from}
use Rattle.mesh.proofs.SizeLaws.{mesh-sizes-false}
use Rattle.mesh.proofs.PhaseLaws.{refusal-alike, refusal-split, twins-accepted}
use Rattle.tangent.specs.Tangent.{tangent_list}
use Rattle.tangent.specs.Answer.{face_missing, face_open, not_given, tangent_rows, tangent_refusal, TangentsGiven}
use Rattle.tangent.specs.Lists.{Fanned, open_in, numbers_from}
use Rattle.tangent.proofs.FillLaws.{number_is}

-- ---- the twins of the call's own, which have room for every mesh whose sizes are in their ranges
abbrev pub own_twins : List ℕ
own_twins = replicate (4 * max_faces) 0

module _ (M : IndexedMesh) where
  room : mesh_sizes_off M ≡ false → first_met (lent_rows M own_twins) ≡ none
  room e =
      let z = mesh-sizes-false M e in
      skipped 2 none (le-ltb (length own_twins) (corners M) (omega (arith, length-replicate {A = ℕ} (4 * max_faces) 0)))

  same-refusal : mesh_refusal M (lent_rows M own_twins) [] ≡ mesh_refusal M [] []
  same-refusal = refusal-alike M (lent_rows M own_twins) [] room []

  module _ (g : ℕ) (d : List ℤ) where
    -- ---- a refusal that is met is the answer, and the list is as it was
    pub stopped : (e : Refusal) → tangent_refusal M g d ≡ some (number e) → TangentsGiven M g d (Err e) d
    stopped e met = record {
      answer-is = ap (λ (m : Option ℕ). answer_by m tt) (sym met);
      list-is = ap (λ (m : Option ℕ). written_by m d (tangent_list M g)) (sym met);
    }

    pub check-refused : {k : ℕ} → refusal k ≡ check_answer M own_twins → tangent_refusal M g d ≡ some k
    check-refused e =
        refusal-split M [] (tangent_rows M g d)
        ∙ rw (sym same-refusal ∙ refusal-met (counts_of M) (mesh_refusal M (lent_rows M own_twins) []) e)

    -- ---- the mesh is accepted
    module _ {m : Mesh} (accepted : result m ≡ check_answer M own_twins) where
      parts : (first_met (early_rows M (lent_rows M own_twins)) ≡ none) × (first_met (late_rows M) ≡ none)
      unfolding mesh_refusal
      parts = append-none (early_rows M (lent_rows M own_twins)) (late_rows M) (result-none (mesh_refusal M (lent_rows M own_twins) []) accepted).0

      pub formed : WellFormed M
      formed = accepted-from M (lent_rows M own_twins) parts.0 parts.1

      -- the twins that the check left
      pub fanned : (t : List ℕ) → t ≡ check_twins M own_twins → Fanned M.indices t
      fanned t left =
          let z = formed.sized in
          let whole = z.indices-are in
          let long : corners M ≤ length own_twins = omega (arith, z.faces-high, length-replicate {A = ℕ} (4 * max_faces) 0) in
          let e = left ∙ sym (twins-accepted M (lent_rows M own_twins) parts.0 parts.1 own_twins) in
          record {
            twinned = record {
              indices = record {
                whole = omega (arith, whole);
                few = omega (arith, whole, z.faces-high);
                listed = omega arith;
                named = rw whole (λ c l. omega (arith, formed.named c l, z.vertices-high));
              };
              simple = rw whole formed.simple;
              twins-listed = rw (whole, e, length-filled (twin (at M) (corners M)) (corners M) own_twins long) long;
              twins-are = rw whole (λ c l. rw e (filled_at (twin (at M) (corners M)) (corners M) c own_twins 0 l));
            };
            fans = rw whole (λ c l. formed.fans (at M c) (formed.named c l));
          }

      passed : tangent_refusal M g d ≡ first_met (tangent_rows M g d)
      passed =
          refusal-split M [] (tangent_rows M g d)
          ∙ rw (sym same-refusal ∙ (result-none (mesh_refusal M (lent_rows M own_twins) []) accepted).0)

      open-same : open_in M.indices g ≡ face_open M g
      unfolding face_open
      open-same = rw formed.sized.indices-are

      -- r is what the call found of its own
      module _ {A : Type 0} (r : Result A Refusal)
          (own : first_met (row (leb M.faces g) 12 ∷ (row (open_in M.indices g || not (eqb (length d) 72)) 18 ∷ [])) ≡ refused r) where
        own_is : tangent_refusal M g d ≡ refused r
        own_is = passed ∙ rw open-same at own

        pub own-refused : (e : Refusal) → r ≡ Err e → tangent_refusal M g d ≡ some (number e)
        own-refused e n = own_is ∙ ap refused n

        module _ (a : A) (n : r ≡ Ok a) where
          unmet : tangent_refusal M g d ≡ none
          unmet = own_is ∙ ap refused n

          rows : (face_missing M g ≡ false) × (not_given M g d ≡ false)
          rows =
              let first = none-met (face_missing M g) 12 _ (sym passed ∙ unmet) in
              (first.0, (none-met (not_given M g d) 18 none first.1).0)

          pub face-below : g < M.faces
          face-below = leb-false M.faces g rows.0

          pub face-closed : face_open M g ≡ false
          face-closed = (or-false (face_open M g) (not (eqb (length d) 72)) rows.1).0

          -- and the numbers were written, from the twins that are listed
          pub done : {t : List ℕ} → Fanned M.indices t → {d' : List ℤ} → d' ≡ numbers_from M.positions M.indices t g → TangentsGiven M g d (Ok tt) d'
          done linked written = record {
            answer-is = rw unmet;
            list-is = written ∙ list_below-ext 72 (number_is formed g face-below face-closed linked) ∙ rw unmet;
          }
