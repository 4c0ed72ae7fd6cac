-- What the mirror call answers and leaves, by what the check answered and by the lengths of the lent lists.
use mathlib.Core.Path.{◌≡◌, sym, ap, ◌∙◌}
use mathlib.Core.Bool.{true, false}
use mathlib.Core.List.{List, []}
use mathlib.Core.Option.{none, some}
use Prim.Native.Nat.{ℕ, ◌%◌}
use lib.Dec.{eqb}
use lib.ListN.{length}
use borrow.Author.Tests.{eqb-true, not-false}
use Rattle.finite.specs.Filled.{filled, list_below}
use Rattle.answer.specs.Table.{result, refusal, first_met, answered}
use Rattle.std.specs.Prelude.{Result}
use Rattle.answer.specs.declared.refusal.Refusal.{Refusal}
use Rattle.finite.proofs.AnyAll.{or-false}
use Rattle.finite.proofs.FilledLaws.{filled-whole}
use Rattle.finite.proofs.Lists.{below-of-list}
use Rattle.answer.proofs.TableLaws.{result-none, refusal-met}
use Rattle.limits.specs.declared.model.Mesh.{Mesh}
use Rattle.mesh.specs.IndexedMesh.{IndexedMesh, at, tag, coordinate}
use Rattle.mesh.specs.Refusal.{Accepted}
use Rattle.mesh.specs.Answer.{counts_of, mesh_refusal, mesh_answer}
use Rattle.mesh.proofs.AcceptedLaws.{accepted-well-formed}
use Rattle.mesh.proofs.PhaseLaws.{refusal-split}
use Rattle.edit.specs.Mirror.{reflected_corner, reflected, differ, Outputs, outputs_off, mirror_rows, mirror_refusal, MeshMirrored}

-- the check gave counts
pub check-accepted : (M : IndexedMesh) {m : Mesh} → result m ≡ mesh_answer M [] [] → Accepted M
unfolding mesh_refusal Accepted
check-accepted M e = (result-none (mesh_refusal M [] []) e).0

-- a list that was filled to its end, as long as the list of the mesh that is written into it, which has n places
list_written : {A : Type 0} (f : ℕ → A) {m n : ℕ} (before : List A) {after : List A} → after ≡ filled f m before → length before ≡ m → m ≡ n
    → after ≡ list_below f n
list_written f before e same whole = e ∙ filled-whole f _ before same ∙ ap (list_below f) whole

-- each lent list is as long as the list of the mesh that is written into it
pub record SameLengths (M : IndexedMesh) (d : Outputs) : Type 0 where
  pub positions : length d.positions ≡ length M.positions
  pub tags : length d.tags ≡ length M.tags
  pub indices : length d.indices ≡ length M.indices

-- the lists were filled
pub record Filled (M : IndexedMesh) (d d' : Outputs) : Type 0 where
  pub positions : d'.positions ≡ filled (λ i. reflected (i % 3) (coordinate M i)) (length M.positions) d.positions
  pub tags : d'.tags ≡ M.tags
  pub indices : d'.indices ≡ filled (λ c. at M (reflected_corner c)) (length M.indices) d.indices

module _ (M : IndexedMesh) (d : Outputs) where
  -- ---- the lengths of the lent lists are those of the mesh's
  same_length : (m n : ℕ) → differ m n ≡ false → m ≡ n
  same_length m n e = eqb-true m n (not-false (eqb m n) e)

  pub lengths-same : outputs_off M d ≡ false → SameLengths M d
  lengths-same on =
      let first = or-false (differ (length d.positions) (length M.positions)) _ on in
      let second = or-false (differ (length d.tags) (length M.tags)) _ first.1 in
      record { positions = same_length _ _ first.0; tags = same_length _ _ second.0; indices = same_length _ _ second.1 }

  -- ---- a refusal leaves the lists as they were
  pub refused : (r : Result Unit Refusal) {k : ℕ} → answered r ≡ refusal k → mirror_refusal M d ≡ some k → MeshMirrored M d r d
  refused r e met = record { answer-is = rw (met, e); left = record { positions-are = rw met; tags-are = rw met; indices-are = rw met } }

  -- the check refused
  pub check-refused : {k : ℕ} → refusal k ≡ mesh_answer M [] [] → mirror_refusal M d ≡ some k
  check-refused e = refusal-split M [] (mirror_rows M d) ∙ rw (refusal-met (counts_of M) (mesh_refusal M [] []) e)

  -- ---- the check accepted
  module _ (accepted : Accepted M) where
    unmet : mesh_refusal M [] [] ≡ none
    unfolding mesh_refusal Accepted
    unmet = accepted

    passed : mirror_refusal M d ≡ first_met (mirror_rows M d)
    passed = refusal-split M [] (mirror_rows M d) ∙ rw unmet

    pub lengths-refused : outputs_off M d ≡ true → mirror_refusal M d ≡ some 16
    lengths-refused off = passed ∙ rw off

    pub nothing-met : outputs_off M d ≡ false → mirror_refusal M d ≡ none
    nothing-met on = passed ∙ rw on

    -- and the lists were filled
    pub done : outputs_off M d ≡ false → (r : Result Unit Refusal) → answered r ≡ result tt → {d' : Outputs} → Filled M d d' → MeshMirrored M d r d'
    done on r e written =
        let met = nothing-met on in
        let same = lengths-same on in
        let sized = (accepted-well-formed accepted).sized in
        record {
          answer-is = rw (met, e);
          left = record {
            positions-are = rw met (list_written _ d.positions written.positions same.positions sized.positions-are);
            tags-are = rw met (written.tags ∙ sym (below-of-list M.tags 0) ∙ ap (list_below (tag M)) sized.tags-are);
            indices-are = rw met (list_written _ d.indices written.indices same.indices sized.indices-are);
          };
        }
