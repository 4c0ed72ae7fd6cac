-- What the tangent call answers for an accepted mesh: the tangents, where the face has no corner at a boundary vertex and the list has 72 places.
use mathlib.Core.Path.{◌≡◌, refl, sym, ◌∙◌}
use mathlib.Core.Bool.{false}
use mathlib.Core.List.{List, [], ◌++◌}
use mathlib.Core.Option.{none}
use Prim.Native.Nat.{ℕ, ◌<◌}
use lib.IntN.{ℤ}
use lib.ListN.{length}
use borrow.Author.Tests.{lt-leb, eq-eqb}
use Rattle.finite.proofs.AnyAll.{or-false}
use Rattle.answer.proofs.TableLaws.{none-met, none-append, append-none, result-none}
use Rattle.std.specs.Prelude.{Result}
use Rattle.answer.specs.declared.refusal.Refusal.{Refusal}
use Rattle.mesh.specs.IndexedMesh.{IndexedMesh}
use Rattle.mesh.specs.Refusal.{early_rows, late_rows}
use Rattle.mesh.specs.WellFormed.{WellFormed}
use Rattle.mesh.specs.Answer.{mesh_refusal}
use Rattle.mesh.proofs.AcceptedLaws.{accepted-early, accepted-late}
use Rattle.tangent.specs.Tangent.{tangent_list}
use Rattle.tangent.specs.Answer.{face_missing, face_open, not_given, tangent_rows, tangent_refusal, TangentsGiven}
use Rattle.tangency.specs.Claim.{Written}

-- ---- no cause is met
pub nothing-met : {M : IndexedMesh} → WellFormed M → (g : ℕ) (d : List ℤ) → g < M.faces → face_open M g ≡ false → length d ≡ 72
    → tangent_refusal M g d ≡ none
unfolding mesh_refusal
nothing-met {M} a g d l closed long =
    none-append (early_rows M []) (late_rows M ++ tangent_rows M g d) (accepted-early a [] refl)
    ∙ none-append (late_rows M) (tangent_rows M g d) (accepted-late a)
    ∙ rw (lt-leb M.faces g l, closed, eq-eqb (length d) 72 long)

-- and what that says of the face
refusal-closed : (M : IndexedMesh) (g : ℕ) (d : List ℤ) → tangent_refusal M g d ≡ none → face_open M g ≡ false
unfolding mesh_refusal
refusal-closed M g d e =
    let late = (append-none (early_rows M []) (late_rows M ++ tangent_rows M g d) e).1 in
    let own = (append-none (late_rows M) (tangent_rows M g d) late).1 in
    let given = (none-met (face_missing M g) 12 _ own).1 in
    (or-false (face_open M g) _ (none-met (not_given M g d) 18 none given).0).0

-- ---- a call that wrote the tangents
module _ {M : IndexedMesh} {g : ℕ} {d d' : List ℤ} {r : Result Unit Refusal} (gave : TangentsGiven M g d r d') (written : Written r) where
  written-met : tangent_refusal M g d ≡ none
  written-met = (result-none (tangent_refusal M g d) (sym written ∙ gave.answer-is)).0

  pub written-closed : face_open M g ≡ false
  written-closed = refusal-closed M g d written-met

  pub written-list : d' ≡ tangent_list M g
  written-list = gave.list-is ∙ rw written-met
