-- What the tangent call answers and what it leaves in the list that it is lent, whatever it is passed (rule D9).
--
--   face_missing M g        there is no face g (rule R2, row 12)
--   face_open M g       face g has a corner at a boundary vertex
--   not_given M g d     the face has no tangents here, or the lent list d has not 72 places (rule R2, row 18)
--   tangent_refusal ..  the refusal that the call meets: one of the mesh, as it is checked where no twins are lent, or else row 12 or 18
--   tangent_answer ..   its answer: done, or the number of the refusal
--   tangents_after M g d   the lent list afterwards, which held d: the 72 numbers, or what it held after a refusal
--   TangentsGiven M g d r d'   r is the answer of the tangent call on face g of the mesh M with the lent list d, and d' is the list afterwards
use Rattle.std.specs.Prelude.{◌≡◌, Bool, not, ◌||◌, List, [], ◌∷◌, ℕ, ◌+◌, ◌*◌, eqb, leb, ℤ, length, Result}
use Rattle.std.proofs.Math.Option.{Option}
use Rattle.finite.specs.Fold.{any_below}
use Rattle.answer.specs.Table.{Row, row, Answer, answer_by, written_by, answered}
use Rattle.answer.specs.declared.refusal.Refusal.{Refusal}
use Rattle.mesh.specs.Fan.{on_boundary}
use Rattle.mesh.specs.IndexedMesh.{IndexedMesh, corners, at}
use Rattle.mesh.specs.Answer.{mesh_refusal}
use Rattle.tangent.specs.Tangent.{tangent_list}

abbrev pub face_missing : IndexedMesh → ℕ → Bool
face_missing M g = leb M.faces g

unfoldable pub face_open : IndexedMesh → ℕ → Bool
face_open M g = any_below (λ s. on_boundary (at M) (corners M) (at M (4 * g + s))) 4

abbrev pub not_given : IndexedMesh → ℕ → List ℤ → Bool
not_given M g d = face_open M g || not (eqb (length d) 72)

abbrev pub tangent_rows : IndexedMesh → ℕ → List ℤ → List Row
tangent_rows M g d = row (face_missing M g) 12 ∷ (row (not_given M g d) 18 ∷ [])

abbrev pub tangent_refusal : IndexedMesh → ℕ → List ℤ → Option ℕ
tangent_refusal M g d = mesh_refusal M [] (tangent_rows M g d)

abbrev pub tangent_answer : IndexedMesh → ℕ → List ℤ → Answer Unit
tangent_answer M g d = answer_by (tangent_refusal M g d) tt

abbrev pub tangents_after : IndexedMesh → ℕ → List ℤ → List ℤ
tangents_after M g d = written_by (tangent_refusal M g d) d (tangent_list M g)

pub record TangentsGiven (M : IndexedMesh) (g : ℕ) (d : List ℤ) (r : Result Unit Refusal) (d' : List ℤ) : Type 0 where
  pub answer-is : answered r ≡ tangent_answer M g d
  pub list-is : d' ≡ tangents_after M g d
