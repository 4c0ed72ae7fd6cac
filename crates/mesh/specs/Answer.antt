-- What a mesh call answers and what it leaves in the list of twins, whatever it is passed.
--
--   counts_of M          the counts V, F, E and B of the mesh M (rule T8)
--   mesh_refusal M own after   the refusal that the mesh M meets in a call with rows of its own: `own` after row 1, `after` behind all rows of
--                       the mesh
--   mesh_answer M own after   the answer of that call: its counts, or the refusal
--   twins_after M own after d   the list of twins afterwards, which held d: untouched after an early refusal, all `no_twin` after a later one,
--                       else the twins
--   lent_rows M d        the row of a call that is lent the twins d: they have fewer than 4F places (rule R2, row 2)
--   check_answer, check_twins   the answer and the list of twins of the check, which is lent a list of twins alone
--   given own           a row of a call for the first cause that it found met among its own, if one is
--   MeshChecked M own d r d'   what a call that checks the mesh M, with rows of its own, answers and leaves in the lent twins
use Rattle.std.specs.Prelude.{◌≡◌, Bool, true, false, List, [], ◌∷◌, ◌++◌, ℕ, ltb, length, Result, Ok, Err}
use Rattle.std.proofs.Math.Option.{Option}
use Rattle.finite.specs.Filled.{filled}
use Rattle.answer.specs.Table.{Row, row, first_met, Answer, answer_by, written_by, answered}
use Rattle.answer.specs.declared.refusal.Refusal.{Refusal}
use Rattle.answer.specs.Number.{number}
use Rattle.limits.specs.Limits.{no_twin}
use Rattle.limits.specs.declared.model.Mesh.{Mesh}
use Rattle.mesh.specs.HalfEdge.{twin, edges, boundaries}
use Rattle.mesh.specs.IndexedMesh.{IndexedMesh, corners, at}
use Rattle.mesh.specs.Refusal.{early_rows, late_rows}

abbrev pub counts_of : IndexedMesh → Mesh
counts_of M = record {
  vertices = M.vertices;
  faces = M.faces;
  edges = edges (at M) (corners M) M.vertices;
  boundary = boundaries (at M) (corners M);
}

unfoldable pub mesh_refusal : IndexedMesh → List Row → List Row → Option ℕ
mesh_refusal M own after = first_met (early_rows M own ++ (late_rows M ++ after))

abbrev pub mesh_answer : IndexedMesh → List Row → List Row → Answer Mesh
mesh_answer M own after = answer_by (mesh_refusal M own after) (counts_of M)

unfoldable pub twins_after : IndexedMesh → List Row → List Row → List ℕ → List ℕ
twins_after M own after d =
    written_by (first_met (early_rows M own)) d
    (written_by (first_met (late_rows M ++ after)) (filled (λ c. no_twin) (corners M) d) (filled (twin (at M) (corners M)) (corners M) d))

abbrev pub twins_short : IndexedMesh → List ℕ → Bool
twins_short M d = ltb (length d) (corners M)

abbrev pub lent_rows : IndexedMesh → List ℕ → List Row
lent_rows M d = row (twins_short M d) 2 ∷ []

abbrev pub check_answer : IndexedMesh → List ℕ → Answer Mesh
check_answer M d = mesh_answer M (lent_rows M d) []

abbrev pub check_twins : IndexedMesh → List ℕ → List ℕ
check_twins M d = twins_after M (lent_rows M d) [] d

abbrev pub given : Result Unit Refusal → Row
given (Ok done) = row false 0
given (Err r) = row true (number r)

pub record MeshChecked (M : IndexedMesh) (own : List Row) (d : List ℕ) (r : Result Mesh Refusal) (d' : List ℕ) : Type 0 where
  pub answer-is : answered r ≡ mesh_answer M own []
  pub twins-are : d' ≡ twins_after M own [] d
