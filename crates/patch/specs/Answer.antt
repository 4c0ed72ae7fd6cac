-- What the patch call answers and what it leaves in the three lists that it is lent, whatever it is passed.
--
--   Lent             the lists that the call is lent: twins, patch list and marks
--   lists_short M d   one of the lists is too short: 4F places for twins, 48F for control values, 16F for marks (rule R2, row 2)
--   patch_rows ..     the call's own row
--   patch_answer ..   the answer is the check's of the whole mesh: the four counts (rule T8), or the number of a refusal
--   patch_twins ..    the list of twins afterwards, as the check leaves it (rules T9 and R4)
--   patch_list ..     the patch list afterwards: written where the mesh is accepted, and as it was after a refusal
--   marks_list ..     the list of marks afterwards, likewise
--   Patched M d r d' r is the answer of the patch call on the mesh M with the lent lists d, and d' are the lists afterwards
use Rattle.std.specs.Prelude.{◌≡◌, Bool, ◌||◌, List, [], ◌∷◌, ℕ, ◌*◌, ltb, ℤ, length, Result}
use Rattle.answer.specs.declared.refusal.Refusal.{Refusal}
use Rattle.answer.specs.Table.{Row, row, Answer, written_by, answered}
use Rattle.limits.specs.declared.model.Mesh.{Mesh}
use Rattle.mesh.specs.IndexedMesh.{IndexedMesh}
use Rattle.mesh.specs.Answer.{mesh_refusal, mesh_answer, twins_after, twins_short}
use Rattle.patch.specs.Patch.{patches_after, marks_after}

pub record Lent : Type 0 where
  pub twins : List ℕ
  pub patches : List ℤ
  pub marks : List ℕ

abbrev pub lent : List ℕ → List ℤ → List ℕ → Lent
lent twins patches marks = record { twins = twins; patches = patches; marks = marks }

abbrev pub patches_short : IndexedMesh → List ℤ → Bool
patches_short M patches = ltb (length patches) (48 * M.faces)

abbrev pub marks_short : IndexedMesh → List ℕ → Bool
marks_short M marks = ltb (length marks) (16 * M.faces)

abbrev pub lists_short : IndexedMesh → Lent → Bool
lists_short M d = twins_short M d.twins || (patches_short M d.patches || marks_short M d.marks)

abbrev pub patch_rows : IndexedMesh → Lent → List Row
patch_rows M d = row (lists_short M d) 2 ∷ []

abbrev pub patch_answer : IndexedMesh → Lent → Answer Mesh
patch_answer M d = mesh_answer M (patch_rows M d) []

abbrev pub patch_twins : IndexedMesh → Lent → List ℕ
patch_twins M d = twins_after M (patch_rows M d) [] d.twins

abbrev pub patch_list : IndexedMesh → Lent → List ℤ
patch_list M d = written_by (mesh_refusal M (patch_rows M d) []) d.patches (patches_after M d.patches)

abbrev pub marks_list : IndexedMesh → Lent → List ℕ
marks_list M d = written_by (mesh_refusal M (patch_rows M d) []) d.marks (marks_after M d.marks)

pub record Patched (M : IndexedMesh) (d : Lent) (r : Result Mesh Refusal) (d' : Lent) : Type 0 where
  pub answer-is : answered r ≡ patch_answer M d
  pub twins-are : d'.twins ≡ patch_twins M d
  pub patches-are : d'.patches ≡ patch_list M d
  pub marks-are : d'.marks ≡ marks_list M d
