-- What only the contracts of private functions cite: the answer for a mesh that is taken out of a file.
--
--   tessellate_refusal M n d   the refusal for the mesh M and N = n, where the patch list d is lent: the mesh's, with 2 for that list, else 14
--                         where N is off its range
--   Tessellated M n d r d'    the answer r for the mesh M and N = n, and the patch list d' afterwards, which held d
use Rattle.std.specs.Prelude.{◌≡◌, List, [], ◌∷◌, ℕ, ℤ, Result}
use Rattle.std.proofs.Math.Option.{Option}
use Rattle.answer.specs.Table.{row, answer_by, written_by, answered}
use Rattle.answer.specs.declared.refusal.Refusal.{Refusal}
use Rattle.mesh.specs.IndexedMesh.{IndexedMesh}
use Rattle.mesh.specs.Answer.{counts_of, mesh_refusal}
use Rattle.patch.specs.Patch.{patches_after}
use Rattle.patch.specs.Answer.{patches_short}
use Rattle.meshfile.specs.declared.model.Tessellation.{Tessellation}
use Rattle.meshfile.specs.Answer.{steps_off}

abbrev pub tessellate_refusal : IndexedMesh → ℕ → List ℤ → Option ℕ
tessellate_refusal M n d = mesh_refusal M (row (patches_short M d) 2 ∷ []) (row (steps_off n) 14 ∷ [])

pub record Tessellated (M : IndexedMesh) (n : ℕ) (d : List ℤ) (r : Result Tessellation Refusal) (d' : List ℤ) : Type 0 where
  pub answer-is : answered r ≡ answer_by (tessellate_refusal M n d) (record { mesh = counts_of M; steps = n })
  pub patches-are : d' ≡ written_by (tessellate_refusal M n d) d (patches_after M d)
