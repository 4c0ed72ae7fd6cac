-- What opening a file answers and leaves in the patch list that it is lent, whatever it is passed.
--
--   open_refusal b d      the refusal that opening meets, which is lent the patch list d: the rows of the file, 15, 1 and 15; then 2, where d is
--                        too short; then 3 to 11 of the mesh; then 14, where N is off its range (rule R3)
--   FileOpened ..        what opening answers, and the patch list afterwards: written where the file is accepted, and as it was after a refusal
use Rattle.std.specs.Prelude.{◌≡◌, Bool, List, [], ◌∷◌, ◌++◌, ℕ, ℤ, Result}
use Rattle.std.proofs.Math.Option.{Option}
use Rattle.answer.specs.Table.{row, first_met, answer_by, written_by, answered}
use Rattle.answer.specs.declared.refusal.Refusal.{Refusal}
use Rattle.limits.specs.Range.{off}
use Rattle.mesh.specs.Refusal.{early_rows, late_rows}
use Rattle.mesh.specs.Answer.{counts_of}
use Rattle.sample.specs.Refusal.{min_steps, max_steps}
use Rattle.patch.specs.Patch.{patches_after}
use Rattle.patch.specs.Answer.{patches_short}
use Rattle.decoding.specs.File.{steps, mesh_of, file_rows}
use Rattle.meshfile.specs.declared.model.Tessellation.{Tessellation}

-- 14: N is off its range
abbrev pub steps_off : ℕ → Bool
steps_off n = off min_steps max_steps n

unfoldable pub open_refusal : List ℕ → List ℤ → Option ℕ
open_refusal b d =
    first_met (file_rows b
    ++ (early_rows (mesh_of b) (row (patches_short (mesh_of b) d) 2 ∷ [])
    ++ (late_rows (mesh_of b) ++ (row (steps_off (steps b)) 14 ∷ []))))

pub record FileOpened (b : List ℕ) (d : List ℤ) (r : Result Tessellation Refusal) (d' : List ℤ) : Type 0 where
  pub answer-is : answered r ≡ answer_by (open_refusal b d) (record { mesh = counts_of (mesh_of b); steps = steps b })
  pub patches-are : d' ≡ written_by (open_refusal b d) d (patches_after (mesh_of b) d)
