-- `check_alone` meets its contract: its own list of twins is long enough for every mesh whose sizes are in their ranges, so that the row of the
-- lent list is met only where the first row is.
use mathlib.Core.Path.{◌≡◌, ap, ◌∙◌}
use mathlib.Core.Bool.{false}
use mathlib.Core.List.{List, [], ◌∷◌}
use mathlib.Core.Option.{Option, none}
use Prim.Native.Nat.{ℕ, ◌*◌}
use native.Mathlib.Omega.{arith}
use lib.ListN.{length, replicate, length-replicate}
use borrow.Author.Tests.{le-ltb}
use Rattle.answer.specs.Table.{Row, first_met, answer_by}
use Rattle.answer.proofs.TableLaws.{skipped, or_else, or_else-none, first-append}
use Rattle.limits.specs.Limits.{max_faces}
use Rattle.mesh.specs.IndexedMesh.{IndexedMesh, mesh_in, corners}
use Rattle.mesh.specs.Refusal.{mesh_sizes_off}
use Rattle.mesh.specs.Answer.{counts_of, given, lent_rows}
use Rattle.mesh.proofs.SizeLaws.{mesh-sizes-false}
use Rattle.mesh.proofs.PhaseLaws.{refusal-alike}
use Rattle.mesh.proofs.check_alone.Goals as goal

abbrev own-list : List ℕ
own-list = replicate (4 * max_faces) 0

-- ---- the list of twins of the call's own
room : (M : IndexedMesh) (own : Row) → mesh_sizes_off M ≡ false → first_met (own ∷ lent_rows M own-list) ≡ first_met (own ∷ [])
room M own e =
    let z = mesh-sizes-false M e in
    let long = le-ltb (length own-list) (corners M) (omega (arith, length-replicate {A = ℕ} (4 * max_faces) 0)) in
    first-append (own ∷ []) (lent_rows M own-list)
    ∙ ap (or_else (first_met (own ∷ []))) (skipped 2 none long)
    ∙ or_else-none (first_met (own ∷ []))

pub returns : goal.returns
returns c =
    let M = mesh_in c.args.mesh in
    let own = given c.args.own in
    c.check_after.ensures.answer-is
    ∙ ap (λ (k : Option ℕ). answer_by k (counts_of M)) (refusal-alike M (own ∷ lent_rows M own-list) (own ∷ []) (room M own) [])
