-- `tessellate` meets its contract: 2 comes before the mesh's refusals, and 14 after them; else the answer and the patch list are those of the patch call.
use Rattle.std.proofs.Common.{◌≡◌, ◌∙◌, refl, sym, ap, false, ℕ, [], ◌∷◌, Err, arith}
use Rattle.std.proofs.lemmas.Grind.{common_steps}
use mathlib.Core.Option.{Option, some}
use Rattle.answer.specs.Number.{number}
use Rattle.answer.specs.Table.{row}
use Rattle.answer.specs.declared.refusal.Refusal.{Refusal}
use Rattle.answer.specs.declared.refusal.Refusal.TheVariants.{ListShort}
use Rattle.answer.proofs.TableLaws.{or_else, result-none, refusal-met, refuse-met, refuse-passed}
use Rattle.mesh.specs.IndexedMesh.{mesh_in}
use Rattle.mesh.specs.Answer.{counts_of, mesh_refusal}
use Rattle.patch.specs.Answer.{patches_short, patch_rows, lent}
use Rattle.meshfile.specs.Tessellated.{tessellate_refusal}
use Rattle.meshfile.proofs.OpenLaws.{no-twins, no-marks, patches-short, steps-off, steps_on, refused-mesh}
use Rattle.meshfile.proofs.tessellate.tessellate.Goals.{After-patches, In_ok-refuse, Then-off_range}
use Rattle.meshfile.proofs.tessellate.tessellate.Goals as goal

pub returns-in_err-refuse : goal.returns-in_err-refuse
returns-in_err-refuse c =
    let r : c.from_residual.result ≡ Err c.in_err-refuse.field-0.0 = grind (arith, common_steps) in
    let met = refuse-met (patches_short (mesh_in c.args.mesh) c.args.patches.now) ListShort (sym c.in_err-refuse.ensures) in
    refused-mesh _ c.args.n _ _ r (patches-short _ c.args.n _ c.requires met.0 ∙ ap (λ (e : Refusal). some (number e)) (sym met.1))

-- ---- the patch list is long enough
long : (c : In_ok-refuse) → patches_short (mesh_in c.args.mesh) c.args.patches.now ≡ false
long c = refuse-passed (patches_short (mesh_in c.args.mesh) c.args.patches.now) ListShort (sym c.in_ok-refuse.ensures)

-- ---- N is off its range: the refusal is the check's, else 14
off : (c : Then-off_range) {o : Option ℕ} → mesh_refusal (mesh_in c.args.mesh) (row false 0 ∷ []) [] ≡ o
    → tessellate_refusal (mesh_in c.args.mesh) c.args.n c.args.patches.now ≡ or_else o (some 14)
off c e =
    steps-off (mesh_in c.args.mesh) c.args.n c.args.patches.now (long (goal.at.Then-off_range c).In_ok-refuse) (sym c.off_range.ensures ∙ c.if-off_range.true) e

pub returns-in_err-check_alone : goal.returns-in_err-check_alone
returns-in_err-check_alone c =
    let M = mesh_in c.args.mesh in
    let r : c.from_residual-in_err-check_alone.result ≡ Err c.in_err-check_alone.field-0.0 = grind (arith, common_steps) in
    refused-mesh _ c.args.n _ _ r
    (off (goal.at.returns-in_err-check_alone c).Then-off_range (refusal-met (counts_of M) (mesh_refusal M (row false 0 ∷ []) []) c.in_err-check_alone.ensures))

pub returns-then-off_range : goal.returns-then-off_range
returns-then-off_range c =
    let M = mesh_in c.args.mesh in
    refused-mesh _ c.args.n _ _ refl
    (off (goal.at.returns-then-off_range c).Then-off_range (result-none (mesh_refusal M (row false 0 ∷ []) []) c.in_ok-check_alone.ensures).0)

-- ---- N is in its range: what the patch call meets is what the contract says
module _ (c : After-patches) where
  -- the refusal that the patch call meets, with the lists that the code keeps
  abbrev met : Option ℕ
  met = mesh_refusal (mesh_in c.args.mesh) (patch_rows (mesh_in c.args.mesh) (lent no-twins c.args.patches.now no-marks)) []

  same : tessellate_refusal (mesh_in c.args.mesh) c.args.n c.args.patches.now ≡ met
  same = steps_on (mesh_in c.args.mesh) c.args.n c.args.patches.now c.requires.faces-high (sym c.off_range.ensures ∙ c.if-off_range.false)

pub returns-in_err-counts : goal.returns-in_err-counts
returns-in_err-counts c =
    let p = (goal.at.returns-in_err-counts c).After-patches in
    let r : c.from_residual-in_err-counts.result ≡ Err c.in_err-counts.field-0.0 = grind (arith, common_steps) in
    let m = refusal-met (counts_of (mesh_in c.args.mesh)) (met p) (c.in_err-counts.ensures).answer-is in
    record { answer-is = rw (r, same p ∙ m); patches-are = c.patches.ensures.patches-are ∙ rw (m, same p ∙ m) }

pub returns : goal.returns
returns c =
    let p = (goal.at.returns c).After-patches in
    let m = result-none (met p) (c.in_ok-counts.ensures).answer-is in
    record { answer-is = rw (same p ∙ m.0, m.1); patches-are = c.patches.ensures.patches-are ∙ rw (m.0, same p ∙ m.0) }
