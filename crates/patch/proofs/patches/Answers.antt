-- `patches` meets its contract: the check is told of a patch list or a list of marks that is too short, so its refusals are those of the call; where
-- it gives counts, the mesh is well-formed, its twins are listed, and the patches and their marks are written.
use Rattle.std.proofs.Common.{◌≡◌, sym, ap, ◌∙◌}
use Rattle.answer.specs.Table.{result, answered}
use Rattle.mesh.specs.IndexedMesh.{IndexedMesh, mesh_in}
use Rattle.patch.specs.Answer.{Lent, lent, patch_answer, patch_twins}
use Rattle.patch.proofs.AnswerLaws.{same_answer, same-twins, patches-long, marks-long}
use Rattle.patch.proofs.AnswerLaws.{result-well-formed, result-list, result-marks, twins-left, patched-refused}
use Rattle.patch.proofs.patches.Goals.{After-check_after-answer, In-Ok}
use Rattle.patch.proofs.patches.Goals as goal

-- ---- the check has answered
module _ (c : After-check_after-answer) where
  abbrev mesh : IndexedMesh
  mesh = mesh_in c.args.mesh

  abbrev lists : Lent
  lists = lent c.args.twins.now c.args.patches.now c.args.marks.now

  answers : answered c.check_after-answer.result ≡ patch_answer mesh lists
  answers = c.check_after-answer.ensures.answer-is ∙ same_answer mesh lists _ c.own_refusal-own.ensures

  left : c.check_after-answer.new.twins ≡ patch_twins mesh lists
  left = c.check_after-answer.ensures.twins-are ∙ same-twins mesh lists _ c.own_refusal-own.ensures

-- ---- it gave counts
module _ (c : In-Ok) where
  abbrev asked : After-check_after-answer
  asked = (goal.at.In-Ok c).After-check_after-answer

  counted : result c.in-Ok.counts ≡ patch_answer (mesh asked) (lists asked)
  counted = sym (ap answered c.in-Ok.is) ∙ answers asked

-- ---- the answers, in the order of the code
pub returns-in_default : goal.returns-in_default
returns-in_default c =
    let k : After-check_after-answer = (goal.at.returns-in_default c).After-check_after-answer in
    patched-refused (mesh k) (lists k) c.in_default.is (sym (ap answered c.in_default.is) ∙ answers k) (left k)

pub fill_patches-requires : goal.fill_patches-requires
fill_patches-requires c =
    let t : In-Ok = (goal.at.fill_patches-requires c).In-Ok in
    let k = asked t in
    record {
      accepted = result-well-formed (mesh k) (lists k) (counted t);
      twinned = twins-left (mesh k) (lists k) (counted t) _ (left k);
      patches-room = patches-long (mesh k) (lists k) (counted t);
      marks-room = marks-long (mesh k) (lists k) (counted t);
    }

pub returns : goal.returns
returns c =
    let t : In-Ok = (goal.at.returns c).In-Ok in
    let k = asked t in
    record {
      answer-is = counted t;
      twins-are = left k;
      patches-are = c.fill_patches.ensures.patches_after ∙ sym (result-list (mesh k) (lists k) (counted t));
      marks-are = c.fill_patches.ensures.marks_after ∙ sym (result-marks (mesh k) (lists k) (counted t));
    }
