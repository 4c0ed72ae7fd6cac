-- `mirror` meets its contract: what the check refuses is refused, then lists of other lengths are; where it accepts, no coordinate is beyond the
-- limit, the faces are whole, and the three lists are filled to their ends.
use Rattle.std.proofs.Common.{rules, ◌≡◌, Err, sym, ap, ◌∙◌, refl, arith, false}
use Rattle.answer.specs.declared.refusal.Refusal.TheVariants.{Lengths}
use Rattle.answer.specs.Table.{answered}
use Rattle.answer.proofs.TableLaws.{refuse-met, refuse-passed}
use Rattle.mesh.specs.IndexedMesh.{IndexedMesh, mesh_in}
use Rattle.mesh.specs.Refusal.{Accepted}
use Rattle.mesh.specs.WellFormed.{WellFormed}
use Rattle.mesh.specs.Answer.{mesh_refusal}
use Rattle.mesh.proofs.AcceptedLaws.{accepted-well-formed}
use Rattle.edit.specs.Mirror.{Outputs, outputs, outputs_off}
use Rattle.edit.proofs.AnswerLaws.{SameLengths, check-accepted, lengths-same, refused, check-refused, lengths-refused, done}
use Rattle.edit.proofs.mirror.Goals.{Start, In_default, In_ok-refuse}
use Rattle.edit.proofs.mirror.Goals as goal

-- ---- at the entry: the mesh that was passed, and the three lists that were lent
module _ (s : Start) where
  abbrev mesh : IndexedMesh
  mesh = mesh_in s.args.mesh

  abbrev lent : Outputs
  lent = outputs s.args.out_positions.now s.args.out_tags.now s.args.out_faces.now

-- ---- the check accepted
module _ (c : In_default) where
  abbrev start : Start
  start = (goal.at.In_default c).Start

  accepted : Accepted (mesh start)
  unfolding mesh_refusal
  accepted = check-accepted (mesh start) (sym (ap answered c.in_default.is) ∙ c.check_alone.ensures)

-- ---- the lengths are those of the mesh's lists
module _ (c : In_ok-refuse) where
  abbrev checked : In_default
  checked = (goal.at.In_ok-refuse c).In_default

  on : outputs_off (mesh (start checked)) (lent (start checked)) ≡ false
  on = sym c.outputs_off.ensures ∙ refuse-passed _ Lengths (sym c.refuse.ensures ∙ c.in_ok-refuse.was)

  same : SameLengths (mesh (start checked)) (lent (start checked))
  same = lengths-same (mesh (start checked)) (lent (start checked)) on

  formed : WellFormed (mesh (start checked))
  formed = accepted-well-formed (accepted checked)

-- ---- the answers, in the order of the code
pub returns-in-Err : goal.returns-in-Err
unfolding mesh_refusal
returns-in-Err c =
    let s : Start = (goal.at.returns-in-Err c).Start in
    refused (mesh s) (lent s) _ refl (check-refused (mesh s) (lent s) (sym (ap answered c.in-Err.is) ∙ c.check_alone.ensures))

pub returns-in_err-refuse : goal.returns-in_err-refuse
returns-in_err-refuse c =
    let k : In_default = (goal.at.returns-in_err-refuse c).In_default in
    let s = start k in
    let gone : c.from_residual.result ≡ Err c.in_err-refuse.field-0.0 = search rules in
    let met = refuse-met _ Lengths (sym c.refuse.ensures ∙ c.in_err-refuse.was) in
    refused (mesh s) (lent s) _ (ap answered (gone ∙ ap Err met.1)) (lengths-refused (mesh s) (lent s) (accepted k) (sym c.outputs_off.ensures ∙ met.0))

pub reflect_positions-requires-clause-by_index : goal.reflect_positions-requires-clause-by_index
reflect_positions-requires-clause-by_index c =
    let k : In_ok-refuse = (goal.at.reflect_positions-requires-clause-by_index c).In_ok-refuse in
    λ i l. (formed k).coordinates i (rw (formed k).sized.positions-are at l)

pub copy_tags-requires : goal.copy_tags-requires
copy_tags-requires c = (same (goal.at.copy_tags-requires c).In_ok-refuse).tags

pub reflect_faces-requires : goal.reflect_faces-requires
reflect_faces-requires c =
    let k : In_ok-refuse = (goal.at.reflect_faces-requires c).In_ok-refuse in
    ((same k).indices, omega (arith, (formed k).sized.indices-are))

pub returns : goal.returns
returns c =
    let k : In_ok-refuse = (goal.at.returns c).In_ok-refuse in
    let s = start (checked k) in
    done (mesh s) (lent s) (accepted (checked k)) (on k) _ refl
    (record { positions = c.reflect_positions.ensures; tags = c.copy_tags.ensures; indices = c.reflect_faces.ensures })
