-- `check_place` meets its contract: the three rows are the causes 12 to 14, in that order, and the part of the list that is tested is the patch of the face.
use Rattle.std.proofs.Common.{rules, ◌≡◌, Err, sym, ap, ◌∙◌, List, [], ◌∷◌, ◌/◌, ◌<◌, length, false}
use Rattle.answer.specs.declared.refusal.Refusal.TheVariants.{NoFace, Control, Steps}
use Rattle.answer.specs.Table.{Row, row, refused}
use Rattle.answer.proofs.TableLaws.{From, all-rows, row-passed, refuse-passed, told-refused, told-through, told-last}
use Rattle.sample.specs.Refusal.{face_off, control_off, place_off, sample_rows}
use Rattle.sample.proofs.PatchLaws.{patch-off}
use Rattle.sample.proofs.RefusalLaws.{face-tested, face-listed}
use Rattle.sample.proofs.refusal.check_place.Goals.{Start, In_ok-refuse, In_ok-refuse-2}
use Rattle.sample.proofs.refusal.check_place.Goals as goal

-- ---- at the entry: the rows of the table
module _ (s : Start) where
  abbrev rows : List Row
  rows = sample_rows s.args.patches.now s.args.place.face s.args.n s.args.place.a s.args.place.b

  abbrev from_14 : List Row
  from_14 = row (place_off s.args.n s.args.place.a s.args.place.b) 14 ∷ []

  abbrev from_13 : List Row
  from_13 = row (control_off s.args.patches.now s.args.place.face) 13 ∷ from_14

  from-12 : From rows (row (face_off s.args.patches.now s.args.place.face) 12 ∷ from_13)
  from-12 = all-rows rows

-- ---- 12 is passed: the face is listed
module _ (c : In_ok-refuse) where
  abbrev start : Start
  start = (goal.at.In_ok-refuse c).Start

  passed : face_off c.args.patches.now c.args.place.face ≡ false
  passed = sym (face-tested c.args.patches.now c.args.place.face) ∙ refuse-passed _ NoFace (sym c.refuse.ensures ∙ c.in_ok-refuse.was)

  listed : c.args.place.face < length c.args.patches.now / 48
  listed = face-listed c.args.patches.now c.args.place.face passed

  past-12 : From (rows start) (from_13 start)
  past-12 = row-passed (from-12 start) passed

-- ---- 13 is passed
module _ (c : In_ok-refuse-2) where
  abbrev before : In_ok-refuse
  before = (goal.at.In_ok-refuse-2 c).In_ok-refuse

  tested : c.any_control_off.result ≡ control_off c.args.patches.now c.args.place.face
  tested = c.any_control_off.ensures ∙ patch-off _ _ (listed before)

  past-13 : From (rows (start before)) (from_14 (start before))
  past-13 = told-through Control (past-12 before) tested (sym c.refuse-2.ensures ∙ c.in_ok-refuse-2.was)

-- ---- the answers, in the order of the code
pub returns-in_err-refuse : goal.returns-in_err-refuse
returns-in_err-refuse c =
    let left : c.from_residual.result ≡ Err c.in_err-refuse.field-0.0 = search rules in
    ap refused left
    ∙ sym (told-refused NoFace (from-12 (goal.at.returns-in_err-refuse c).Start)
    (face-tested c.args.patches.now c.args.place.face) (sym c.refuse.ensures ∙ c.in_err-refuse.was))

pub returns-in_err-refuse-2 : goal.returns-in_err-refuse-2
returns-in_err-refuse-2 c =
    let before : In_ok-refuse = (goal.at.returns-in_err-refuse-2 c).In_ok-refuse in
    let left : c.from_residual-in_err-refuse-2.result ≡ Err c.in_err-refuse-2.field-0.0 = search rules in
    ap refused left
    ∙ sym (told-refused Control (past-12 before) (c.any_control_off.ensures ∙ patch-off _ _ (listed before)) (sym c.refuse-2.ensures ∙ c.in_err-refuse-2.was))

pub returns : goal.returns
returns c =
    let before : In_ok-refuse-2 = (goal.at.returns c).In_ok-refuse-2 in
    ap refused c.refuse-3.ensures ∙ sym (told-last Steps (past-13 before) c.place_off.ensures)
