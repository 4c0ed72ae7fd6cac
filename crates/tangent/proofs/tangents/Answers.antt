-- `tangents` meets its contract: what the check refuses is refused, then what the call finds of its own; where nothing is met, the face has no
-- corner on the boundary, and its numbers are written from the twins that the check left.
use Rattle.std.proofs.Common.{◌≡◌, Err, Result, sym, ap, ◌∙◌, subst, List, ℕ, ℤ, rules}
use Rattle.answer.specs.Table.{result, answered}
use Rattle.answer.specs.declared.refusal.Refusal.{Refusal}
use Rattle.mesh.specs.IndexedMesh.{IndexedMesh, mesh_in}
use Rattle.mesh.specs.Answer.{check_answer}
use Rattle.tangent.specs.Answer.{TangentsGiven}
use Rattle.tangent.specs.Lists.{Fanned}
use Rattle.tangent.proofs.FillLaws.{drawn}
use Rattle.tangent.proofs.AnswerLaws.{own_twins, stopped, check-refused, formed, fanned, own-refused, face-below, face-closed, done}
use Rattle.tangent.proofs.tangents.Goals.{In_ok-check, In_ok-valences, Start}
use Rattle.tangent.proofs.tangents.Goals as goal

-- ---- at the entry: the mesh that was passed, and the list that was lent
module _ (s : Start) where
  abbrev mesh : IndexedMesh
  mesh = mesh_in s.args.mesh

  abbrev lent : List ℤ
  lent = s.args.tangents.now

  abbrev face : ℕ
  face = s.args.g

  abbrev Given : Result Unit Refusal → Type 0
  Given r = TangentsGiven mesh face lent r lent

-- ---- the check accepted
module _ (c : In_ok-check) where
  abbrev entry : Start
  entry = (goal.at.In_ok-check c).Start

  accepted : result c.in_ok-check.field-0 ≡ check_answer (mesh entry) own_twins
  accepted = sym (ap answered c.in_ok-check.was) ∙ c.check.ensures.answer-is

  twins-left : Fanned (mesh entry).indices c.check.new.twins
  twins-left = fanned (mesh entry) (face entry) (lent entry) accepted _ c.check.ensures.twins-are

-- ---- and the face was found
abbrev checked : In_ok-valences → In_ok-check
checked c = (goal.at.In_ok-valences c).In_ok-check

-- ---- the answers, in the order of the code
pub returns-in_err-check : goal.returns-in_err-check
returns-in_err-check c =
    let s = (goal.at.returns-in_err-check c).Start in
    let gone : c.from_residual.result ≡ Err c.in_err-check.field-0.0 = search rules in
    subst (Given s) (sym gone)
    (stopped (mesh s) (face s) (lent s) _
    (check-refused (mesh s) (face s) (lent s) (sym (ap answered c.in_err-check.was) ∙ c.check.ensures.answer-is)))

pub invariant_of-accepted : goal.invariant_of-accepted
invariant_of-accepted c =
    let k = (goal.at.invariant_of-accepted c).In_ok-check in
    let s = entry k in
    record { fanned = twins-left k; listed = (formed (mesh s) (face s) (lent s) (accepted k)).sized.indices-are }

pub returns-in_err-valences : goal.returns-in_err-valences
returns-in_err-valences c =
    let k = (goal.at.returns-in_err-valences c).In_ok-check in
    let s = entry k in
    let gone : c.from_residual-in_err-valences.result ≡ Err c.in_err-valences.field-0.0 = search rules in
    subst (Given s) (sym gone)
    (stopped (mesh s) (face s) (lent s) _ (own-refused (mesh s) (face s) (lent s) (accepted k) _ c.asked_face.ensures.own _ c.in_err-valences.was))

pub face_tangents-requires : goal.face_tangents-requires
face_tangents-requires c =
    let k = checked (goal.at.face_tangents-requires c).In_ok-valences in
    let s = entry k in
    let w = formed (mesh s) (face s) (lent s) (accepted k) in
    let own = c.asked_face.ensures.own in
    let was = c.in_ok-valences.was in
    drawn w (face s) (face-below (mesh s) (face s) (lent s) (accepted k) _ own _ was)
    (face-closed (mesh s) (face s) (lent s) (accepted k) _ own _ was) _ c.in_ok-valences.ensures.counts

pub returns : goal.returns
returns c =
    let k = checked (goal.at.returns c).In_ok-valences in
    let s = entry k in
    done (mesh s) (face s) (lent s) (accepted k) _ c.asked_face.ensures.own _ c.in_ok-valences.was (twins-left k)
    (c.copy_from_slice.ensures.after ∙ c.face_tangents.ensures)
