-- `check_after` meets its contract: the early group says which of the rows up to 7 is met first; where none is, the twins are written, and the
-- late group says which of the rows from 8 on is. So the answer is the first row met, or the counts, and the list of twins is as it was lent
-- (early row), cleared (late row) or filled (no row).
use mathlib.Core.Path.{ap, subst, sym, ◌∙◌, ◌≡◌}
use mathlib.Core.Bool.{Bool}
use mathlib.Core.List.{List, [], ◌∷◌}
use mathlib.Core.Option.{none}
use Prim.Native.Nat.{ℕ, ◌≤◌}
use native.Mathlib.Nat.{lt_of_lt_of_le}
use native.Mathlib.Omega.{arith}
use lib.ListN.{length, get_or, get_or-replicate}
use borrow.Author.Tests.{ltb-false}
use borrow.Author.Rules.{rules}
use Rattle.std.specs.Prelude.{Result, Ok, Err}
use Rattle.answer.specs.Table.{Row, first_met, answered, refused, met_or}
use Rattle.answer.specs.declared.refusal.Refusal.{Refusal}
use Rattle.answer.specs.declared.refusal.Refusal.TheVariants.{ListShort}
use Rattle.finite.proofs.FilledLaws.{filled_at, filled-again}
use Rattle.answer.proofs.TableLaws.{none-met, append-none}
use Rattle.limits.specs.declared.model.Mesh.{Mesh}
use Rattle.limits.specs.Limits.{max_vertices}
use Rattle.mesh.specs.IndexedMesh.{IndexedMesh, mesh_in, corners, at}
use Rattle.mesh.specs.Refusal.{early_rows}
use Rattle.mesh.specs.Answer.{twins_short, lent_rows, given}
use Rattle.mesh.proofs.PhaseLaws.{Passed, early-passed, answer-early, twins-early, answer-late, twins-late, answer-accepted, twins-accepted}
use Rattle.mesh.proofs.PhaseLaws.{given-or}
use Rattle.mesh.proofs.CornerLaws.{next-below}
use Rattle.mesh.proofs.SizeLaws.{indices-corners}
use Rattle.mesh.specs.Tables.{corner_in, Chained, Findable, Twinned, Headed, Connected}
use Rattle.mesh.proofs.check_after.Goals.{After-early_refusal, After-fill_twins, In_ok-early_refusal}
use Rattle.mesh.proofs.check_after.Goals as goal

-- ---- the call's own rows: what the caller met, then the lent list
abbrev own : Result Unit Refusal → IndexedMesh → List ℕ → List Row
own met M lent = given met ∷ lent_rows M lent

-- ---- the early group has answered
early : (c : After-early_refusal)
    → (let M = mesh_in c.args.mesh in first_met (early_rows M (own c.args.own M c.args.twins.now)) ≡ refused c.early_refusal.result)
early c =
    let M = mesh_in c.args.mesh in
    let lent = c.args.twins.now in
    c.early_refusal.ensures.first (own c.args.own M lent)
    (given-or c.args.own (twins_short M lent) ListShort
    ∙ sym (ap refused (c.first_met-first.ensures ∙ ap (λ (t : Bool). met_or c.args.own t ListShort) c.twins_short.ensures)))

-- ---- past the early group: no early row is met, and what that gives
module _ (c : In_ok-early_refusal) where
  abbrev mesh : IndexedMesh
  mesh = mesh_in c.args.mesh

  abbrev rows : List Row
  rows = own c.args.own mesh c.args.twins.now

  none-early : first_met (early_rows mesh rows) ≡ none
  none-early = early (goal.at.In_ok-early_refusal c).After-early_refusal ∙ ap refused c.in_ok-early_refusal.was

  passed : Passed mesh
  passed = (early-passed mesh rows none-early).1

  chained : Chained (at mesh) (corners mesh) c.early_refusal.new.tables.head c.early_refusal.new.tables.link
  chained = c.early_refusal.ensures.chained (ap refused c.in_ok-early_refusal.was)

  room : corners mesh ≤ length c.args.twins.now
  room =
      let lent = (append-none (given c.args.own ∷ []) (lent_rows mesh c.args.twins.now) (early-passed mesh rows none-early).0).1 in
      ltb-false (length c.args.twins.now) (corners mesh) (none-met (twins_short mesh c.args.twins.now) 2 none lent).0

-- ---- the twins are written: the list is as long as it was, and holds the twins
module _ (c : After-fill_twins) where
  abbrev clean : In_ok-early_refusal
  clean = (goal.at.After-fill_twins c).In_ok-early_refusal

  kept : corners (mesh clean) ≤ length c.fill_twins.new.twins
  kept = rw c.fill_twins.auto.twins (room clean)

  twinned : Twinned (mesh clean).indices c.fill_twins.new.twins (corners (mesh clean))
  twinned =
      let p = passed clean in
      record {
        indices = p.indices;
        simple = p.simple;
        twins-listed = kept;
        twins-are = λ d l. ap (λ (t : List ℕ). get_or t d 0) c.fill_twins.ensures ∙ filled_at _ _ _ _ 0 l;
      }

-- ---- the answers, in the order of the code
pub early_refusal-requires : goal.early_refusal-requires
early_refusal-requires c = λ p l. ap corner_in (get_or-replicate max_vertices p 0 0 l)

-- an early row
pub returns-in_err-early_refusal : goal.returns-in_err-early_refusal
returns-in_err-early_refusal c =
    let M = mesh_in c.args.mesh in
    let rows = own c.args.own M c.args.twins.now in
    let said = early (goal.at.returns-in_err-early_refusal c).After-early_refusal ∙ ap refused c.in_err-early_refusal.was in
    let out : c.from_residual.result ≡ Err c.in_err-early_refusal.field-0.0 = search rules in
    record { answer-is = ap answered out ∙ answer-early M rows said; twins-are = twins-early M rows said c.args.twins.now }

pub overflow_mul-n : goal.overflow_mul-n
overflow_mul-n c = let z = (passed c).sized in omega arith

pub invariant_of-chains : goal.invariant_of-chains
invariant_of-chains c =
    let e = (goal.at.invariant_of-chains c).In_ok-early_refusal in
    let p = passed e in
    let linked : Findable (mesh e).indices e.early_refusal.new.tables.head e.early_refusal.new.tables.link (corners (mesh e)) = record {
      next-listed = λ d l. lt_of_lt_of_le (next-below (indices-corners p.indices) d l) p.indices.listed;
      few = omega (arith, p.sized.faces-high);
      chained = chained e;
    } in
    record { linked = linked }

pub fill_twins-requires : goal.fill_twins-requires
fill_twins-requires c =
    let e = (goal.at.fill_twins-requires c).In_ok-early_refusal in
    let p = passed e in
    (p.indices, p.simple, room e)

pub late_refusal-requires : goal.late_refusal-requires
late_refusal-requires c =
    let t = (goal.at.late_refusal-requires c).After-fill_twins in
    let e = clean t in
    let heads = e.early_refusal.new.tables.head in
    let headed : Headed (mesh e).indices heads (corners (mesh e)) = record { heads-listed = omega arith; heads-are = (chained e).heads } in
    let connected : Connected (mesh e).indices c.fill_twins.new.twins heads (corners (mesh e)) = record { twinned = twinned t; headed = headed } in
    let sized = (passed e).sized in
    (sized, subst (Connected (mesh e).indices c.fill_twins.new.twins heads) (sym sized.indices-are) connected)

pub accepted-requires : goal.accepted-requires
accepted-requires c =
    let t = (goal.at.accepted-requires c).After-fill_twins in
    let p = passed (clean t) in
    record { twinned = twinned t; named = p.named; ends = p.ends }

-- no row
pub returns-in-Ok : goal.returns-in-Ok
returns-in-Ok c =
    let t = (goal.at.returns-in-Ok c).After-fill_twins in
    let e = clean t in
    let none-late = c.late_refusal.ensures ∙ ap refused c.in-Ok.is in
    record {
      answer-is = ap (λ (m : Mesh). answered {A = Mesh} (Ok m)) c.accepted.ensures ∙ answer-accepted (mesh e) (rows e) (none-early e) none-late;
      twins-are = c.fill_twins.ensures ∙ twins-accepted (mesh e) (rows e) (none-early e) none-late c.args.twins.now;
    }

pub clear_twins-requires : goal.clear_twins-requires
clear_twins-requires c = omega (arith, kept (goal.at.clear_twins-requires c).After-fill_twins)

-- a late row
pub returns-in-Err : goal.returns-in-Err
returns-in-Err c =
    let t = (goal.at.returns-in-Err c).After-fill_twins in
    let e = clean t in
    let said = c.late_refusal.ensures ∙ ap refused c.in-Err.is in
    record {
      answer-is = answer-late (mesh e) (rows e) (none-early e) said;
      twins-are = c.clear_twins.ensures ∙ filled-again _ _ _ _ _ c.fill_twins.ensures ∙ twins-late (mesh e) (rows e) (none-early e) said c.args.twins.now;
    }
