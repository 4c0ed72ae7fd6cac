-- `marked_sample` meets its contract: 12 is tested for the marks; where they are listed, the part of them that is handed on is that of the face, and the
-- answer is that of the sample with its own mark, with the marks of the face asked too.
use Rattle.std.proofs.Common.{rules, ◌≡◌, Err, sym, ap, ◌∙◌, Bool, ◌/◌, ◌<◌, length, arith}
use lib.Dec.{leb}
use borrow.Author.Tests.{leb-true, leb-false}
use Rattle.answer.specs.declared.refusal.Refusal.TheVariants.{NoFace}
use Rattle.answer.specs.Table.{result, answered}
use Rattle.answer.proofs.TableLaws.{over, refuse-met, refuse-passed}
use Rattle.sample.specs.Marked.{patch_marked}
use Rattle.sample.proofs.MarkedLaws.{marks-off, marks-all, with_marks, marked_refused, own-marked}
use Rattle.sample.proofs.marked_sample.Goals.{In_ok-refuse}
use Rattle.sample.proofs.marked_sample.Goals as goal

-- ---- the marks of the face are listed
listed : (c : In_ok-refuse) → c.args.place.face < length c.args.marks.now / 16
listed c = leb-false (length c.args.marks.now / 16) c.args.place.face (refuse-passed _ NoFace (sym c.refuse.ensures ∙ c.in_ok-refuse.was))

-- ---- the answers, in the order of the code
pub returns-in_err-refuse : goal.returns-in_err-refuse
returns-in_err-refuse c =
    let left : c.from_residual.result ≡ Err c.in_err-refuse.field-0.0 = search rules in
    let met = refuse-met (leb (length c.args.marks.now / 16) c.args.place.face) NoFace (sym c.refuse.ensures ∙ c.in_err-refuse.was) in
    ap answered left ∙ ap (λ e. answered (Err e)) met.1
    ∙ marked_refused _ _ _ _ _ _
    (marks-off c.args.patches.now c.args.marks.now c.args.place.face _ _ _ (leb-true (length c.args.marks.now / 16) c.args.place.face met.0))

pub returns-in_err-own : goal.returns-in_err-own
returns-in_err-own c =
    let left : c.from_residual-in_err-own.result ≡ Err c.in_err-own.field-0.0 = search rules in
    ap answered left
    ∙ ap (over (with_marks (patch_marked c.args.marks.now c.args.place.face))) (sym (ap answered c.in_err-own.was) ∙ c.own_sample.ensures)
    ∙ own-marked _ _ _ _ _ _ (listed (goal.at.returns-in_err-own c).In_ok-refuse)

pub overflow_mul-at : goal.overflow_mul-at
overflow_mul-at c = omega (arith, listed (goal.at.overflow_mul-at c).In_ok-refuse)

pub overflow_add-end : goal.overflow_add-end
overflow_add-end c = omega (arith, listed (goal.at.overflow_add-end c).In_ok-refuse)

pub slice_bounds-all_exact-end : goal.slice_bounds-all_exact-end
slice_bounds-all_exact-end c = omega (arith, listed (goal.at.slice_bounds-all_exact-end c).In_ok-refuse)

pub slice_bounds-all_exact-count : goal.slice_bounds-all_exact-count
slice_bounds-all_exact-count c = omega (arith, listed (goal.at.slice_bounds-all_exact-count c).In_ok-refuse)

pub returns : goal.returns
returns c =
    let h = listed (goal.at.returns c).In_ok-refuse in
    ap (λ (m : Bool). result (with_marks m c.in_ok-own.own)) (c.all_exact.ensures ∙ marks-all c.args.marks.now c.args.place.face h)
    ∙ ap (over (with_marks (patch_marked c.args.marks.now c.args.place.face))) (sym (ap answered c.in_ok-own.was) ∙ c.own_sample.ensures)
    ∙ own-marked c.args.patches.now c.args.marks.now c.args.place.face c.args.n c.args.place.a c.args.place.b h
