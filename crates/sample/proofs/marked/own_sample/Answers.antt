-- `own_sample` meets its contract: a cause that is met is the answer; where none is, the part of the list that is handed on is the patch of the face.
use Rattle.std.proofs.Common.{rules, ◌≡◌, Err, sym, ap, ◌∙◌, arith}
use Rattle.std.proofs.Math.Option.{none}
use Rattle.answer.specs.Table.{first_met, refused as refused_by, answered as answer_of}
use Rattle.sample.specs.Refusal.{sample_rows}
use Rattle.sample.proofs.BlendLaws.{step-at}
use Rattle.sample.proofs.RefusalLaws.{SampleAllowed, allowed, refused, answered}
use Rattle.sample.proofs.marked.own_sample.Goals.{In_ok-check_place}
use Rattle.sample.proofs.marked.own_sample.Goals as goal

-- ---- no cause is met
module _ (c : In_ok-check_place) where
  nothing-met : first_met (sample_rows c.args.patches.now c.args.place.face c.args.n c.args.place.a c.args.place.b) ≡ none
  nothing-met = sym c.check_place.ensures ∙ ap refused_by c.in_ok-check_place.was

  holds : SampleAllowed c.args.patches.now c.args.place.face c.args.n c.args.place.a c.args.place.b
  holds = allowed _ _ _ _ _ nothing-met

-- ---- the answers, in the order of the code
pub returns-in_err-check_place : goal.returns-in_err-check_place
returns-in_err-check_place c =
    let left : c.from_residual.result ≡ Err c.in_err-check_place.field-0.0 = search rules in
    ap answer_of left ∙ refused _ _ _ _ _ (sym c.check_place.ensures ∙ ap refused_by c.in_err-check_place.was)

pub overflow_mul-at : goal.overflow_mul-at
overflow_mul-at c = omega (arith, (holds (goal.at.overflow_mul-at c).In_ok-check_place).listed)

pub overflow_add-end : goal.overflow_add-end
overflow_add-end c = omega (arith, (holds (goal.at.overflow_add-end c).In_ok-check_place).listed)

pub offset_bounds-patches-at : goal.offset_bounds-patches-at
offset_bounds-patches-at c = omega (arith, (holds (goal.at.offset_bounds-patches-at c).In_ok-check_place).listed)

pub slice_bounds-patch-end : goal.slice_bounds-patch-end
slice_bounds-patch-end c = omega (arith, (holds (goal.at.slice_bounds-patch-end c).In_ok-check_place).listed)

pub slice_bounds-patch-count : goal.slice_bounds-patch-count
slice_bounds-patch-count c = omega (arith, (holds (goal.at.slice_bounds-patch-count c).In_ok-check_place).listed)

pub invariant_of-patch : goal.invariant_of-patch
invariant_of-patch c = record { small = (holds (goal.at.invariant_of-patch c).In_ok-check_place).samplable.small }

pub point-requires : goal.point-requires
point-requires c =
    let h = (holds (goal.at.point-requires c).In_ok-check_place).samplable in
    (step-at h.at _ (omega (arith, h.at.within, h.across.within)), step-at h.at _ (omega (arith, h.at.within, h.across.within)))

pub returns : goal.returns
returns c =
    let met : In_ok-check_place = (goal.at.returns c).In_ok-check_place in
    answered _ _ _ _ _ (nothing-met met) (holds met).listed c.point.ensures
