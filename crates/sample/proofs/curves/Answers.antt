-- `curves` meets its contract: the causes of a sample at a = 0 are tested; where none is met, the part of the list that is handed on is the patch
-- of the face.
use Rattle.std.proofs.Common.{rules, ◌≡◌, Err, sym, ap, ◌∙◌, arith}
use Rattle.std.proofs.Math.Option.{none}
use Rattle.answer.specs.Table.{refused, answered}
use Rattle.sample.specs.Curve.{curve_refusal}
use Rattle.sample.proofs.RefusalLaws.{SampleAllowed, allowed}
use Rattle.sample.proofs.CurveLaws.{curves-refused, curves-given}
use Rattle.sample.proofs.curves.Goals.{In_ok-check_place}
use Rattle.sample.proofs.curves.Goals as goal

-- ---- no cause is met
module _ (c : In_ok-check_place) where
  nothing-met : curve_refusal c.args.patches.now c.args.f c.args.n c.args.b ≡ none
  nothing-met = sym c.check_place.ensures ∙ ap refused c.in_ok-check_place.was

  holds : SampleAllowed c.args.patches.now c.args.f c.args.n 0 c.args.b
  holds = allowed _ _ _ _ _ nothing-met

-- ---- the answers, in the order of the code
pub returns-in_err-check_place : goal.returns-in_err-check_place
returns-in_err-check_place c =
    let left : c.from_residual.result ≡ Err c.in_err-check_place.field-0.0 = search rules in
    ap answered left ∙ curves-refused _ _ _ _ (sym c.check_place.ensures ∙ ap refused c.in_err-check_place.was)

pub overflow_mul-at : goal.overflow_mul-at
overflow_mul-at c = omega (arith, (holds c).listed)

pub overflow_add-end : goal.overflow_add-end
overflow_add-end c = omega (arith, (holds c).listed)

pub offset_bounds-patches-at : goal.offset_bounds-patches-at
offset_bounds-patches-at c = omega (arith, (holds c).listed)

pub slice_bounds-patch-end : goal.slice_bounds-patch-end
slice_bounds-patch-end c = omega (arith, (holds c).listed)

pub slice_bounds-patch-count : goal.slice_bounds-patch-count
slice_bounds-patch-count c = omega (arith, (holds c).listed)

pub invariant_of-patch : goal.invariant_of-patch
invariant_of-patch c = record { small = (holds (goal.at.invariant_of-patch c).In_ok-check_place).samplable.small }

pub curves-requires : goal.curves-requires
curves-requires c = (holds (goal.at.curves-requires c).In_ok-check_place).samplable.across

pub returns : goal.returns
returns c =
    let met : In_ok-check_place = (goal.at.returns c).In_ok-check_place in
    curves-given _ _ _ _ (nothing-met met) (holds met).listed c.curves.ensures
