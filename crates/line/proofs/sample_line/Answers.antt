-- `sample_line` meets its contract: the causes of a sample at a = 0 come with the curves, then 17 is tested; the points along them are the line.
use Rattle.std.proofs.Common.{rules, ◌≡◌, Err, sym, ap, ◌∙◌, subst, ◌≤◌, length, arith}
use borrow.Author.Tests.{ltb-true, ltb-false}
use Rattle.answer.specs.declared.refusal.Refusal.TheVariants.{LineShort}
use Rattle.answer.specs.Table.{result, answered}
use Rattle.sample.specs.Curve.{curves_answer}
use Rattle.answer.proofs.TableLaws.{refuse-met, refuse-passed}
use Rattle.sample.specs.Refusal.{max_steps}
use Rattle.sample.proofs.RefusalLaws.{allowed}
use Rattle.line.specs.Line.{line_length, LineSampled}
use Rattle.line.proofs.LineAnswerLaws.{line-stopped, line-short, line_clear, line-done, line-not-done, met-none, curves-met, drawable, line-along}
use Rattle.line.proofs.sample_line.Goals.{In_ok-curves, In_ok-refuse}
use Rattle.line.proofs.sample_line.Goals as goal

-- ---- no cause of a sample is met: the curves are there
gave : (c : In_ok-curves) → result c.in_ok-curves.curves ≡ curves_answer c.args.patches.now c.args.f c.args.n c.args.b
gave c = sym (ap answered c.in_ok-curves.was) ∙ c.curves.ensures

few : (c : In_ok-curves) → c.args.n ≤ max_steps
few c = (allowed _ _ _ _ _ (met-none _ _ _ _ (gave c))).samplable.across.most

-- ---- the lent list is long enough
long : (c : In_ok-refuse) → line_length c.args.n ≤ length c.args.line.now
long c = ltb-false _ _ (refuse-passed _ LineShort (sym c.refuse.ensures ∙ c.in_ok-refuse.was))

-- ---- the answers, in the order of the code
pub returns-in_err-curves : goal.returns-in_err-curves
returns-in_err-curves c =
    let left : c.from_residual.result ≡ Err c.in_err-curves.field-0.0 = search rules in
    let met = curves-met _ _ _ _ (sym (ap answered c.in_err-curves.was) ∙ c.curves.ensures) in
    subst (λ r. LineSampled c.args.patches.now c.args.f c.args.n c.args.b c.args.line.now r c.args.line.now) (sym left)
    (line-not-done _ _ _ _ _ (line-stopped _ _ _ _ _ met))

pub overflow_add-n : goal.overflow_add-n
overflow_add-n c = omega (arith, few (goal.at.overflow_add-n c).In_ok-curves)

pub overflow_mul-n : goal.overflow_mul-n
overflow_mul-n c = omega (arith, few (goal.at.overflow_mul-n c).In_ok-curves)

pub returns-in_err-refuse : goal.returns-in_err-refuse
returns-in_err-refuse c =
    let left : c.from_residual-in_err-refuse.result ≡ Err c.in_err-refuse.field-0.0 = search rules in
    let met = refuse-met _ LineShort (sym c.refuse.ensures ∙ c.in_err-refuse.was) in
    subst (λ r. LineSampled c.args.patches.now c.args.f c.args.n c.args.b c.args.line.now r c.args.line.now) (sym (left ∙ ap Err met.1))
    (line-not-done _ _ _ _ _ (line-short _ _ _ _ _ (met-none _ _ _ _ (gave (goal.at.returns-in_err-refuse c).In_ok-curves)) (ltb-true _ _ met.0)))

pub write_points-requires : goal.write_points-requires
write_points-requires c =
    let past : In_ok-refuse = (goal.at.write_points-requires c).In_ok-refuse in
    drawable _ _ _ _ (gave (goal.at.In_ok-refuse past).In_ok-curves) (long past)

pub returns : goal.returns
returns c =
    let past : In_ok-refuse = (goal.at.returns c).In_ok-refuse in
    let curves = gave (goal.at.In_ok-refuse past).In_ok-curves in
    line-done _ _ _ _ _ (line_clear _ _ _ _ _ (met-none _ _ _ _ curves) (long past)) (c.write_points.ensures ∙ line-along _ _ _ _ _ curves)
