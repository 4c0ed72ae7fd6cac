-- `sample` meets its contract: its answer is that of the sample with its own mark, without the mark.
use Rattle.std.proofs.Common.{rules, ◌≡◌, Err, sym, ap, ◌∙◌}
use Rattle.answer.specs.Table.{answered}
use Rattle.answer.proofs.TableLaws.{over}
use Rattle.sample.specs.declared.model.MarkedPoint.{MarkedPoint}
use Rattle.sample.proofs.RefusalLaws.{own-point}
use Rattle.sample.proofs.sample.Goals as goal

pub returns-in_err-own : goal.returns-in_err-own
returns-in_err-own c =
    let left : c.from_residual.result ≡ Err c.in_err-own.field-0.0 = search rules in
    ap answered left
    ∙ ap (over (λ (p : MarkedPoint). p.point)) (sym (ap answered c.in_err-own.was) ∙ c.own_sample.ensures) ∙ own-point _ _ _ _ _

pub returns : goal.returns
returns c = ap (over (λ (p : MarkedPoint). p.point)) (sym (ap answered c.in_ok-own.was) ∙ c.own_sample.ensures) ∙ own-point _ _ _ _ _
