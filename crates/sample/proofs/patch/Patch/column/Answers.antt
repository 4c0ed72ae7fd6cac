-- `column` meets its contract: the four calls give the four values.
use mathlib.Core.Path.{sym, ap, ◌∙◌}
use native.Mathlib.Nat.{add-zero}
use mir.Syntax.{w64}
use Rattle.integer.proofs.Laws.{read_back}
use Rattle.sample.specs.Blend.{control_of}
use Rattle.sample.proofs.BlendLaws.{list-of-four}
use Rattle.sample.proofs.patch.Patch.column.Goals as goal

pub returns : goal.returns
returns c =
    list-of-four _
    (read_back w64 c.control.type_inv (c.control.ensures ∙ ap (control_of c.args.self.numbers.now c.args.k) (sym (add-zero c.args.i))))
    (read_back w64 c.control-2.type_inv c.control-2.ensures)
    (read_back w64 c.control-3.type_inv c.control-3.ensures)
    (read_back w64 c.control-4.type_inv c.control-4.ensures)
