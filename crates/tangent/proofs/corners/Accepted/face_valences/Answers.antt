-- `face_valences` meets its contract: each corner is asked, and the first at the boundary ends the asking.
use Rattle.std.proofs.Common.{◌∙◌, sym, arith}
use Rattle.tangent.proofs.RingSizeLaws.{asked-first, asked-none, asked-all}
use Rattle.tangent.proofs.corners.Accepted.face_valences.Goals as goal

pub returns-in_err-ring_size : goal.returns-in_err-ring_size
returns-in_err-ring_size c =
    c.from_residual.ensures ∙ asked-first _ _ (sym c.in_err-ring_size.was ∙ c.ring_size.ensures)

pub returns-in_err-ring_size-2 : goal.returns-in_err-ring_size-2
returns-in_err-ring_size-2 c =
    c.from_residual-in_err-ring_size-2.ensures ∙ asked-none _ _ 1 (omega arith) (sym c.in_err-ring_size-2.was ∙ c.ring_size-2.ensures)

pub returns-in_err-ring_size-3 : goal.returns-in_err-ring_size-3
returns-in_err-ring_size-3 c =
    c.from_residual-in_err-ring_size-3.ensures ∙ asked-none _ _ 2 (omega arith) (sym c.in_err-ring_size-3.was ∙ c.ring_size-3.ensures)

pub returns-in_err-ring_size-4 : goal.returns-in_err-ring_size-4
returns-in_err-ring_size-4 c =
    c.from_residual-in_err-ring_size-4.ensures ∙ asked-none _ _ 3 (omega arith) (sym c.in_err-ring_size-4.was ∙ c.ring_size-4.ensures)

pub returns : goal.returns
returns c =
    asked-all _ _ _ _ _ _
    (sym c.in_ok-ring_size.was ∙ c.ring_size.ensures)
    (sym c.in_ok-ring_size-2.was ∙ c.ring_size-2.ensures)
    (sym c.in_ok-ring_size-3.was ∙ c.ring_size-3.ensures)
    (sym c.in_ok-ring_size-4.was ∙ c.ring_size-4.ensures)
