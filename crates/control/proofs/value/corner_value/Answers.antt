-- `corner_value` meets its contract: the mask is given the vertex and both sums.
use Rattle.std.proofs.Common.{◌≡◌, sym, ◌∙◌, subst, ◌≤◌, ◌^◌, arith, nat_abs}
use mir.Facts.{to_z-of_z}
use Rattle.mask.specs.Mask.{Fraction, corner_mask}
use Rattle.mask.specs.FractionOf.{fraction_of}
use Rattle.control.proofs.ControlLaws.{abs-narrow, corner-small}
use Rattle.control.proofs.value.corner_value.Goals as goal

pub in_units-requires : goal.in_units-requires
in_units-requires c =
    let s = c.args in
    let said : fraction_of c.corner_mask.result ≡ corner_mask s.rule s.p s.ring s.sharp =
    c.corner_mask.ensures ∙ simp (to_z-of_z c.ranges.p, to_z-of_z c.ranges.ring, to_z-of_z c.ranges.sharp) in
    let small =
    corner-small s.rule s.p s.ring s.sharp (omega (arith, c.ranges.rule)) (abs-narrow s.p c.ranges.p.sfits)
    (abs-narrow s.ring c.ranges.ring.sfits) (abs-narrow s.sharp c.ranges.sharp.sfits)
    in
    subst (λ (f : Fraction). nat_abs f.num ≤ 2 ^ 54) (sym said) small
