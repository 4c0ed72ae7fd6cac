-- `sharp_value` meets its contract: the mask is given both ends of the edge.
use Rattle.std.proofs.Common.{sym, ap₂, ◌∙◌, subst, ◌≤◌, ◌^◌, nat_abs}
use mir.Facts.{to_z-of_z}
use Rattle.mask.specs.Mask.{Fraction, boundary_edge_mask}
use Rattle.control.proofs.ControlLaws.{abs-narrow, sharp-small}
use Rattle.control.proofs.value.sharp_value.Goals as goal

pub in_units-requires : goal.in_units-requires
in_units-requires c =
    let p = c.args.p in
    let q = c.args.q in
    let small = sharp-small p q (abs-narrow p c.ranges.p.sfits) (abs-narrow q c.ranges.q.sfits) in
    subst (λ (f : Fraction). nat_abs f.num ≤ 2 ^ 54)
    (sym (c.boundary_edge_mask.ensures ∙ ap₂ boundary_edge_mask (to_z-of_z c.ranges.p) (to_z-of_z c.ranges.q))) small
