-- `ring_size` meets its contract: the corners met are different, and the walk is back at its first corner, or ends at the boundary.
use Rattle.std.proofs.Common.{◌∙◌, arith, rules}
use Rattle.tangent.proofs.RingSizeLaws.{met-first, met-more, met_less, met-back, met-none}
use Rattle.tangent.proofs.corners.Accepted.ring_size.Goals as goal

pub loop-on-init : goal.loop-on-init
loop-on-init c = met-first c.args.self.fanned c.args.c c.requires _ c.next_about-on.ensures

pub returns-then-e-c : goal.returns-then-e-c
returns-then-e-c c = met-back c.args.self.fanned c.args.c c.requires _ _ _ c.loop-on.invariant c.in-Some.is c.if-e-c.true

pub overflow_add-met : goal.overflow_add-met
overflow_add-met c = omega (arith, c.loop-on.invariant.short, c.args.self.fanned.twinned.indices.few)

pub loop-on-smaller : goal.loop-on-smaller
loop-on-smaller c = met_less c.args.self.fanned c.args.c c.requires _ _ _ c.loop-on.invariant c.in-Some.is c.if-e-c.false

pub loop-on-preserved : goal.loop-on-preserved
loop-on-preserved c =
    met-more c.args.self.fanned c.args.c c.requires _ _ _ c.loop-on.invariant c.in-Some.is _ c.if-e-c.false c.next_about-on-in-Some.ensures

pub returns : goal.returns
returns c = search rules ∙ met-none c.args.self.fanned c.args.c c.requires _ _ c.loop-on.invariant (search rules)
