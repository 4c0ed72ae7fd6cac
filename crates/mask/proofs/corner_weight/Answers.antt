-- `corner_weight` meets its contract: it is the definition, one test after the other.
use Rattle.std.proofs.Common.{arith}
use borrow.Author.Tests.{eq-eqb, ne_eqb}
use Rattle.mask.specs.Mask.{corner_weight}
use Rattle.mask.proofs.corner_weight.Goals as goal

pub returns-then-inside : goal.returns-then-inside
unfolding corner_weight
returns-then-inside c = rw c.if-inside.true c.from-n.ensures

pub returns-then-n-eq1 : goal.returns-then-n-eq1
unfolding corner_weight
returns-then-n-eq1 c = rw (c.if-inside.false, eq-eqb c.args.valence 1 (omega (arith, c.from-n.ensures, c.if-n-eq1.true))) (omega arith)

pub returns : goal.returns
unfolding corner_weight
returns c =
    rw (c.if-inside.false, ne_eqb c.args.valence 1 (λ e. c.if-n-eq1.false (omega (arith, e, c.from-n.ensures)))) (omega (arith, c.from-n.ensures))
