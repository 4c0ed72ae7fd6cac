-- `count_edges` meets its contract: the count is that of the half-edges passed.
use mathlib.Core.Path.{ap, ◌∙◌}
use Prim.Native.Nat.{◌≤◌}
use native.Mathlib.Omega.{arith}
use lib.Dec.{ltb}
use Rattle.finite.proofs.Counting.{count-start, count-bit, count-all, count-le, indicator-le}
use Rattle.finite.proofs.Flags.{byte-indicator}
use Rattle.mesh.proofs.count.count_edges.Invariants.{leads}
use Rattle.mesh.proofs.count.count_edges.Goals as goal

pub loop-c-init : goal.loop-c-init
loop-c-init c = count-start (leads c.args.twins.now)

pub overflow_add-count : goal.overflow_add-count
overflow_add-count c =
    let leads-now = leads c.args.twins.now in
    let one : c.from-count.result ≤ 1 = rw (c.from-count.ensures, byte-indicator) (indicator-le (ltb c.loop-c.c c.from.result)) in
    omega (arith, one, count-le leads-now c.loop-c.c, c.loop-c.invariant)

pub loop-c-preserved : goal.loop-c-preserved
loop-c-preserved c =
    count-bit (leads c.args.twins.now) c.loop-c.c c.loop-c.count c.from-count.result _ c.loop-c.invariant (ap (ltb c.loop-c.c) c.from.ensures)
    (c.from-count.ensures ∙ byte-indicator _)

pub returns : goal.returns
returns c = count-all _ _ _ _ (omega arith) (omega arith) c.loop-c.invariant
