-- `integer::round_magnitude` meets its contract: its one comparison tells the cases of `half_even`.
use Rattle.std.proofs.Common.{arith}
use Rattle.integer.proofs.Rounding.{nearest_ℕ-0, nearest_ℕ-up, nearest_ℕ-down}
use Rattle.integer.proofs.round_magnitude.Goals as goal

pub returns-then-den-eq0 : goal.returns-then-den-eq0
returns-then-den-eq0 c = rw c.if-den-eq0.true (nearest_ℕ-0 c.args.size)

pub returns-then-d-size : goal.returns-then-d-size
returns-then-d-size c =
    rw c.from-d.ensures (nearest_ℕ-up c.args.size c.args.den (omega arith) (rw c.from-d.ensures at c.if-d-size.true))

pub returns-else-d-size : goal.returns-else-d-size
returns-else-d-size c =
    rw c.from-d.ensures (nearest_ℕ-down c.args.size c.args.den (omega arith) (rw c.from-d.ensures at c.if-d-size.false))
