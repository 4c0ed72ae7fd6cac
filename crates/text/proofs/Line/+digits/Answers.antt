-- `digits` meets its contract: a number from 100 on has its last two digits behind the digits of a hundredth of it, which is smaller.
use Rattle.std.proofs.Common.{sym, subst, ℕ, ◌/◌, ◌<◌, List, ap, length, arith}
use native.Mathlib.Nat.{div-lt_self}
use lib.Dec.{lit<}
use Rattle.text.specs.Put.{Put, Room}
use Rattle.text.proofs.TextLaws.{decimal-one, decimal-two, decimal-hundred, decimal-longer, decimal-four, decimal-four-longer, put-length, put_then}
use Rattle.text.proofs.Line.+digits.Goals as goal

pub byte-requires : goal.byte-requires
byte-requires t c = subst (λ (x : List ℕ). Room x c.args.self.now) (decimal-one c.args.n c.if-n-lt10.true) c.requires

pub returns-then-n-lt10 : goal.returns-then-n-lt10
returns-then-n-lt10 t c = subst (λ (x : List ℕ). Put x c.args.self.now c.byte.new.self) (sym (decimal-one c.args.n c.if-n-lt10.true)) c.byte.ensures

pub pair-requires : goal.pair-requires
pair-requires t c =
    omega (arith, ap length (decimal-two c.args.n c.if-n-lt100.true c.if-n-lt10.false), c.requires)

pub returns-then-n-lt100 : goal.returns-then-n-lt100
returns-then-n-lt100 t c =
    subst (λ (x : List ℕ). Put x c.args.self.now c.pair.new.self)
    (sym (decimal-two c.args.n c.if-n-lt100.true c.if-n-lt10.false)) c.pair.ensures

pub digits-requires : goal.digits-requires
digits-requires t c = (
  subst (λ (m : ℕ). c.args.n / 100 < m) c.decreases (div-lt_self (omega arith) (lit< tt)),
  omega (arith, decimal-longer c.args.n c.ranges.n.fits c.if-n-lt100.false, c.requires),
)

pub pair-requires-then-n-lt10000 : goal.pair-requires-then-n-lt10000
pair-requires-then-n-lt10000 t c =
    omega (arith, decimal-longer c.args.n c.ranges.n.fits c.if-n-lt100.false, c.requires, c.digits.ensures.place, put-length c.digits.ensures)

pub returns-then-n-lt10000 : goal.returns-then-n-lt10000
returns-then-n-lt10000 t c =
    subst (λ (x : List ℕ). Put x c.args.self.now c.pair-then-n-lt10000.new.self) (sym (decimal-hundred c.args.n c.ranges.n.fits c.if-n-lt100.false))
    (put_then c.digits.ensures c.pair-then-n-lt10000.ensures)

pub digits-requires-else-n-lt10000 : goal.digits-requires-else-n-lt10000
digits-requires-else-n-lt10000 t c = (
  subst (λ (m : ℕ). c.args.n / 10000 < m) c.decreases (div-lt_self (omega arith) (lit< tt)),
  omega (arith, decimal-four-longer c.args.n c.ranges.n.fits c.if-n-lt10000.false, c.requires),
)

pub pair-requires-else-n-lt10000 : goal.pair-requires-else-n-lt10000
pair-requires-else-n-lt10000 t c =
    let d = c.digits-else-n-lt10000.ensures in
    omega (arith, decimal-four-longer c.args.n c.ranges.n.fits c.if-n-lt10000.false, c.requires, d.place, put-length d)

pub pair-requires-else-n-lt10000-2 : goal.pair-requires-else-n-lt10000-2
pair-requires-else-n-lt10000-2 t c =
    let d = c.digits-else-n-lt10000.ensures in
    let p = c.pair-else-n-lt10000.ensures in
    omega (arith, decimal-four-longer c.args.n c.ranges.n.fits c.if-n-lt10000.false, c.requires, d.place, put-length d, p.place, put-length p)

pub returns-else-n-lt10000 : goal.returns-else-n-lt10000
returns-else-n-lt10000 t c =
    subst (λ (x : List ℕ). Put x c.args.self.now c.pair-else-n-lt10000-2.new.self)
    (sym (decimal-four c.args.n c.ranges.n.fits c.if-n-lt10000.false))
    (put_then (put_then c.digits-else-n-lt10000.ensures c.pair-else-n-lt10000.ensures) c.pair-else-n-lt10000-2.ensures)
