-- `is_whole` meets its contract: rounding leaves nothing exactly where the division of the magnitude does, and for a divisor 0 it leaves the number.
use Rattle.std.proofs.Common.{◌≡◌, sym, ap, arith, w64, ℤ, nat_abs, FitsSigned}
use lib.Dec.{eqb}
use mir.Facts.{to_z-of_z}
use Rattle.integer.proofs.Rounding.{whole-magnitude, remainder-0}
use Rattle.integer.proofs.is_whole.Goals as goal

pub returns-then-den-gt0 : goal.returns-then-den-gt0
returns-then-den-gt0 c =
    let f : FitsSigned w64 c.args.num = c.ranges.num in
    rw (c.magnitude-size.ensures, c.from.ensures) (simp to_z-of_z (sym (whole-magnitude c.args.num c.args.den (omega arith))))

pub returns : goal.returns
returns c =
    let f : FitsSigned w64 c.args.num = c.ranges.num in
    let none : c.args.den ≡ 0 = omega arith in
    rw (c.magnitude-size.ensures, none) (simp to_z-of_z (ap (λ (z : ℤ). eqb (nat_abs z) 0) (remainder-0 c.args.num)))
