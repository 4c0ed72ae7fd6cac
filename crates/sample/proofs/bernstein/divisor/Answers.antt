-- `divisor` meets its contract: the cube is at most 2 ^ 15, and its square is the sixth power.
use Prim.Native.Nat.{◌*◌, ◌≤◌}
use native.Mathlib.Nat.{mul-le-mul}
use native.Mathlib.Omega.{arith}
use lib.Pow.{pow-add}
use Rattle.sample.proofs.BernsteinLaws.{pow-3}
use Rattle.sample.proofs.bernstein.divisor.Goals.{Start}
use Rattle.sample.proofs.bernstein.divisor.Goals as goal

module _ (c : Start) where
  square : c.args.n * c.args.n ≤ 32 * 32
  square = mul-le-mul c.requires c.requires

  cube : c.args.n * c.args.n * c.args.n ≤ 32 * 32 * 32
  cube = mul-le-mul square c.requires

pub overflow_mul-cube : goal.overflow_mul-cube
overflow_mul-cube c = omega (arith, square c)

pub overflow_mul-cube-2 : goal.overflow_mul-cube-2
overflow_mul-cube-2 c = omega (arith, cube c)

pub overflow_mul-result : goal.overflow_mul-result
overflow_mul-result c = omega (arith, mul-le-mul (cube c) (cube c))

pub returns : goal.returns
returns c = rw (pow-add c.args.n 3 3, pow-3 c.args.n)
