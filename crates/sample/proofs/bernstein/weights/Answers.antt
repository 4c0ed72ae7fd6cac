-- `weights` meets its contract: the four products are the definition's, and with both factors at most 32 none overflows.
use mathlib.Core.Path.{refl}
use Prim.Native.Nat.{◌-◌, ◌≤◌}
use native.Mathlib.Nat.{mul-le-mul}
use native.Mathlib.Omega.{arith}
use Rattle.finite.specs.Filled.{list_below}
use Rattle.sample.specs.Bernstein.{bernstein}
use Rattle.sample.proofs.bernstein.weights.Goals.{Start}
use Rattle.sample.proofs.bernstein.weights.Goals as goal

-- s and t, each at most 32, and their products
module _ (c : Start) where
  s-≤ : c.args.a ≤ 32
  s-≤ = omega arith

  t-≤ : c.args.n - c.args.a ≤ 32
  t-≤ = omega arith

pub overflow_mul-result : goal.overflow_mul-result
overflow_mul-result c = omega (arith, mul-le-mul (t-≤ c) (t-≤ c))

pub overflow_mul-result-2 : goal.overflow_mul-result-2
overflow_mul-result-2 c = omega (arith, mul-le-mul (mul-le-mul (t-≤ c) (t-≤ c)) (t-≤ c))

pub overflow_mul-result-4 : goal.overflow_mul-result-4
overflow_mul-result-4 c = omega (arith, mul-le-mul (s-≤ c) (t-≤ c))

pub overflow_mul-result-5 : goal.overflow_mul-result-5
overflow_mul-result-5 c = omega (arith, mul-le-mul (mul-le-mul (s-≤ c) (t-≤ c)) (t-≤ c))

pub overflow_mul-result-7 : goal.overflow_mul-result-7
overflow_mul-result-7 c = omega (arith, mul-le-mul (s-≤ c) (s-≤ c))

pub overflow_mul-result-8 : goal.overflow_mul-result-8
overflow_mul-result-8 c = omega (arith, mul-le-mul (mul-le-mul (s-≤ c) (s-≤ c)) (t-≤ c))

pub overflow_mul-result-9 : goal.overflow_mul-result-9
overflow_mul-result-9 c = omega (arith, mul-le-mul (s-≤ c) (s-≤ c))

pub overflow_mul-result-10 : goal.overflow_mul-result-10
overflow_mul-result-10 c = omega (arith, mul-le-mul (mul-le-mul (s-≤ c) (s-≤ c)) (s-≤ c))

pub returns : goal.returns
unfolding list_below bernstein
returns c = refl
