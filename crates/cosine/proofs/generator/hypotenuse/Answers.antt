-- `hypotenuse` meets its contract: a number has one whole part of its root.
use Rattle.std.proofs.Common.{◌≡◌, ap, ◌∙◌, ◌^◌, ◌≤◌, arith, w64, nat_abs}
use native.Mathlib.Nat.{mul-le-mul}
use Rattle.integer.proofs.Laws.{read_back}
use Rattle.cosine.specs.Weight.{half_cosine}
use Rattle.cosine.proofs.SizeLaws.{half-size, hypotenuse-is}
use Rattle.cosine.proofs.generator.hypotenuse.Goals.{After-magnitude-h}
use Rattle.cosine.proofs.generator.hypotenuse.Goals as goal

-- ---- H is known
module _ (c : After-magnitude-h) where
  half_is : c.magnitude-h.result ≡ nat_abs (half_cosine c.args.n)
  half_is = c.magnitude-h.ensures ∙ ap nat_abs (read_back w64 c.wide_cosine.type_inv c.wide_cosine.ensures)

  half-small : c.magnitude-h.result ≤ 2 ^ 20
  half-small = omega (arith, half_is, half-size c.args.n c.requires)

pub overflow_mul-h : goal.overflow_mul-h
overflow_mul-h c = omega (arith, mul-le-mul (half-small c) (half-small c))

pub overflow_add-h : goal.overflow_add-h
overflow_add-h c = omega (arith, mul-le-mul (half-small c) (half-small c))

pub returns : goal.returns
returns c =
    hypotenuse-is c.args.n c.magnitude-h.result c.root.result c.requires (half_is (goal.at.returns c).After-magnitude-h) c.root.ensures
