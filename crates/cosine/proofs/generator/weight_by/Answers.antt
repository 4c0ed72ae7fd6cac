-- `weight_by` meets its contract: the product is exact, the divisor fits 32 bits and is so large that the quotient fits them too.
use Rattle.std.proofs.Common.{◌≡◌, sym, ap, ap₂, ◌∙◌, ℕ, ◌*◌, ◌^◌, ◌≤◌, true, arith, w32, w64, ℤ, nat_abs, ◌*ℤ◌, FitsSigned, to_z, of_z}
use mir.Facts.{to_z-of_z}
use borrow.Author.Tests.{not-true, not-false}
use Rattle.integer.specs.Nearest.{nearest}
use Rattle.integer.proofs.Laws.{abs-*-≤, sfits-abs}
use Rattle.integer.proofs.NearestLaws.{nearest-bounded}
use Rattle.cosine.specs.Weight.{divisor, weighed}
use Rattle.cosine.proofs.WeightLaws.{Weighed, weighed-is, weight_is, weight-off, placed}
use Rattle.cosine.proofs.SizeLaws.{divisor-size}
use Rattle.cosine.proofs.generator.weight_by.Goals.{After-hypotenuse, After-round, Else-is_none}
use Rattle.cosine.proofs.generator.weight_by.Goals as goal

-- ---- there is such a weight
there : (g : _) (c : Else-is_none g) → weighed c.args.n c.args.i ≡ true
there g c = not-false (weighed c.args.n c.args.i) (sym (placed c.args.n c.args.i c.place.ensures c.is_none.ensures) ∙ c.if-is_none.false)

-- ---- the numerator and R are known
module _ (g : _) (c : After-hypotenuse g) where
  abbrev n : ℕ
  n = c.args.n

  w : Weighed c.args.n c.args.i
  w = weighed-is c.args.n c.args.i (there g (goal.at.After-hypotenuse g c).Else-is_none)

  abbrev product : ℤ
  product = g.R.Rule.numerator c.args.n c.args.i

  product-size : nat_abs product ≤ 2 ^ 44
  product-size =
      rw (← c.factors-numerator.ensures.product)
      (abs-*-≤ c.factors-numerator.result.factor c.factors-numerator.result.value c.factors-numerator.ensures.factor-small
      c.factors-numerator.ensures.value-small)

  product-fits : FitsSigned w64 product
  product-fits = sfits-abs product (omega (arith, product-size))

  product-is : to_z w64 (of_z w64 c.factors-numerator.result.factor) *ℤ to_z w64 (of_z w64 c.factors-numerator.result.value) ≡ product
  product-is =
      let q = c.factors-numerator.ensures in
      ap₂ ◌*ℤ◌ (to_z-of_z (sfits-abs {w = w64} c.factors-numerator.result.factor (omega (arith, q.factor-small))))
      (to_z-of_z (sfits-abs {w = w64} c.factors-numerator.result.value (omega (arith, q.value-small))))
      ∙ q.product

  divisor-is : n * c.hypotenuse.result ≡ divisor n
  divisor-is = ap (λ (r : ℕ). n * r) c.hypotenuse.ensures

  divisor-small : n * c.hypotenuse.result ≤ 2 ^ 26
  divisor-small = omega (arith, divisor-is, (divisor-size n w.least w.most).1)

-- ---- the quotient
module _ (g : _) (c : After-round g) where
  abbrev known : After-hypotenuse g
  known = (goal.at.After-round g c).After-hypotenuse

  abbrev quotient : ℤ
  quotient = nearest (product g known) (divisor (n g known))

  small : nat_abs quotient ≤ 2 ^ 30
  small =
      let d = divisor-size (n g known) (w g known).least (w g known).most in
      nearest-bounded (product g known) _ (2 ^ 30) (omega (arith, d.0)) (omega (arith, d.0, product-size g known))

  value : to_z w64 (of_z w64 c.round.result.value) ≡ quotient
  value =
      ap (λ (z : ℤ). to_z w64 (of_z w64 z))
      (c.round.ensures.0
      ∙ ap₂ nearest (ap (λ (z : ℤ). to_z w64 (of_z w64 z)) (product-is g known) ∙ to_z-of_z (product-fits g known)) (divisor-is g known))
      ∙ to_z-of_z (sfits-abs {w = w64} quotient (omega (arith, small)))

-- ---- the answers, in the order of the code
pub returns-then-is_none : goal.returns-then-is_none
returns-then-is_none g c =
    weight-off g.R.Rule.numerator c.args.n c.args.i
    (not-true (weighed c.args.n c.args.i) (sym (placed c.args.n c.args.i c.place.ensures c.is_none.ensures) ∙ c.if-is_none.true))

pub overflow_mul-divisor : goal.overflow_mul-divisor
overflow_mul-divisor g c = omega (arith, divisor-small g c)

pub overflow_mul-numerator : goal.overflow_mul-numerator
overflow_mul-numerator g c = let k = (goal.at.overflow_mul-numerator g c).After-hypotenuse in rw (product-is g k) (product-fits g k)

pub overflow_cast-divisor : goal.overflow_cast-divisor
overflow_cast-divisor g c = omega (arith, divisor-small g (goal.at.overflow_cast-divisor g c).After-hypotenuse)

pub overflow_cast-result : goal.overflow_cast-result
overflow_cast-result g c =
    let r = (goal.at.overflow_cast-result g c).After-round in rw (value g r) (sfits-abs (quotient g r) (omega (arith, small g r)))

pub returns : goal.returns
returns g c =
    let r = (goal.at.returns g c).After-round in
    ap (λ (z : ℤ). to_z w32 (of_z w32 z)) (value g r)
    ∙ to_z-of_z (sfits-abs {w = w32} (quotient g r) (omega (arith, small g r)))
    ∙ sym (weight_is g.R.Rule.numerator c.args.n c.args.i (there g (goal.at.After-round g r).Else-is_none))
