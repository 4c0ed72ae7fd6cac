-- `following` meets its contract: with no number of the recurrence above 2^21 in size, the product and the difference fit 64 bits.
use Rattle.std.proofs.Common.{◌≡◌, ap, ap₂, ◌∙◌, ◌^◌, ◌≤◌, arith, w64, ℤ, pos, nat_abs, ◌-ℤ◌, ◌*ℤ◌, FitsSigned, to_z, of_z}
use mir.Facts.{to_z-of_z}
use Rattle.integer.specs.Nearest.{nearest}
use Rattle.integer.proofs.Laws.{abs-*, abs-*-≤, abs--, sfits-abs}
use Rattle.integer.proofs.NearestLaws.{nearest-bounded}
use Rattle.cosine.specs.Cosine.{scale}
use Rattle.cosine.proofs.generator.following.Goals.{After-round, Start}
use Rattle.cosine.proofs.generator.following.Goals as goal

-- ---- at the start: the product
module _ (c : Start) where
  abbrev double : ℤ
  double = pos 2 *ℤ c.args.c

  abbrev product : ℤ
  product = double *ℤ c.args.last

  double-size : nat_abs double ≤ 2 ^ 21
  double-size = omega (arith, abs-* (pos 2) c.args.c)

  double-fits : FitsSigned w64 double
  double-fits = sfits-abs double (omega (arith, double-size))

  product-size : nat_abs product ≤ 2 ^ 42
  product-size = abs-*-≤ double c.args.last double-size c.requires.1

  product-fits : FitsSigned w64 product
  product-fits = sfits-abs product (omega (arith, product-size))

-- ---- what `round` gave, and the difference
module _ (c : After-round) where
  abbrev start : Start
  start = (goal.at.After-round c).Start

  abbrev quotient : ℤ
  quotient = nearest (product start) scale

  quotient-size : nat_abs quotient ≤ 2 ^ 42
  quotient-size = nearest-bounded (product start) scale (2 ^ 42) (omega arith) (omega (arith, product-size start))

  given : c.round.result.value ≡ quotient
  given =
      c.round.ensures.0
      ∙ ap (λ (z : ℤ). nearest z scale)
      (simp (to_z-of_z start.ranges.c, to_z-of_z (double-fits start), to_z-of_z start.ranges.last, to_z-of_z (product-fits start)))

  rounded : to_z w64 (of_z w64 c.round.result.value) ≡ quotient
  rounded = ap (λ (z : ℤ). to_z w64 (of_z w64 z)) given ∙ to_z-of_z (sfits-abs {w = w64} quotient (omega (arith, quotient-size)))

  rest-fits : FitsSigned w64 (quotient -ℤ start.args.before)
  rest-fits = sfits-abs (quotient -ℤ start.args.before) (omega (arith, quotient-size, abs-- quotient start.args.before))

-- ---- the answers, in the order of the code
pub overflow_mul-c : goal.overflow_mul-c
overflow_mul-c c = simp (to_z-of_z c.ranges.c) (double-fits c)

pub overflow_mul-c-2 : goal.overflow_mul-c-2
overflow_mul-c-2 c = simp (to_z-of_z c.ranges.c, to_z-of_z (double-fits c), to_z-of_z c.ranges.last) (product-fits c)

pub overflow_sub-result : goal.overflow_sub-result
overflow_sub-result c =
    let r : After-round = (goal.at.overflow_sub-result c).After-round in rw (rounded r, to_z-of_z c.ranges.before) (rest-fits r)

pub returns : goal.returns
returns c =
    let r : After-round = (goal.at.returns c).After-round in
    ap (λ (z : ℤ). to_z w64 (of_z w64 z)) (ap₂ ◌-ℤ◌ (rounded r) (to_z-of_z c.ranges.before)) ∙ to_z-of_z (rest-fits r)
