-- The edges' rule: R + H and C(n, i) are small enough for the product and its quotient.
use Rattle.std.proofs.Common.{◌≡◌, ap, ap₂, ◌∙◌, ℕ, arith, w64, ℤ, pos, ◌+ℤ◌, ◌*ℤ◌, FitsSigned, to_z, of_z}
use mir.Facts.{to_z-of_z}
use Rattle.integer.proofs.Laws.{sfits-abs, read_back}
use Rattle.cosine.specs.Weight.{half_cosine, multiple_cosine, hypotenuse}
use Rattle.cosine.proofs.WeightLaws.{Weighed, weighed-is}
use Rattle.cosine.proofs.SizeLaws.{hypotenuse-size, sum-size, multiple-size}
use Rattle.cosine.proofs.generator.EdgeRuleRule.factors.Goals.{Start, After-hypotenuse, After-wide_cosine}
use Rattle.cosine.proofs.generator.EdgeRuleRule.factors.Goals as goal

range : (c : Start) → Weighed c.args.n c.args.i
range c = weighed-is c.args.n c.args.i c.requires

-- ---- R as a signed number
root-fits : (c : After-hypotenuse) → FitsSigned w64 (pos c.hypotenuse.result)
root-fits c =
    let s : Start = (goal.at.After-hypotenuse c).Start in
    sfits-abs (pos c.hypotenuse.result) (omega (arith, c.hypotenuse.ensures, (hypotenuse-size c.args.n (range s).most).1))

-- ---- and H
module _ (c : After-wide_cosine) where
  abbrev n : ℕ
  n = c.args.n

  w : Weighed c.args.n c.args.i
  w = range (goal.at.After-wide_cosine c).Start

  root_is : to_z w64 c.hypotenuse.result ≡ pos (hypotenuse n)
  root_is = to_z-of_z {w = w64} {z = pos c.hypotenuse.result} (root-fits (goal.at.After-wide_cosine c).After-hypotenuse) ∙ ap pos c.hypotenuse.ensures

  half_is : to_z w64 (of_z w64 c.wide_cosine.result) ≡ half_cosine n
  half_is = read_back w64 c.wide_cosine.type_inv c.wide_cosine.ensures

  sum_fits : FitsSigned w64 (pos (hypotenuse n) +ℤ half_cosine n)
  sum_fits = sfits-abs (pos (hypotenuse n) +ℤ half_cosine n) (omega (arith, sum-size n w.most))

-- ---- the answers, in the order of the code
pub overflow_cast-result : goal.overflow_cast-result
overflow_cast-result c = root-fits c

pub overflow_add-result : goal.overflow_add-result
overflow_add-result c = rw (root_is c, half_is c) (sum_fits c)

pub returns : goal.returns
returns c =
    let k : After-wide_cosine = (goal.at.returns c).After-wide_cosine in
    let factor : to_z w64 (of_z w64 (to_z w64 c.hypotenuse.result +ℤ to_z w64 (of_z w64 c.wide_cosine.result))) ≡ pos (hypotenuse (n k)) +ℤ half_cosine (n k) =
    ap (λ (z : ℤ). to_z w64 (of_z w64 z)) (ap₂ ◌+ℤ◌ (root_is k) (half_is k)) ∙ to_z-of_z (sum_fits k) in
    let value : to_z w64 (of_z w64 c.multiple_cosine.result) ≡ multiple_cosine c.args.n c.args.i =
    read_back w64 c.multiple_cosine.type_inv c.multiple_cosine.ensures in
    record {
      product = ap₂ ◌*ℤ◌ factor value;
      factor-small = rw factor (sum-size c.args.n (w k).most);
      value-small = rw value (multiple-size c.args.n c.args.i (omega (arith, (w k).most)) (omega (arith, (w k).place)));
    }
