-- The faces' rule: 2^20 and C(2n, 2i + 1) are small enough for the product and its quotient.
use Rattle.std.proofs.Common.{◌≡◌, ap₂, ◌*◌, arith, w64, pos, ◌*ℤ◌, to_z, of_z}
use Rattle.integer.proofs.Laws.{read_back}
use Rattle.cosine.specs.Cosine.{scale}
use Rattle.cosine.specs.Weight.{multiple_cosine, half_angles}
use Rattle.cosine.proofs.WeightLaws.{Weighed, weighed-is}
use Rattle.cosine.proofs.SizeLaws.{multiple-size}
use Rattle.cosine.proofs.generator.FaceRuleRule.factors.Goals as goal

pub returns : goal.returns
returns c =
    let w : Weighed c.args.n c.args.i = weighed-is c.args.n c.args.i c.requires in
    let factor : to_z w64 (of_z w64 c.from.result) ≡ pos scale = rw c.from.ensures in
    let value : to_z w64 (of_z w64 c.multiple_cosine.result) ≡ multiple_cosine (2 * c.args.n) (half_angles c.args.i) =
    read_back w64 c.multiple_cosine.type_inv c.multiple_cosine.ensures in
    record {
      product = ap₂ ◌*ℤ◌ factor value;
      factor-small = rw factor (omega arith);
      value-small =
          rw value (multiple-size (2 * c.args.n) (half_angles c.args.i) (omega (arith, w.most)) (omega (arith, w.place)));
    }
