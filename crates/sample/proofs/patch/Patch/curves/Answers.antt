-- `curves` meets its contract: the weights of b are light, so that each curve can be blended.
use mathlib.Core.Path.{sym, subst}
use Prim.Native.Nat.{ℕ, ◌<◌}
use native.Mathlib.Omega.{arith}
use Rattle.sample.specs.Blend.{LightWeights, ForCurve}
use Rattle.sample.proofs.BlendLaws.{weights-light, curve-list}
use Rattle.sample.proofs.CurveLaws.{same-curves}
use Rattle.sample.proofs.patch.Patch.curves.Goals.{After-curve-y, After-weights-v, Start}
use Rattle.sample.proofs.patch.Patch.curves.Goals as goal

-- ---- the weights are there: what the curve of coordinate k asks
module _ (c : After-weights-v) where
  abbrev start : Start
  start = (goal.at.After-weights-v c).Start

  asked : (k : ℕ) → k < 3 → ForCurve k c.weights-v.result
  asked k l = record {
    axis = l;
    light = subst LightWeights (sym c.weights-v.ensures) (weights-light start.requires);
  }

pub weights-v-requires : goal.weights-v-requires
weights-v-requires c = c.requires

pub curve-x-requires : goal.curve-x-requires
curve-x-requires c = asked c 0 (omega arith)

pub curve-y-requires : goal.curve-y-requires
curve-y-requires c = asked (goal.at.curve-y-requires c).After-weights-v 1 (omega arith)

pub curve-z-requires : goal.curve-z-requires
curve-z-requires c = asked (goal.at.curve-z-requires c).After-weights-v 2 (omega arith)

pub divisor-requires : goal.divisor-requires
divisor-requires c = (start (goal.at.divisor-requires c).After-weights-v).requires.most

pub returns : goal.returns
returns c =
    let y : After-curve-y = (goal.at.returns c).After-curve-y in
    let w : After-weights-v = (goal.at.After-curve-y y).After-weights-v in
    let s = (start w).args in
    same-curves c.divisor.ensures
    (curve-list s.self.numbers.now _ _ 0 w.weights-v.ensures y.curve-x.ensures)
    (curve-list s.self.numbers.now _ _ 1 w.weights-v.ensures y.curve-y.ensures)
    (curve-list s.self.numbers.now _ _ 2 w.weights-v.ensures c.curve-z.ensures)
