-- `point` meets its contract: each coordinate is rounded from the sum by the weights of a and of b, over n ^ 6, and exact where nothing is left of it.
use mathlib.Core.Path.{◌≡◌, sym, ap, ap₂, ◌∙◌, subst}
use mathlib.Core.Bool.{Bool, ◌&&◌}
use mathlib.Core.List.{List}
use Prim.Native.Nat.{ℕ, ◌^◌, ◌<◌}
use native.Mathlib.Omega.{arith}
use lib.IntN.{ℤ}
use lib.Signed.{mag}
use mir.Syntax.{w32, w64}
use mir.Val.{to_z, of_z}
use Rattle.integer.specs.Nearest.{nearest, whole}
use Rattle.integer.proofs.Laws.{read_back}
use Rattle.sample.specs.Bernstein.{numerator, rounded}
use Rattle.sample.specs.declared.model.Coordinate.{Coordinate}
use Rattle.sample.specs.Blend.{control_of, LightWeights, ForCurve, Mean, blended_twice}
use Rattle.sample.proofs.BlendLaws.{weights-light, sample-mean, blended-mean, rounded-blended, whole-blended, same_point, same-marked, all_three}
use Rattle.sample.proofs.patch.Patch.point.Goals.{After-coordinate_sum, After-coordinate_sum-2, After-coordinate_sum-3, After-divisor-over}
use Rattle.sample.proofs.patch.Patch.point.Goals.{After-rounded_quotient-x, After-rounded_quotient-y, After-rounded_quotient-z, After-struct_told-3-1, Start}
use Rattle.sample.proofs.patch.Patch.point.Goals as goal

pub weights-u-requires : goal.weights-u-requires
weights-u-requires c = c.requires.0

pub weights-v-requires : goal.weights-v-requires
weights-v-requires c = c.requires.1

pub divisor-over-requires : goal.divisor-over-requires
divisor-over-requires c = c.requires.0.most

-- at the three coordinates: the weights, what is divided and rounded, whether that leaves nothing, what the two calls for coordinate k ask, and what they gave
module _ (c : After-divisor-over) where
  abbrev start : Start
  start = (goal.at.After-divisor-over c).Start

  abbrev u : List ℕ
  u = c.weights-u.result

  abbrev v : List ℕ
  v = c.weights-v.result

  abbrev sum : ℕ → ℤ
  sum k = blended_twice u v (control_of start.args.self.numbers.now k)

  abbrev sampled : ℕ → ℤ
  sampled k = rounded start.args.n start.args.a start.args.b (control_of start.args.self.numbers.now k)

  abbrev exact_at : ℕ → Bool
  exact_at k = whole (numerator start.args.n start.args.a start.args.b (control_of start.args.self.numbers.now k)) (start.args.n ^ 6)

  u-light : LightWeights u
  u-light = subst LightWeights (sym c.weights-u.ensures) (weights-light start.requires.0)

  v-light : LightWeights v
  v-light = subst LightWeights (sym c.weights-v.ensures) (weights-light start.requires.1)

  asked : (k : ℕ) → k < 3 → LightWeights u × ForCurve k v
  asked k l = (u-light, record { axis = l; light = v-light })

  -- what coordinate k is, of a number z that is its sum
  abbrev divided : ℤ → Coordinate
  divided z = record { value = nearest z c.divisor-over.result; exact = whole z c.divisor-over.result }

  mean : (k : ℕ) → k < 3 → {z : ℤ} → z ≡ sum k → Mean z c.divisor-over.result
  mean k l e =
      subst (λ (z : ℤ). Mean z c.divisor-over.result) (sym e)
      (blended-mean _ _ _ _ c.weights-u.ensures c.weights-v.ensures c.divisor-over.ensures
      (sample-mean (record { small = start.args.self.small; at = start.requires.0; across = start.requires.1 }) k l))

  told : (k : ℕ) {r : Coordinate} {z : ℤ} → mag r.value < 2 ^ 31 → z ≡ sum k → r ≡ divided z → to_z w32 (of_z w32 r.value) ≡ sampled k
  told k ok h e =
      read_back w32 ok
      (ap (λ (r : Coordinate). r.value) e
      ∙ ap (λ (z : ℤ). nearest z c.divisor-over.result) h
      ∙ rounded-blended _ _ _ _ c.weights-u.ensures c.weights-v.ensures c.divisor-over.ensures start.requires.0.least)

  marked : (k : ℕ) {r : Coordinate} {z : ℤ} → z ≡ sum k → r ≡ divided z → r.exact ≡ exact_at k
  marked k h e =
      ap (λ (r : Coordinate). r.exact) e
      ∙ ap (λ (z : ℤ). whole z c.divisor-over.result) h
      ∙ whole-blended _ _ _ _ c.weights-u.ensures c.weights-v.ensures c.divisor-over.ensures

-- ---- the sums of x, y and z
sum-x : (c : After-coordinate_sum) → to_z w64 (of_z w64 c.coordinate_sum.result) ≡ sum (goal.at.After-coordinate_sum c).After-divisor-over 0
sum-x c = read_back w64 c.coordinate_sum.type_inv c.coordinate_sum.ensures

abbrev past-x : After-rounded_quotient-x → After-divisor-over
past-x c = (goal.at.After-rounded_quotient-x c).After-divisor-over

sum-y : (c : After-coordinate_sum-2)
    → to_z w64 (of_z w64 c.coordinate_sum-2.result) ≡ sum (past-x (goal.at.After-coordinate_sum-2 c).After-rounded_quotient-x) 1
sum-y c = read_back w64 c.coordinate_sum-2.type_inv c.coordinate_sum-2.ensures

abbrev past-y : After-rounded_quotient-y → After-divisor-over
past-y c = past-x (goal.at.After-rounded_quotient-y c).After-rounded_quotient-x

sum-z : (c : After-coordinate_sum-3)
    → to_z w64 (of_z w64 c.coordinate_sum-3.result) ≡ sum (past-y (goal.at.After-coordinate_sum-3 c).After-rounded_quotient-y) 2
sum-z c = read_back w64 c.coordinate_sum-3.type_inv c.coordinate_sum-3.ensures

-- ---- the answers, in the order of the code
pub coordinate_sum-requires : goal.coordinate_sum-requires
coordinate_sum-requires c = asked c 0 (omega arith)

pub rounded_quotient-x-requires : goal.rounded_quotient-x-requires
rounded_quotient-x-requires c = mean (goal.at.rounded_quotient-x-requires c).After-divisor-over 0 (omega arith) (sum-x c)

pub coordinate_sum-requires-2 : goal.coordinate_sum-requires-2
coordinate_sum-requires-2 c = asked (past-x c) 1 (omega arith)

pub rounded_quotient-y-requires : goal.rounded_quotient-y-requires
rounded_quotient-y-requires c = mean (past-x (goal.at.rounded_quotient-y-requires c).After-rounded_quotient-x) 1 (omega arith) (sum-y c)

pub coordinate_sum-requires-3 : goal.coordinate_sum-requires-3
coordinate_sum-requires-3 c = asked (past-y c) 2 (omega arith)

pub rounded_quotient-z-requires : goal.rounded_quotient-z-requires
rounded_quotient-z-requires c = mean (past-y (goal.at.rounded_quotient-z-requires c).After-rounded_quotient-y) 2 (omega arith) (sum-z c)

pub returns : goal.returns
returns c =
    let third : After-struct_told-3-1 = (goal.at.returns c).After-struct_told-3-1 in
    let z : After-rounded_quotient-z = (goal.at.After-struct_told-3-1 third).After-rounded_quotient-z in
    let y : After-rounded_quotient-y = (goal.at.After-rounded_quotient-z z).After-rounded_quotient-y in
    let x : After-rounded_quotient-x = (goal.at.After-rounded_quotient-y y).After-rounded_quotient-x in
    let d = past-x x in
    let hx = sum-x (goal.at.After-rounded_quotient-x x).After-coordinate_sum in
    let hy = sum-y (goal.at.After-rounded_quotient-y y).After-coordinate_sum-2 in
    let hz = sum-z (goal.at.After-rounded_quotient-z z).After-coordinate_sum-3 in
    let ex = x.rounded_quotient-x.ensures in
    let ey = y.rounded_quotient-y.ensures in
    let ez = z.rounded_quotient-z.ensures in
    same-marked
    (same_point
    (told d 0 third.struct_told-1.given.0.1 hx ex)
    (told d 1 third.struct_told-2-1.given.0.1 hy ey)
    (told d 2 third.struct_told-3-1.given.0.1 hz ez))
    (ap₂ ◌&&◌ (ap₂ ◌&&◌ (marked d 0 hx ex) (marked d 1 hy ey)) (marked d 2 hz ez) ∙ all_three (exact_at d))
