-- What only the contracts of private functions cite: one patch as the part of the patch list that is handed on, and sums of four terms. `line` stands
-- on `Addable`, `Fine` and `Mean` too.
--
--   control_of patch k m   coordinate k of control point m of the patch
--   SmallPatch patch      48 numbers, none beyond the limit of a control value
--   AtStep n a            N in its range, and a no further than step N
--   Samplable patch n a b   a patch that can be sampled at (a, b)
--   Addable sum weight value   the product of the weight and the value fits 64 bits, and so does the sum with it
--   LightWeights weights, Fine values   four weights and four values whose sums of products fit 64 bits
--   Blendable weights values   both
--   ForCurve k v          what is asked to blend coordinate k of a patch along v, by the weights v
--   Mean sum divisor      a divisor above 0, and a sum no larger than that many times the limit of a control value
--   blended weights h     the values h 0 to h 3, each times its weight, added
--   curve_of patch n b k   the curve of coordinate k at b: the control values blended along v by the weights of b
--   blended_twice u v g    the control values g, blended along v by the weights v, then along u by the weights u
use Rattle.std.specs.Prelude.{◌≡◌, List, ℕ, ◌+◌, ◌*◌, ◌^◌, ◌≤◌, ◌<◌, ℤ, pos, nat_abs, ◌+ℤ◌, ◌*ℤ◌, length, get_or}
use Rattle.std.specs.Int.{w64}
use Rattle.std.proofs.Common.{SFits}
use Rattle.finite.specs.Fold.{sum_below_ℤ}
use Rattle.finite.specs.Filled.{list_below}
use Rattle.sample.specs.Bernstein.{bernstein}
use Rattle.sample.specs.Refusal.{max_control, min_steps, max_steps}

abbrev pub control_of : List ℤ → ℕ → ℕ → ℤ
control_of patch k m = get_or patch (3 * m + k) (pos 0)

pub record SmallPatch (patch : List ℤ) : Type 0 where
  pub whole : length patch ≡ 48
  pub small : (i : ℕ) → i < 48 → nat_abs (get_or patch i (pos 0)) ≤ max_control

pub record AtStep (n a : ℕ) : Type 0 where
  pub least : min_steps ≤ n
  pub most : n ≤ max_steps
  pub within : a ≤ n

pub record Samplable (patch : List ℤ) (n a b : ℕ) : Type 0 where
  pub small : SmallPatch patch
  pub at : AtStep n a
  pub across : AtStep n b

pub record Addable (sum : ℤ) (weight : ℕ) (value : ℤ) : Type 0 where
  pub product : SFits w64 (pos weight *ℤ value)
  pub total : SFits w64 (sum +ℤ pos weight *ℤ value)

pub record LightWeights (weights : List ℕ) : Type 0 where
  pub light : (i : ℕ) → i < 4 → get_or weights i 0 ≤ 2 ^ 15

pub record Fine (values : List ℤ) : Type 0 where
  pub fine : (i : ℕ) → i < 4 → nat_abs (get_or values i (pos 0)) ≤ 2 ^ 45

pub record Blendable (weights : List ℕ) (values : List ℤ) : Type 0 where
  pub light : LightWeights weights
  pub fine : Fine values

pub record ForCurve (k : ℕ) (v : List ℕ) : Type 0 where
  pub axis : k < 3
  pub light : LightWeights v

pub record Mean (sum : ℤ) (divisor : ℕ) : Type 0 where
  pub least : 0 < divisor
  pub within : nat_abs sum ≤ max_control * divisor

abbrev pub blended : List ℕ → (ℕ → ℤ) → ℤ
blended weights h = sum_below_ℤ (λ i. pos (get_or weights i 0) *ℤ h i) 4

abbrev pub blended_twice : List ℕ → List ℕ → (ℕ → ℤ) → ℤ
blended_twice u v g = blended u (λ i. blended v (λ j. g (i + 4 * j)))

abbrev pub curve_of : List ℤ → ℕ → ℕ → ℕ → List ℤ
curve_of patch n b k = list_below (λ i. sum_below_ℤ (λ j. pos (bernstein n b j) *ℤ control_of patch k (i + 4 * j)) 4) 4
