-- `inner_mask` meets its contract: its numerator is a sum of numbers of 32 bits, with weights of at most 16.
use Prim.Native.Nat.{◌+◌}
use native.Mathlib.Omega.{arith}
use Rattle.mask.specs.Mask.{inner_mask}
use Rattle.mask.proofs.MachineLaws.{Sum, one, term, ◌⊞◌, Ranged, Narrow, narrow, fraction, fits}
use Rattle.mask.proofs.inner_mask.Goals.{Start}
use Rattle.mask.proofs.inner_mask.Goals as goal

-- the sum by its terms, from the left
module _ (s : Start) where
  abbrev sum₂ : Sum
  sum₂ = term s.args.w s.args.a.here ⊞ term 2 s.args.a.next

  abbrev sum₃ : Sum
  sum₃ = sum₂ ⊞ term 2 s.args.a.prev

  abbrev sum : Sum
  sum = sum₃ ⊞ one s.args.a.across

  ranged : Ranged sum
  ranged =
      let a : Narrow s.args.a =
      narrow s.args.a (omega (arith, s.well_formed)) (omega (arith, s.well_formed)) (omega (arith, s.well_formed)) (omega (arith, s.well_formed)) in
      (((a.here, a.next), a.prev), a.across)

pub overflow_add-result : goal.overflow_add-result
overflow_add-result c = let s = (goal.at.overflow_add-result c).Start in fits (sum₂ s) (ranged s).0.0 (omega (arith, s.well_formed))

pub overflow_add-result-2 : goal.overflow_add-result-2
overflow_add-result-2 c = let s = (goal.at.overflow_add-result-2 c).Start in fits (sum₃ s) (ranged s).0 (omega (arith, s.well_formed))

pub overflow_add-result-3 : goal.overflow_add-result-3
overflow_add-result-3 c = let s = (goal.at.overflow_add-result-3 c).Start in fits (sum s) (ranged s) (omega (arith, s.well_formed))

pub returns : goal.returns
unfolding inner_mask
returns c = let s = (goal.at.returns c).Start in fraction (sum s) (ranged s) (omega (arith, s.well_formed)) (s.args.w + 5)
