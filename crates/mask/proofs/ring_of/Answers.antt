-- `ring_of` meets its contract: it is a sum of numbers of 32 bits whose weights sum to 5.
use native.Mathlib.Omega.{arith}
use Rattle.mask.proofs.MachineLaws.{Sum, one, term, ◌⊞◌, Ranged, Narrow, narrow, exact-stored, fits}
use Rattle.mask.proofs.ring_of.Goals.{Start}
use Rattle.mask.proofs.ring_of.Goals as goal

module _ (s : Start) where
  abbrev sum : Sum
  sum = term 2 s.args.a.next ⊞ term 2 s.args.a.prev ⊞ one s.args.a.across

  ranged : Ranged sum
  ranged =
      let a : Narrow s.args.a =
      narrow s.args.a (omega (arith, s.well_formed)) (omega (arith, s.well_formed)) (omega (arith, s.well_formed)) (omega (arith, s.well_formed)) in
      ((a.next, a.prev), a.across)

pub overflow_add-result-2 : goal.overflow_add-result-2
overflow_add-result-2 c = let s = (goal.at.overflow_add-result-2 c).Start in fits (sum s) (ranged s) (omega arith)

pub returns : goal.returns
returns c = let s = (goal.at.returns c).Start in exact-stored (sum s) (ranged s) (omega arith)
