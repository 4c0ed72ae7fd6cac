-- `smooth_corner` meets its contract: the square of a number of 8 bits is a weight of 16, and the numerator a sum of numbers of 32 bits.
use Prim.Native.Nat.{◌+◌, ◌*◌, ◌≤◌}
use native.Mathlib.Nat.{mul-le-mul}
use native.Mathlib.Omega.{arith}
use Rattle.mask.specs.Mask.{smooth_corner_mask}
use Rattle.mask.proofs.MachineLaws.{Sum, one, term, ◌⊞◌, fraction, fits}
use Rattle.mask.proofs.smooth_corner.Goals.{Start}
use Rattle.mask.proofs.smooth_corner.Goals as goal

module _ (s : Start) where
  square : s.args.n * s.args.n ≤ 255 * 255
  square = let h : s.args.n ≤ 255 = omega (arith, s.well_formed) in mul-le-mul h h

  abbrev sum : Sum
  sum = term (s.args.n * s.args.n) s.args.p ⊞ one s.args.s

pub overflow_mul-result-2 : goal.overflow_mul-result-2
overflow_mul-result-2 c =
    let s = (goal.at.overflow_mul-result-2 c).Start in
    rw c.from-m.ensures (fits (term (s.args.n * s.args.n) s.args.p) s.ranges.p (omega (arith, square s)))

pub overflow_add-result : goal.overflow_add-result
overflow_add-result c =
    let s = (goal.at.overflow_add-result c).Start in
    rw c.from-m.ensures (fits (sum s) (s.ranges.p, s.ranges.s) (omega (arith, square s)))

pub returns : goal.returns
unfolding smooth_corner_mask
returns c =
    let s = (goal.at.returns c).Start in
    rw c.from-m.ensures (fraction (sum s) (s.ranges.p, s.ranges.s) (omega (arith, square s)) (s.args.n * (s.args.n + 5)))
