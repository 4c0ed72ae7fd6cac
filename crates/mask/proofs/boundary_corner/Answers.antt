-- `boundary_corner` meets its contract: its two weights are of at most 96, and its numerator a sum of numbers of 32 bits.
use Prim.Native.Nat.{◌+◌, ◌-◌, ◌*◌}
use native.Mathlib.Omega.{arith}
use Rattle.mask.specs.Mask.{sharp_corner_mask}
use Rattle.mask.proofs.MachineLaws.{Sum, term, ◌⊞◌, fraction, fits}
use Rattle.mask.proofs.boundary_corner.Goals.{Start}
use Rattle.mask.proofs.boundary_corner.Goals as goal

module _ (s : Start) where
  abbrev own : Sum
  own = term (64 + 2 * s.args.g) s.args.p

  abbrev neighbours : Sum
  neighbours = term (16 - s.args.g) s.args.s

pub overflow_add-result-2 : goal.overflow_add-result-2
overflow_add-result-2 s = fits (own s ⊞ neighbours s) (s.ranges.p, s.ranges.s) (omega (arith, s.requires))

pub returns : goal.returns
unfolding sharp_corner_mask
returns s = fraction (own s ⊞ neighbours s) (s.ranges.p, s.ranges.s) (omega (arith, s.requires)) 96
