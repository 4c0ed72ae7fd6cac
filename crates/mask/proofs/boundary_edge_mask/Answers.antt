-- `boundary_edge_mask` meets its contract: its numerator is a sum of numbers of 32 bits.
use native.Mathlib.Omega.{arith}
use Rattle.mask.specs.Mask.{boundary_edge_mask}
use Rattle.mask.proofs.MachineLaws.{Sum, one, term, ◌⊞◌, fraction}
use Rattle.mask.proofs.boundary_edge_mask.Goals.{Start}
use Rattle.mask.proofs.boundary_edge_mask.Goals as goal

abbrev sum : Start → Sum
sum s = term 2 s.args.p ⊞ one s.args.q

pub returns : goal.returns
unfolding boundary_edge_mask
returns s = fraction (sum s) (s.ranges.p, s.ranges.q) (omega arith) 3
