-- `over_256` meets its contract: a double has every number of 32 bits, and the quotient by 256.0 is not rounded.
use mathlib.Core.Path.{refl}
use lib.Ieee.{of_bits}
use mir.Facts.{to_z-of_z}
use Rattle.sample.proofs.MicrometreLaws.{over256-exact}
use Rattle.sample.proofs.micrometres.over_256.Goals as goal

-- the divisor's bits are those of 256.0
pub returns : goal.returns
unfolding of_bits
returns c = rw (c.from.ensures, to_z-of_z c.ranges.n) (over256-exact c.args.n _ c.ranges.n.sfits refl)
