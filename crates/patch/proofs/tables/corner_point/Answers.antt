-- `corner_point` meets its contract: both sums fit 32 bits.
use native.Mathlib.Omega.{arith}
use mir.Syntax.{w32}
use mir.Val.{SFits}
use mir.Facts.{to_z-of_z}
use Rattle.integer.proofs.Laws.{sfits-abs}
use Rattle.patch.proofs.tables.corner_point.Goals.{Start}
use Rattle.patch.proofs.tables.corner_point.Goals as goal

module _ (s : Start) where
  ring-fits : SFits w32 s.args.ring
  ring-fits = sfits-abs s.args.ring (omega (arith, s.requires.ring-fits))

  sharp-fits : SFits w32 s.args.sharp
  sharp-fits = sfits-abs s.args.sharp (omega (arith, s.requires.sharp-fits))

pub overflow_cast-ring : goal.overflow_cast-ring
overflow_cast-ring s = rw (to_z-of_z s.ranges.ring) (ring-fits s)

pub overflow_cast-sharp : goal.overflow_cast-sharp
overflow_cast-sharp s = rw (to_z-of_z s.ranges.sharp) (sharp-fits s)

pub returns : goal.returns
returns c =
    let s = (goal.at.returns c).Start in
    simp (
      to_z-of_z s.ranges.p,
      to_z-of_z s.ranges.ring,
      to_z-of_z s.ranges.sharp,
      to_z-of_z (ring-fits s),
      to_z-of_z (sharp-fits s),
    )
    at c.corner_value.ensures
