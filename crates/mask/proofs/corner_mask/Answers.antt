-- `corner_mask` meets its contract: by the test of the definition, each case is what one mask gave.
use mir.Facts.{to_z-of_z}
use borrow.Author.Tests.{lt-ltb, le-ltb}
use Rattle.mask.specs.Mask.{max_sharpness, corner_mask}
use Rattle.mask.proofs.corner_mask.Goals as goal

pub returns-then-rule-gt-MAX_SHARPNESS : goal.returns-then-rule-gt-MAX_SHARPNESS
unfolding corner_mask
returns-then-rule-gt-MAX_SHARPNESS c =
    rw (lt-ltb max_sharpness c.args.rule c.if-rule-gt-MAX_SHARPNESS.true)
    (simp (to_z-of_z c.ranges.p, to_z-of_z c.ranges.ring) at c.smooth_corner.ensures)

pub returns : goal.returns
unfolding corner_mask
returns c =
    rw (le-ltb max_sharpness c.args.rule c.if-rule-gt-MAX_SHARPNESS.false)
    (simp (to_z-of_z c.ranges.p, to_z-of_z c.ranges.sharp) at c.boundary_corner.ensures)
