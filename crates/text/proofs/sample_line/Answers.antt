-- `sample_line` meets its contract: its first three numbers have at most 20 digits each, and the others at most 11 places.
use Rattle.std.proofs.Common.{length-append, arith}
use mir.Facts.{to_z-of_z}
use Rattle.text.specs.Text.{sample_line}
use Rattle.text.proofs.TextLaws.{decimal-length, text-length}
use Rattle.text.proofs.sample_line.Goals as goal

pub write_line-requires : goal.write_line-requires
write_line-requires c =
    simp (to_z-of_z c.ranges.x, to_z-of_z c.ranges.y, to_z-of_z c.ranges.z, length-append)
    (omega (
      arith,
      decimal-length c.args.f,
      decimal-length c.args.a,
      decimal-length c.args.b,
      text-length c.args.x c.ranges.x,
      text-length c.args.y c.ranges.y,
      text-length c.args.z c.ranges.z,
    ))

pub returns : goal.returns
unfolding sample_line
returns c = simp (to_z-of_z c.ranges.x, to_z-of_z c.ranges.y, to_z-of_z c.ranges.z) at c.write_line.ensures
