-- `vertex_coordinate` meets its contract: it reads the number that the vertex of the corner has in the table.
use native.Mathlib.Omega.{arith}
use Rattle.patch.proofs.source.PatchSource.vertex_coordinate.Goals as goal

pub bounds-self-wide : goal.bounds-self-wide
bounds-self-wide c = omega (arith, c.args.self.serves.pointed c.args.c c.args.k c.requires.0 c.requires.1, c.wide.ensures)
