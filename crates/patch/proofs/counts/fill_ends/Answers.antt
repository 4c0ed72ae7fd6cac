-- `fill_ends` meets its contract: the ends of a corner are what the twins tell of half-edge c and of the one before it.
use Prim.Native.Nat.{◌<◌}
use native.Mathlib.Omega.{arith}
use lib.ListN.{length-take}
use Rattle.mesh.proofs.CornerLaws.{prev-below}
use Rattle.finite.proofs.FilledLaws.{filled-start, filled_more}
use Rattle.patch.proofs.FillingLaws.{filled-lent}
use Rattle.patch.proofs.counts.fill_ends.Goals as goal

pub loop-c-init : goal.loop-c-init
loop-c-init c = filled-start _ _

pub is_boundary-requires : goal.is_boundary-requires
is_boundary-requires c = let h = length-take c.args.n c.args.ends.now in omega (arith, c.requires.twins-listed)

pub is_boundary-enters-requires : goal.is_boundary-enters-requires
is_boundary-enters-requires c =
    let h = length-take c.args.n c.args.ends.now in
    let b : c.loop-c.c < c.args.n = omega arith in
    omega (arith, prev-below c.requires.corners c.loop-c.c b, c.prev_corner-before.ensures, c.requires.twins-listed)

pub loop-c-preserved : goal.loop-c-preserved
loop-c-preserved c =
    filled_more _ _ _ _ _ c.loop-c-test.true c.loop-c.invariant
    (cc (c.is_boundary.ensures, c.is_boundary-enters.ensures, c.prev_corner-before.ensures))

pub returns : goal.returns
returns c =
    let h = length-take c.args.n c.args.ends.now in
    filled-lent _ _ c.loop-c.c _ _ c.requires.room (omega arith) c.loop-c.invariant
