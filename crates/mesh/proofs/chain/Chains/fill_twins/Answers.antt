-- `fill_twins` meets its contract: the places passed hold their twins, and the others what they held.
use native.Mathlib.Omega.{arith}
use lib.ListN.{length-take}
use Rattle.finite.proofs.FilledLaws.{filled-start, filled_more}
use Rattle.mesh.proofs.ListLaws.{filled-lent}
use Rattle.mesh.proofs.chain.Chains.fill_twins.Goals as goal

pub loop-c-init : goal.loop-c-init
loop-c-init c = filled-start _ _

pub loop-c-preserved : goal.loop-c-preserved
loop-c-preserved c = filled_more _ _ _ _ _ c.loop-c-test.true c.loop-c.invariant c.twin.ensures

pub returns : goal.returns
returns c =
    let h = length-take c.args.self.n c.args.twins.now in
    filled-lent _ _ c.loop-c.c _ _ c.requires.2 (omega arith) c.loop-c.invariant
