-- `clear_twins` meets its contract: the first n places hold "no twin", and the others what they held.
use mathlib.Core.Path.{refl}
use native.Mathlib.Omega.{arith}
use lib.ListN.{length-take}
use Rattle.limits.specs.Limits.{no_twin}
use Rattle.mesh.proofs.ListLaws.{filled-front}
use Rattle.mesh.proofs.chain.clear_twins.Goals as goal

pub returns : goal.returns
returns c =
    let long = length-take c.args.n c.args.twins.now in
    filled-front (λ k. no_twin) c.args.n c.args.twins.now c.fill.new.self (omega (arith, c.fill.ensures.len))
    (λ k l. c.fill.ensures.clones k 0 (omega arith) refl)
