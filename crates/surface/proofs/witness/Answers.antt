-- `witness` meets its contract: what the calls gave is what the definitions say, and of these the claim is proved (`witnessed`).
use Rattle.surface.proofs.WitnessLaws.{witnessed}
use Rattle.surface.proofs.witness.Goals as goal

pub returns : goal.returns
returns c = witnessed c.evaluate-first.ensures c.sample-other.ensures c.evaluate-second.ensures
