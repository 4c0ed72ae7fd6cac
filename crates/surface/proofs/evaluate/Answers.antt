-- `evaluate` meets its contract: the samples are taken on the lists that the patch call left.
use Rattle.surface.proofs.WitnessLaws.{evaluated}
use Rattle.surface.proofs.evaluate.Goals as goal

pub returns : goal.returns
returns c = evaluated c.patches-mesh.ensures c.sample-sample.ensures c.marked_sample-marked.ensures
