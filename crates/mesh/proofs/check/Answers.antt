-- `check` meets its contract: it is `check_after` for a call that has met none of its own causes.
use Rattle.mesh.specs.Answer.{mesh_refusal, twins_after}
use Rattle.mesh.proofs.check.Goals as goal

pub returns : goal.returns
unfolding mesh_refusal twins_after
returns c = let said = c.check_after.ensures in record { answer-is = said.answer-is; twins-are = said.twins-are }
