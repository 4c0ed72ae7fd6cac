-- `refused_line` meets its contract: the line is that of the refusal's number.
use Rattle.std.proofs.Common.{arith}
use Rattle.listing.proofs.RowLaws.{run-one}
use Rattle.listing.proofs.samples.refused_line.Goals as goal

pub returns : goal.returns
returns c = run-one _ 1 (omega arith) c.requires c.refusal_line.auto.line (rw (← c.from.ensures) c.refusal_line.ensures)
