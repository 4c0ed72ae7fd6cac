-- `refusal_line` meets its contract: its number has at most 20 digits.
use Rattle.std.proofs.Common.{length-append, arith}
use Rattle.text.specs.Text.{refusal_line}
use Rattle.text.proofs.TextLaws.{decimal-length}
use Rattle.text.proofs.refusal_line.Goals as goal

pub write_line-requires : goal.write_line-requires
write_line-requires c = simp length-append (omega (arith, decimal-length c.from.result))

pub returns : goal.returns
unfolding refusal_line
returns c = rw (← c.from.ensures) c.write_line.ensures
