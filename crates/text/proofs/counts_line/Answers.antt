-- `counts_line` meets its contract: its four numbers have at most 20 digits each.
use Rattle.std.proofs.Common.{length-append, arith}
use Rattle.text.specs.Text.{counts_line}
use Rattle.text.proofs.TextLaws.{decimal-length}
use Rattle.text.proofs.counts_line.Goals as goal

pub write_line-requires : goal.write_line-requires
write_line-requires c = simp length-append (omega (arith, decimal-length c.args.v, decimal-length c.args.f, decimal-length c.args.e, decimal-length c.args.b))

pub returns : goal.returns
unfolding counts_line
returns c = c.write_line.ensures
