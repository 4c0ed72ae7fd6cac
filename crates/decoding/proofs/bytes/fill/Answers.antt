-- `fill` meets its contract: each turn writes one place more, and at the end all are written.
use Rattle.std.proofs.Common.{arith}
use Rattle.decoding.proofs.ByteLaws.{each-more}
use Rattle.decoding.proofs.bytes.fill.Goals as goal

pub loop-i-preserved : goal.loop-i-preserved
loop-i-preserved g c = each-more _ _ _ _ (omega arith) c.loop-i.invariant c.value.ensures
