-- The places that the loop has passed hold what `value` gave for them.
use Rattle.std.proofs.Common.{take}
use Rattle.decoding.specs.Bytes.{Each}
use Rattle.decoding.proofs.bytes.fill.Given as goal

abbrev pub invariant-loop-i : goal.invariant-loop-i
invariant-loop-i g l = Each (goal.F-post g l.value) 0 (take l.i l.list)
