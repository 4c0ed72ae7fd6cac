-- `all_exact` meets its contract: the flag says whether each of the marks passed is 1.
use Rattle.std.specs.List.{list_all}
use Rattle.std.proofs.Common.{◌≡◌, eqb, take}
use Rattle.sample.proofs.marked.all_exact.Given as goal

abbrev pub invariant-loop-mark : goal.invariant-loop-mark
invariant-loop-mark l = l.exact ≡ list_all (λ mark. eqb mark 1) (take l.mark-index l.marks)
