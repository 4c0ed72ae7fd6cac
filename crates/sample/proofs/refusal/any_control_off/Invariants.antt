-- `any_control_off` meets its contract: the flag says whether one of the numbers passed is beyond the limit.
use Rattle.std.specs.List.{list_any}
use Rattle.std.proofs.Common.{◌≡◌, ltb, nat_abs, take}
use Rattle.sample.specs.Refusal.{max_control}
use Rattle.sample.proofs.refusal.any_control_off.Given as goal

abbrev pub invariant-loop-x : goal.invariant-loop-x
invariant-loop-x l = l.off ≡ list_any (λ x. ltb max_control (nat_abs x)) (take l.x-index l.patch)
