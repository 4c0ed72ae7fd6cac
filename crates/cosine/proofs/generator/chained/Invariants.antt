-- `chained` meets its contract: after so many turns a and b are that number of the recurrence and the next one.
use Rattle.std.proofs.Common.{◌≡◌, ◌+◌, ◌≤◌}
use Rattle.cosine.specs.Cosine.{cosine}
use Rattle.cosine.specs.Weight.{chain}
use Rattle.cosine.proofs.generator.chained.Given as goal

abbrev pub invariant-loop : goal.invariant-loop
invariant-loop l = (l.counter ≤ l.j) × (l.a ≡ chain (cosine l.m) l.counter) × (l.b ≡ chain (cosine l.m) (l.counter + 1))
