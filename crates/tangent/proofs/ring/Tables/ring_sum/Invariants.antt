-- `ring_sum` meets its contract: after i turns e is i steps about the vertex from c, and the sum has the terms passed.
use Rattle.std.proofs.Common.{◌≡◌, List, ℕ, ◌≤◌, ℤ}
use Rattle.finite.specs.Fold.{sum_below_ℤ}
use Rattle.tangent.specs.Told.{turned_at, term_at}
use Rattle.tangent.proofs.ring.Tables.ring_sum.Given as goal

-- after i turns: e is the corner that they lead to, and the sum has the terms below i
pub record Passed (values : List ℤ) (twins : List ℕ) (n k c e : ℕ) (sum : ℤ) (i : ℕ) : Type 0 where
  pub most : i ≤ n
  pub here : e ≡ turned_at twins c i
  pub sums : sum ≡ sum_below_ℤ (term_at values twins n k c) i

abbrev pub invariant-loop-i : goal.invariant-loop-i
invariant-loop-i l = Passed l.self.values.now l.self.twins.now l.n l.k l.c l.e l.sum l.i
