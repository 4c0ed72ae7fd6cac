-- What a walk about a vertex tells, for the contracts of private functions.
--
--   corner_of x        the corner of number x, and none for `no_twin`
--   WalkedOn s n start w   the walk w by the steps s is the one on from start: back at start, or where no corner comes next
use Rattle.std.specs.Prelude.{cond, ℕ, eqb, Option, None, Some}
use Rattle.limits.specs.Limits.{no_twin}
use Rattle.mesh.specs.declared.walk.Walk.{Walk}
use Rattle.mesh.specs.declared.walk.Walk.TheVariants.{Closed, Open}
use Rattle.mesh.specs.Circulation.{Run}

unfoldable pub corner_of : ℕ → Option ℕ
corner_of x = cond (eqb x no_twin) None (Some x)

abbrev pub WalkedOn : (ℕ → ℕ) → ℕ → ℕ → Walk → Type 0
WalkedOn s n start (Closed met) = Run s n start met start
WalkedOn s n start (Open met) = Run s n start met no_twin
