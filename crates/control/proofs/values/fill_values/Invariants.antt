-- `fill_values` meets its contract: after c turns the places of the first c corners hold their values.
use mathlib.Core.Path.{◌≡◌}
use Prim.Native.Nat.{◌*◌, ◌-◌, ◌≤◌}
use lib.ListN.{length}
use Rattle.finite.specs.Filled.{filled}
use Rattle.control.specs.Control.{corner_value}
use Rattle.control.proofs.values.fill_values.Given as goal

abbrev pub invariant-loop-c : goal.invariant-loop-c
invariant-loop-c l =
    (l.c ≤ l.n) × (length l.values ≡ length l.initial.values) × (l.values ≡ filled (corner_value l.positions l.faces) (4 * l.c) l.initial.values)

abbrev pub decreases-loop-c : goal.decreases-loop-c
decreases-loop-c l = l.n - l.c
