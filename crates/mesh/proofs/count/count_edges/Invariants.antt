-- `count_edges` meets its contract: the count is that of the half-edges passed.
use mathlib.Core.Bool.{Bool}
use mathlib.Core.List.{List}
use mathlib.Core.Path.{◌≡◌}
use Prim.Native.Nat.{ℕ}
use lib.Dec.{ltb}
use Rattle.finite.specs.Fold.{count_below}
use Rattle.mesh.specs.Tables.{twin_of}
use Rattle.mesh.proofs.count.count_edges.Given as goal

-- half-edge d comes before its twin
abbrev pub leads : List ℕ → ℕ → Bool
leads twins d = ltb d (twin_of twins d)

abbrev pub invariant-loop-c : goal.invariant-loop-c
invariant-loop-c l = l.count ≡ count_below (leads l.twins) l.c
