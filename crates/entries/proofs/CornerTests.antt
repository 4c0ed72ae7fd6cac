-- A test of three corners, as one after the other.
use mathlib.Core.Path.{◌≡◌}
use mathlib.Core.Bool.{Bool, ◌||◌, or_assoc}
use Prim.Native.Nat.{ℕ}
use Rattle.finite.specs.Fold.{fold_below, any_below}

pub any-of-three : (p : ℕ → Bool) → any_below p 3 ≡ (p 0 || (p 1 || p 2))
unfolding fold_below
any-of-three p = or_assoc (p 0) (p 1) (p 2)
