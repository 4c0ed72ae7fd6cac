-- A value that a test chooses, by the two cases of the test.
use mathlib.Core.Bool.{Bool, true, false, not, cond}
use lib.Dec.{T}

pub cond_cases : {A : Type 0} (c : Bool) (x y : A) (Q : A → Type 0) → (T c → Q x) → (T (not c) → Q y) → Q (cond c x y)
cond_cases true x y Q f g = f tt
cond_cases false x y Q f g = g tt
