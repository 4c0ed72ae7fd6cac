-- A bool as a number, as the library's `From` gives it.
use Rattle.std.specs.Prelude.{◌≡◌, Bool, true, false, refl}
use mir.Val.{bool_byte}
use Rattle.finite.specs.Fold.{indicator}

pub byte-indicator : (b : Bool) → bool_byte b ≡ indicator b
byte-indicator true = refl
byte-indicator false = refl
