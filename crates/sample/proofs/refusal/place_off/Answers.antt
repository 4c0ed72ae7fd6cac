-- `place_off` meets its contract: it is the definition, one test after the other.
use mathlib.Core.Path.{refl}
use Rattle.sample.specs.Refusal.{place_off}
use Rattle.sample.proofs.refusal.place_off.Goals as goal

pub returns : goal.returns
unfolding place_off
returns c = refl
