-- `weights` meets its contract: the constants are the definitions' numbers, all of them computed.
use mathlib.Core.Path.{refl}
use Rattle.integer.specs.Nearest.{half_even, nearest_ℕ, nearest}
use Rattle.finite.specs.Filled.{list_below}
use Rattle.cosine.specs.Cosine.{cosines, cosine}
use Rattle.cosine.specs.Root.{root}
use Rattle.cosine.specs.Weight.{chain, multiple_cosine, hypotenuse, weight_by, weights_by}
use Rattle.cosine.proofs.weights.Goals as goal

pub returns : goal.returns
unfolding half_even nearest_ℕ nearest list_below cosines cosine root chain multiple_cosine hypotenuse weight_by weights_by
returns c = refl
