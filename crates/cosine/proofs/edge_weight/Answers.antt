-- `edge_weight` meets its contract: the constants are the definition's numbers, all of them computed.
use mathlib.Core.Path.{refl}
use mir.Syntax.{w32}
use Rattle.integer.specs.Nearest.{half_even, nearest_ℕ, nearest}
use Rattle.integer.proofs.Laws.{read_back}
use Rattle.finite.specs.Filled.{list_below}
use Rattle.cosine.specs.Cosine.{cosines, cosine}
use Rattle.cosine.specs.Root.{root}
use Rattle.cosine.specs.Weight.{chain, multiple_cosine, hypotenuse, edge_numerator, weight_by, weights_by}
use Rattle.cosine.proofs.WeightLaws.{listed-is}
use Rattle.cosine.proofs.edge_weight.Goals as goal

pub returns : goal.returns
unfolding half_even nearest_ℕ nearest list_below cosines cosine root chain multiple_cosine hypotenuse weight_by weights_by
returns c = read_back w32 c.entry.type_inv (listed-is edge_numerator c.args.n c.args.i _ _ refl c.entry.ensures)
