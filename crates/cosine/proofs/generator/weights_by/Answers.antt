-- `weights_by` meets its contract: each place was made by one call.
use Rattle.std.proofs.Common.{pos, rules}
use Rattle.cosine.proofs.WeightLaws.{made-is}
use Rattle.cosine.proofs.generator.weights_by.Goals as goal

pub returns : goal.returns
returns g c =
    let a = c.from_fn.ensures.items in
    made-is g.R.Rule.numerator c.from_fn.result a.long (λ k l. let b = (a.at k (pos 0) l).2.met in search rules)
