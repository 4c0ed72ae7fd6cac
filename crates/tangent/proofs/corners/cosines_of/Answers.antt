-- `cosines_of` meets its contract: each cosine is the only number that meets the rule of its entry.
use Rattle.std.proofs.Common.{pos, rules}
use Rattle.cosine.proofs.UniqueLaws.{entry-is}
use Rattle.tangent.proofs.SideLaws.{list-made}
use Rattle.tangent.proofs.corners.cosines_of.Goals as goal

pub returns : goal.returns
returns c =
    let made = c.from_fn.ensures.items in
    list-made _ _ (pos 0) made.long (λ k l. let call = (made.at k (pos 0) l).2.met in search (entry-is, rules))
