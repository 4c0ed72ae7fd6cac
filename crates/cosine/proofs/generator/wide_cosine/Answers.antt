-- `wide_cosine` meets its contract: the number that meets the rule is the definition's.
use Rattle.std.proofs.Common.{◌∙◌, w32, w64}
use Rattle.integer.proofs.Laws.{read_back}
use Rattle.cosine.proofs.UniqueLaws.{entry-is}
use Rattle.cosine.proofs.generator.wide_cosine.Goals as goal

pub returns : goal.returns
returns c =
    read_back w64 c.from.type_inv (c.from.ensures ∙ read_back w32 c.cosine.type_inv (entry-is c.args.m c.cosine.result c.cosine.ensures))
