-- `multiple_cosine` meets its contract: of i and m - i it takes the smaller place.
use Rattle.std.proofs.Common.{◌∙◌, ap, w64}
use Rattle.integer.proofs.Laws.{read_back}
use Rattle.cosine.specs.Cosine.{cosine}
use Rattle.cosine.specs.Weight.{chain, multiple_cosine}
use Rattle.cosine.proofs.generator.multiple_cosine.Goals as goal

pub returns : goal.returns
unfolding multiple_cosine
returns c = read_back w64 c.chained.type_inv (c.chained.ensures ∙ ap (chain (cosine c.args.m)) c.min.ensures)
