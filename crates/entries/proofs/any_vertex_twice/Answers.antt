-- `any_vertex_twice` meets its contract: it asks each corner of the whole faces whether another of its face has its vertex.
use Rattle.std.proofs.Common.{refl, ◌∙◌, rules, arith, ◌*◌, ◌/◌, length, ℕ}
use Rattle.std.proofs.lemmas.Iterator.{YieldsList-from_range}
use Rattle.std.proofs.lemmas.Iterator.Search.{any_from_yields_List}
use Rattle.finite.specs.Fold.{any_below}
use Rattle.finite.proofs.Lists.{any-range}
use Rattle.entries.specs.Entries.{vertex_again}
use Rattle.entries.proofs.any_vertex_twice.Goals as goal

pub returns : goal.returns
returns c =
    let n = 4 * (length c.args.faces.now / 4) in
    let test = λ (d : ℕ). any_below (vertex_again c.args.faces.now d) 3 in
    any_from_yields_List test _ _ c.any.result c.any.ensures.ran (YieldsList-from_range 0 n n refl (omega arith)) (λ x b q k. search rules)
    ∙ any-range test n
