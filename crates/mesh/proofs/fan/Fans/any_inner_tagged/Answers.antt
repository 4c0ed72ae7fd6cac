-- `any_inner_tagged` meets its contract: it asks each vertex whether its tag is a fault.
use mathlib.Core.Path.{refl, ◌∙◌}
use mathlib.Core.Bool.{not, ◌&&◌}
use Prim.Native.Nat.{ℕ}
use native.Mathlib.Omega.{arith}
use lib.Dec.{eqb}
use lib.ListN.{length, get_or}
use borrow.Author.Rules.{rules}
use Rattle.std.proofs.lemmas.Iterator.{YieldsList-from_range}
use Rattle.std.proofs.lemmas.Iterator.Search.{any_from_yields_List}
use Rattle.limits.specs.Limits.{corner_tag}
use Rattle.mesh.specs.Fan.{on_boundary}
use Rattle.mesh.specs.Tables.{vertex_of}
use Rattle.finite.proofs.Lists.{any-range}
use Rattle.mesh.proofs.fan.Fans.any_inner_tagged.Goals as goal

pub returns : goal.returns
returns c =
    let t = c.args.self.twins in
    let test = λ (p : ℕ). eqb (get_or c.args.tags.now p 0) corner_tag && not (on_boundary (vertex_of t.faces.now) (length t.faces.now) p) in
    any_from_yields_List test _ _ c.any.result c.any.ensures.ran (YieldsList-from_range 0 c.args.v c.args.v refl (omega arith)) (λ x b q k. search rules)
    ∙ any-range test c.args.v
