-- `any_valence_off` meets its contract: it asks each vertex whether its valence is off its range.
use mathlib.Core.Path.{refl, ◌∙◌}
use Prim.Native.Nat.{ℕ}
use lib.ListN.{length}
use native.Mathlib.Omega.{arith}
use borrow.Author.Rules.{rules}
use Rattle.std.proofs.lemmas.Iterator.{YieldsList-from_range}
use Rattle.std.proofs.lemmas.Iterator.Search.{any_from_yields_List}
use Rattle.limits.specs.Range.{valence_bad}
use Rattle.mesh.specs.Fan.{valence, on_boundary}
use Rattle.mesh.specs.Tables.{vertex_of}
use Rattle.mesh.specs.Refusal.{valence_off}
use Rattle.finite.proofs.Lists.{any-range}
use Rattle.mesh.proofs.fan.Fans.any_valence_off.Goals as goal

pub returns : goal.returns
unfolding valence_off
returns c =
    let t = c.args.self.twins in
    let test = λ (p : ℕ). valence_bad (on_boundary (vertex_of t.faces.now) (length t.faces.now) p) (valence (vertex_of t.faces.now) (length t.faces.now) p) in
    any_from_yields_List test _ _ c.any.result c.any.ensures.ran (YieldsList-from_range 0 c.args.v c.args.v refl (omega arith)) (λ x b q k. search rules)
    ∙ any-range test c.args.v
