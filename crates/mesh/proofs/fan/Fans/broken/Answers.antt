-- `broken` meets its contract: the corners form a fan exactly when circulating from one of them meets as many as the vertex has.
use mathlib.Core.Path.{◌≡◌, sym, ap, ◌∙◌}
use mathlib.Core.Bool.{not}
use Prim.Native.Nat.{◌<◌}
use lib.ListN.{length}
use lib.Dec.{eqb}
use Rattle.mesh.specs.Tables.{vertex_of}
use Rattle.mesh.proofs.ChainLaws.{latest-corner, no-fan}
use Rattle.mesh.proofs.ConnectedLaws.{fan-told}
use Rattle.mesh.proofs.fan.Fans.broken.Goals.{In-Some}
use Rattle.mesh.proofs.fan.Fans.broken.Goals as goal

-- ---- a corner at p
here : (c : In-Some) → (c.in-Some.start < length c.args.self.twins.faces.now) × (vertex_of c.args.self.twins.faces.now c.in-Some.start ≡ c.args.p)
here c = latest-corner _ _ c.args.p _ (sym c.in-Some.is ∙ c.corner_in.ensures ∙ c.args.self.headed.heads-are c.args.p c.requires)

pub circulate-met-requires : goal.circulate-met-requires
circulate-met-requires c = rw c.from.ensures (here (goal.at.circulate-met-requires c).In-Some).0

pub returns-in-Some : goal.returns-in-Some
returns-in-Some c =
    let s = c.args.self in
    let valence-is = c.from-in-Some.ensures ∙ s.counted.are c.args.p c.requires in
    let at = ap (vertex_of s.twins.faces.now) c.from.ensures ∙ (here (goal.at.returns-in-Some c).In-Some).1 in
    ap not (ap (eqb c.circulate-met.result) valence-is ∙ fan-told s.twins.twinned _ c.args.p at c.circulate-met.result c.circulate-met.ensures)

pub returns-in-None : goal.returns-in-None
returns-in-None c = no-fan _ _ c.args.p (sym c.in-None.is ∙ c.corner_in.ensures ∙ c.args.self.headed.heads-are c.args.p c.requires)
