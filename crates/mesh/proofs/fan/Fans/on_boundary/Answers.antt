-- `on_boundary` meets its contract: where the corners at p form a fan, p is on the boundary exactly when the walk on from one of them does not come
-- back to it.
use mathlib.Core.Path.{◌≡◌, sym, ap, ◌∙◌}
use mathlib.Core.Bool.{true, false}
use Prim.Native.Nat.{◌<◌}
use lib.ListN.{length}
use Rattle.mesh.specs.Tables.{vertex_of}
use Rattle.mesh.proofs.ChainLaws.{latest-corner, no-boundary}
use Rattle.mesh.proofs.ConnectedLaws.{boundary-told}
use Rattle.mesh.proofs.fan.Fans.on_boundary.Goals.{In-Some}
use Rattle.mesh.proofs.fan.Fans.on_boundary.Goals as goal

-- ---- a corner at p
here : (c : In-Some) → (c.in-Some.start < length c.args.self.twins.faces.now) × (vertex_of c.args.self.twins.faces.now c.in-Some.start ≡ c.args.p)
here c = latest-corner _ _ c.args.p _ (sym c.in-Some.is ∙ c.corner_in.ensures ∙ c.args.self.headed.heads-are c.args.p c.requires.0)

pub walk_on-requires : goal.walk_on-requires
walk_on-requires c = rw c.from.ensures (here (goal.at.walk_on-requires c).In-Some).0

pub returns-in-Open : goal.returns-in-Open
returns-in-Open c =
    let at = ap (vertex_of c.args.self.twins.faces.now) c.from.ensures ∙ (here (goal.at.returns-in-Open c).In-Some).1 in
    boundary-told c.args.self.twins.twinned _ c.args.p at _ false c.in-Open.ensures c.requires.1

pub returns-in_default : goal.returns-in_default
returns-in_default c =
    let at = ap (vertex_of c.args.self.twins.faces.now) c.from.ensures ∙ (here (goal.at.returns-in_default c).In-Some).1 in
    boundary-told c.args.self.twins.twinned _ c.args.p at _ true c.in_default.ensures c.requires.1

pub returns-in-None : goal.returns-in-None
returns-in-None c = no-boundary _ _ c.args.p (sym c.in-None.is ∙ c.corner_in.ensures ∙ c.args.self.headed.heads-are c.args.p c.requires.0)
