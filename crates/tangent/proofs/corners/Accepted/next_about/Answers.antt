-- `next_about` meets its contract: the twin of the half-edge before c, or none.
use Rattle.std.proofs.Common.{ap, ◌∙◌, Some}
use Rattle.control.specs.Control.{link_at}
use Rattle.mesh.proofs.WalkLaws.{corner-none, corner-some}
use Rattle.tangent.proofs.corners.Accepted.next_about.Goals as goal

pub returns-then-d : goal.returns-then-d
returns-then-d c = corner-none _ (rw c.prev_corner.ensures at c.if-d.true)

pub returns : goal.returns
returns c =
    let here = ap (link_at c.args.self.twins.now) c.prev_corner.ensures in
    ap Some (c.from.ensures ∙ here) ∙ corner-some _ (λ e. c.if-d.false (here ∙ e))
