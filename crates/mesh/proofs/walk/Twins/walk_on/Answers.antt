-- `walk_on` meets its contract: the corners met are different, and the walk stops back at its start or where no corner comes next.
use Rattle.mesh.proofs.ConnectedLaws.{corners-whole, twins-paired}
use Rattle.mesh.proofs.WalkLaws.{onward-start, onward-in, onward-more, onward-less, onward-closed, onward-open}
use Rattle.mesh.proofs.walk.Twins.walk_on.Goals.{Start}
use Rattle.mesh.proofs.walk.Twins.walk_on.Goals as goal

pub loop-on-init : goal.loop-on-init
loop-on-init c = let t = c.args.self.twinned in onward-start (corners-whole t) (twins-paired t) _ c.requires _ c.around-on.ensures

pub returns-then-c-start : goal.returns-then-c-start
returns-then-c-start c =
    let t = c.args.self.twinned in
    onward-closed (corners-whole t) (twins-paired t) _ c.requires _ _ _ c.loop-on.invariant c.in-Some.is c.if-c-start.true

pub around-on-requires-in-Some : goal.around-on-requires-in-Some
around-on-requires-in-Some c =
    let t = c.args.self.twinned in
    onward-in (corners-whole t) (twins-paired t) _ c.requires _ _ _ c.loop-on.invariant c.in-Some.is

pub loop-on-smaller : goal.loop-on-smaller
loop-on-smaller c =
    let t = c.args.self.twinned in
    onward-less (corners-whole t) (twins-paired t) _ c.requires _ _ _ c.loop-on.invariant c.in-Some.is c.if-c-start.false

pub loop-on-preserved : goal.loop-on-preserved
loop-on-preserved c =
    let t = c.args.self.twinned in
    onward-more (corners-whole t) (twins-paired t) _ c.requires _ _ _ c.loop-on.invariant c.in-Some.is _ c.if-c-start.false c.around-on-in-Some.ensures

pub returns : goal.returns
returns c =
    let t = c.args.self.twinned in
    onward-open (corners-whole t) (twins-paired t) _ c.requires _ _ c.loop-on.invariant c.in_default.is
