-- `walk_back` meets its contract: the corners met grow by the one before the first of them until there is none, so they are one chain.
use Rattle.mesh.proofs.ConnectedLaws.{corners-whole, twins-paired}
use Rattle.mesh.proofs.WalkLaws.{backward-start, backward-in, backward-more, backward-less, backward-end}
use Rattle.mesh.proofs.walk.Twins.walk_back.Goals as goal

pub loop-back-init : goal.loop-back-init
loop-back-init c =
    let t = c.args.self.twinned in
    backward-start (corners-whole t) (twins-paired t) _ c.requires.inside _ _ c.requires.run c.back_around-back.ensures

pub back_around-back-requires-in-Some : goal.back_around-back-requires-in-Some
back_around-back-requires-in-Some c =
    let t = c.args.self.twinned in
    backward-in (corners-whole t) (twins-paired t) _ c.requires.inside _ _ _ c.loop-back.invariant c.in-Some.is

pub loop-back-smaller : goal.loop-back-smaller
loop-back-smaller c =
    let t = c.args.self.twinned in
    backward-less (corners-whole t) (twins-paired t) _ c.requires.inside _ _ _ c.loop-back.invariant c.in-Some.is

pub loop-back-preserved : goal.loop-back-preserved
loop-back-preserved c =
    let t = c.args.self.twinned in
    backward-more (corners-whole t) (twins-paired t) _ c.requires.inside _ _ _ c.loop-back.invariant c.in-Some.is _ c.back_around-back-in-Some.ensures

pub returns : goal.returns
returns c =
    let t = c.args.self.twinned in
    backward-end (corners-whole t) (twins-paired t) _ c.requires.inside _ _ c.loop-back.invariant c.in_default.is
