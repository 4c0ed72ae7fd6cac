-- `fill_rules` meets its contract: each rule is made of what the three lists have at the place of its vertex.
use Prim.Native.Nat.{◌<◌}
use native.Mathlib.Omega.{arith}
use lib.Dec.{eqb}
use lib.ListN.{length, get_or, length-take}
use Rattle.finite.proofs.FilledLaws.{filled-start, filled_more}
use Rattle.mask.proofs.RuleLaws.{rule-most}
use Rattle.patch.proofs.FillingLaws.{filled-lent}
use Rattle.patch.proofs.counts.VertexCounts.fill_rules.Goals as goal

pub loop-p-init : goal.loop-p-init
loop-p-init c = filled-start _ _

-- a rule is at most 16 more than a valence
pub overflow_cast-rule : goal.overflow_cast-rule
overflow_cast-rule c =
    let p = c.loop-p.p in
    let t = c.args.tags.now in
    let h = length-take (length t) c.args.rules.now in
    let b : p < length t = omega arith in
    rw (c.corner_rule.ensures, c.inside.ensures)
    (omega (
      arith,
      rule-most (eqb (get_or c.args.self.now.leaving p 0) 0) (get_or t p 0) (get_or c.args.self.now.valences p 0),
      c.requires.few p b,
    ))

pub loop-p-preserved : goal.loop-p-preserved
loop-p-preserved c = filled_more _ _ _ _ _ c.loop-p-test.true c.loop-p.invariant (cc (c.corner_rule.ensures, c.inside.ensures))

pub returns : goal.returns
returns c =
    let h = length-take (length c.args.tags.now) c.args.rules.now in
    filled-lent _ _ c.loop-p.p _ _ c.requires.room (omega arith) c.loop-p.invariant
