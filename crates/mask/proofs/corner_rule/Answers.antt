-- `corner_rule` meets its contract: it is the definition, one test after the other.
use Rattle.std.proofs.Common.{◌≡◌, sym, ◌||◌, eqb, true, arith}
use Rattle.limits.specs.Limits.{corner_tag}
use borrow.Author.Tests.{eq-eqb, ne_eqb}
use Rattle.finite.proofs.AnyAll.{or_yes}
use Rattle.mask.specs.Mask.{corner_rule}
use Rattle.mask.proofs.corner_rule.Goals.{then-tag-eq-CORNER_TAG-via-then-tag-eq-CORNER_TAG, then-tag-eq-CORNER_TAG-via-else-tag-eq-CORNER_TAG+then-faces-eq1}
use Rattle.mask.proofs.corner_rule.Goals as goal

pub returns-then-inside : goal.returns-then-inside
unfolding corner_rule
returns-then-inside c = rw c.if-inside.true (grind arith)

pub returns-then-tag-eq-CORNER_TAG : goal.returns-then-tag-eq-CORNER_TAG
unfolding corner_rule
returns-then-tag-eq-CORNER_TAG c =
    let fixed : (eqb c.args.tag corner_tag || eqb c.args.faces 1) ≡ true =
    elim c.then-tag-eq-CORNER_TAG.branch [
      | then-tag-eq-CORNER_TAG-via-then-tag-eq-CORNER_TAG w ↦ sym (or_yes _ _ (eq-eqb _ _ w.if-tag-eq-CORNER_TAG.true))
      | then-tag-eq-CORNER_TAG-via-else-tag-eq-CORNER_TAG+then-faces-eq1 w ↦
          rw (ne_eqb _ _ w.if-tag-eq-CORNER_TAG.false) (eq-eqb _ _ w.if-faces-eq1.true)
    ] in
    rw (c.if-inside.false, fixed) c.from-then-tag-eq-CORNER_TAG.ensures

pub returns : goal.returns
unfolding corner_rule
returns c = rw (c.if-inside.false, ne_eqb _ _ c.if-tag-eq-CORNER_TAG.false, ne_eqb _ _ c.if-faces-eq1.false)
