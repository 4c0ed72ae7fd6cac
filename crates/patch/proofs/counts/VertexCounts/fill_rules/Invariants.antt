-- `fill_rules` meets its contract: each rule is made of what the three lists have at the place of its vertex.
use mathlib.Core.Path.{◌≡◌}
use Rattle.finite.specs.Filled.{filled}
use Rattle.patch.specs.PatchTables.{rule_by}
use Rattle.patch.proofs.counts.VertexCounts.fill_rules.Given as goal

abbrev pub invariant-loop-p : goal.invariant-loop-p
invariant-loop-p l = l.rule-items ≡ filled (rule_by l.tags l.self.valences l.self.leaving) l.p l.initial.rule-items
