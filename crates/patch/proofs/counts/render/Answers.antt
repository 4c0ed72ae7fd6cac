-- `render` meets its contract: the counts of each vertex and its tag make its rule, the counts the weight of each of its corners, and the twins the far
-- ends of sharp edges.
use Rattle.patch.proofs.RuledLaws.{rendered-rules, rendered-weights, rendered-ends}
use Rattle.patch.proofs.counts.render.Goals as goal

pub returns : goal.returns
returns c =
    let k = c.count_faces-counts in
    record {
      rules-are = rendered-rules c.requires.source k.result.valences k.result.leaving c.args.rules.now c.fill_rules.new.rules k.ensures c.fill_rules.ensures;
      weights-are = rendered-weights c.requires.source c.args.weights.now c.fill_weights.new.weights c.fill_weights.ensures;
      ends-are = rendered-ends c.requires.source c.args.ends.now c.fill_ends.new.ends c.fill_ends.ensures;
    }
