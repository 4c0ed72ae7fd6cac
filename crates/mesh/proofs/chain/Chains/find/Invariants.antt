-- `find` meets its contract: the chain passes every corner of p from the last on, so the first half-edge to q that it meets is the last of all.
use Rattle.mesh.proofs.ChainLaws.{Walked, past}
use Rattle.mesh.specs.Tables.{vertex_of}
use Rattle.mesh.proofs.chain.Chains.find.Given as goal

abbrev pub invariant-loop-at : goal.invariant-loop-at
invariant-loop-at l = Walked (vertex_of l.self.faces.now) l.p l.q l.self.n l.at

abbrev pub decreases-loop-at : goal.decreases-loop-at
decreases-loop-at l = past l.at
