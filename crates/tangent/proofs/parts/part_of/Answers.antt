-- `part_of` meets its contract: each part has its own call, with the twin of the side and the number of faces at the corner that it is near.
use Rattle.std.proofs.Common.{◌≡◌, ap, ◌∙◌, ℕ, arith, w64, ℤ, pos, ◌-ℤ◌, nat_abs, ◌≤◌, ◌^◌, to_z, of_z}
use mir.Facts.{to_z-of_z}
use Rattle.integer.proofs.Laws.{read_back}
use Rattle.control.specs.Control.{units, inner_at, edge_at, link_at}
use Rattle.control.specs.declared.model.Value.{Value}
use Rattle.tangent.specs.Told.{vector_at, part_told}
use Rattle.tangent.proofs.RingLaws.{vector-size}
use Rattle.tangent.proofs.MachineLaws.{negation, negation-fits}
use Rattle.tangent.proofs.parts.part_of.Goals.{After-corner_vector-in-AtEnd}
use Rattle.tangent.proofs.parts.part_of.Goals as goal

-- the units of a value that is known
told : {v w : Value} → v ≡ w → v.units ≡ w.units
told e = ap (λ (v : Value). v.units) e

-- ---- the corner vector at the end
module _ (c : After-corner_vector-in-AtEnd) where
  abbrev there : ℤ
  there = vector_at c.args.tables.values.now c.args.tables.twins.now c.args.m c.args.k (link_at c.args.tables.twins.now c.args.c)

  there-is : to_z w64 (of_z w64 c.corner_vector-in-AtEnd.result) ≡ there
  there-is =
      let at : ℕ → ℤ = vector_at c.args.tables.values.now c.args.tables.twins.now c.args.m c.args.k in
      read_back w64 c.corner_vector-in-AtEnd.type_inv (c.corner_vector-in-AtEnd.ensures ∙ ap at c.from-d.ensures)

  there-small : nat_abs there ≤ 2 ^ 35
  there-small =
      vector-size c.args.tables.small c.args.tables.twins.now c.args.m c.args.k (link_at c.args.tables.twins.now c.args.c) c.requires.1

-- ---- the answers, in the order of the code
pub overflow_sub-result : goal.overflow_sub-result
overflow_sub-result c =
    let e = (goal.at.overflow_sub-result c).After-corner_vector-in-AtEnd in
    rw (there-is e, negation (there e)) (negation-fits (there e) (omega (arith, there-small e)))

pub returns-in-AtStart : goal.returns-in-AtStart
unfolding part_told
returns-in-AtStart c = rw c.in-AtStart.is (read_back w64 c.corner_vector.type_inv c.corner_vector.ensures)

pub returns-in-AtEnd : goal.returns-in-AtEnd
unfolding part_told
returns-in-AtEnd c =
    let e = (goal.at.returns-in-AtEnd c).After-corner_vector-in-AtEnd in
    rw c.in-AtEnd.is
    (ap (λ (z : ℤ). to_z w64 (of_z w64 (pos 0 -ℤ z))) (there-is e)
    ∙ ap (λ (z : ℤ). to_z w64 (of_z w64 z)) (negation (there e))
    ∙ to_z-of_z (negation-fits (there e) (omega (arith, there-small e))))

pub returns-in-Near : goal.returns-in-Near
unfolding part_told
returns-in-Near c =
    let at : ℕ → ℤ = λ d. units (edge_at c.args.tables.values.now c.args.n c.args.k c.args.c d) in
    rw c.in-Near.is (read_back w64 (omega arith) (told c.edge.ensures ∙ ap at c.from-d.ensures))

pub returns-in-Far : goal.returns-in-Far
unfolding part_told
returns-in-Far c =
    let at : ℕ → ℤ = λ d. units (edge_at c.args.tables.values.now c.args.m c.args.k d c.args.c) in
    rw c.in-Far.is (read_back w64 (omega arith) (told c.edge-in-Far.ensures ∙ ap at c.from-d.ensures))

pub returns-in-InnerNear : goal.returns-in-InnerNear
unfolding part_told
returns-in-InnerNear c = rw c.in-InnerNear.is (read_back w64 (omega arith) (told c.inner.ensures))

pub returns-in-InnerFar : goal.returns-in-InnerFar
unfolding part_told
returns-in-InnerFar c =
    let at : ℕ → ℤ = λ d. units (inner_at c.args.tables.values.now c.args.m c.args.k d) in
    rw c.in-InnerFar.is (read_back w64 (omega arith) (told c.inner-in-InnerFar.ensures ∙ ap at c.next_corner.ensures))
