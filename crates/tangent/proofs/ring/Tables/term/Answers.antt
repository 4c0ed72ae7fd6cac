-- `term` meets its contract: weights of at most 2^22 and coordinates within their range make two products of at most 2^42 in size.
use Rattle.std.proofs.Common.{◌≡◌, refl, ap, ap₂, ◌∙◌, ◌^◌, arith, ℕ, w32, ℤ, ◌+ℤ◌, ◌*ℤ◌}
use Rattle.limits.specs.Limits.{max_coordinate}
use Rattle.integer.proofs.Laws.{read_back}
use Rattle.corner.specs.Corner.{next, across}
use Rattle.cosine.specs.Weight.{edge_weight, face_weight}
use Rattle.cosine.proofs.WeightSize.{edge-weight-size, face-weight-size}
use Rattle.control.specs.Control.{value_at}
use Rattle.tangent.proofs.MachineLaws.{Term, wide, ◌⊠◌, ◌⊞◌, Ranged, size, result, fits}
use Rattle.tangent.proofs.RingLaws.{value-small}
use Rattle.tangent.proofs.ring.Tables.term.Goals.{After-from-4}
use Rattle.tangent.proofs.ring.Tables.term.Goals as goal

-- ---- the weights and the coordinates are known
module _ (c : After-from-4) where
  abbrev at : ℕ → ℤ
  at = value_at c.args.self.values.now c.args.k

  edge-is : c.from.result ≡ edge_weight c.args.n c.args.i
  edge-is = c.from.ensures ∙ read_back w32 c.edge_weight.type_inv c.edge_weight.ensures

  face-is : c.from-3.result ≡ face_weight c.args.n c.args.i
  face-is = c.from-3.ensures ∙ read_back w32 c.face_weight.type_inv c.face_weight.ensures

  far-is : c.from-2.result ≡ at (next c.args.e)
  far-is = c.from-2.ensures ∙ read_back w32 c.vertex-far.type_inv c.vertex-far.ensures ∙ ap at c.next_corner.ensures

  across-is : c.from-4.result ≡ at (across c.args.e)
  across-is = c.from-4.ensures ∙ read_back w32 c.vertex-across.type_inv c.vertex-across.ensures ∙ ap at c.across_corner.ensures

  abbrev sum : Term
  sum = wide c.from.result (2 ^ 22) ⊠ wide c.from-2.result max_coordinate ⊞ wide c.from-3.result (2 ^ 22) ⊠ wide c.from-4.result max_coordinate

  ranged : Ranged sum
  ranged =
      let small = value-small c.args.self.small c.args.k in (
        (rw edge-is (edge-weight-size c.args.n c.args.i), rw far-is (small (next c.args.e))),
        (rw face-is (face-weight-size c.args.n c.args.i), rw across-is (small (across c.args.e))),
      )

pub overflow_add-result : goal.overflow_add-result
overflow_add-result w = fits (sum w) (ranged w) refl

pub returns : goal.returns
returns w =
    let is = result (sum w) (ranged w) refl in (
      is ∙ ap₂ ◌+ℤ◌ (ap₂ ◌*ℤ◌ (edge-is w) (far-is w)) (ap₂ ◌*ℤ◌ (face-is w) (across-is w)),
      rw is (omega (arith, size (sum w) (ranged w))),
    )
