-- `number` meets its contract: the table is that of the definition, and what is reversed is small.
use Rattle.std.proofs.Common.{◌≡◌, refl, sym, ap, ◌∙◌, ◌/◌, ◌%◌, ◌<◌, arith, w64, ℤ, pos, neg_ℤ, ◌-ℤ◌, to_z, of_z}
use mir.Facts.{to_z-of_z}
use Rattle.integer.proofs.Laws.{read_back}
use Rattle.tangent.specs.Tangent.{along_side, against_side, row_of}
use Rattle.tangent.specs.Lists.{vector_kind_of, vector_of, number_from_parts}
use Rattle.tangent.specs.declared.side.Side.{Side}
use Rattle.tangent.proofs.MachineLaws.{negation, negation-fits}
use Rattle.tangent.proofs.SideLaws.{side-sized}
use Rattle.tangent.proofs.TableLaws.{row_for, row-is, row-side-below}
use Rattle.tangent.proofs.writer.FaceSource.number.Goals.{In-Along, In-Against}
use Rattle.tangent.proofs.writer.FaceSource.number.Goals as goal

-- ---- the row, in both its forms
module _ (c : In-Along) where
  along : row_of (c.args.i / 3) ≡ along_side c.in-Along.s (vector_kind_of c.in-Along.kind)
  along = sym (row-is _ (c.args.i / 3) (omega (arith, c.requires))) ∙ ap row_for c.in-Along.is

  along-below : c.in-Along.s < 4
  along-below = rw along at (row-side-below (c.args.i / 3) (omega (arith, c.requires)))

module _ (c : In-Against) where
  against : row_of (c.args.i / 3) ≡ against_side c.in-Against.s (vector_kind_of c.in-Against.kind)
  against = sym (row-is _ (c.args.i / 3) (omega (arith, c.requires))) ∙ ap row_for c.in-Against.is

  against-below : c.in-Against.s < 4
  against-below = rw against at (row-side-below (c.args.i / 3) (omega (arith, c.requires)))

-- ---- the answers, in the order of the code
pub side-requires : goal.side-requires
side-requires c = (along-below (goal.at.side-requires c).In-Along, omega arith)

pub vector-requires : goal.vector-requires
vector-requires c =
    rw c.side.ensures (side-sized c.args.self.known c.in-Along.s (c.args.i % 3) (along-below (goal.at.vector-requires c).In-Along) (omega arith))

pub side-requires-in-Against : goal.side-requires-in-Against
side-requires-in-Against c = (against-below (goal.at.side-requires-in-Against c).In-Against, omega arith)

pub vector-requires-in-Against : goal.vector-requires-in-Against
vector-requires-in-Against c =
    rw c.side-in-Against.ensures
    (side-sized c.args.self.known c.in-Against.s (c.args.i % 3) (against-below (goal.at.vector-requires-in-Against c).In-Against) (omega arith))

pub returns-in-Along : goal.returns-in-Along
unfolding number_from_parts
returns-in-Along c =
    rw (along (goal.at.returns-in-Along c).In-Along)
    (read_back w64 c.vector.type_inv
    (c.vector.ensures.0 ∙ ap (λ (a : Side). vector_of a (vector_kind_of c.in-Along.kind)) c.side.ensures))

pub returns-in-Against : goal.returns-in-Against
unfolding number_from_parts
returns-in-Against c =
    let z = c.vector-in-Against.result in
    rw (against (goal.at.returns-in-Against c).In-Against)
    (ap (λ (y : ℤ). to_z w64 (of_z w64 (pos 0 -ℤ y))) (read_back w64 {r = z} c.vector-in-Against.type_inv refl)
    ∙ ap (λ (y : ℤ). to_z w64 (of_z w64 y)) (negation z)
    ∙ to_z-of_z (negation-fits z (omega (arith, c.vector-in-Against.ensures.1)))
    ∙ ap neg_ℤ (c.vector-in-Against.ensures.0 ∙ ap (λ (a : Side). vector_of a (vector_kind_of c.in-Against.kind)) c.side-in-Against.ensures))
