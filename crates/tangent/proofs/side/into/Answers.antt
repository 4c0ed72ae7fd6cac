-- `into` meets its contract: the cosine term and the difference of the formula are handed on, each with its size.
use mathlib.Core.Path.{◌≡◌, refl, ap₂, ◌∙◌}
use lib.IntN.{pos, ◌-ℤ◌, ◌*ℤ◌}
use mir.Syntax.{w64}
use mir.Val.{to_z, of_z}
use mir.Facts.{to_z-of_z}
use Rattle.integer.proofs.Laws.{read_back}
use Rattle.tangent.specs.Vector.{corrected, first_term}
use Rattle.tangent.proofs.side.into.Goals.{After-cosine_term-term, After-triple_difference}
use Rattle.tangent.proofs.side.into.Goals as goal

-- ---- the vector along the side is known
along-is : (c : After-triple_difference) → to_z w64 (of_z w64 c.triple_difference.result) ≡ pos 3 *ℤ (c.args.far -ℤ c.args.near)
along-is c = read_back w64 c.triple_difference.type_inv (rw (to_z-of_z c.ranges.far, to_z-of_z c.ranges.near) at c.triple_difference.ensures.0)

-- ---- the cosine term is known
module _ (c : After-cosine_term-term) where
  along : to_z w64 (of_z w64 c.triple_difference.result) ≡ pos 3 *ℤ (c.args.far -ℤ c.args.near)
  along = along-is (goal.at.After-cosine_term-term c).After-triple_difference

  term_is : to_z w64 (of_z w64 c.cosine_term-term.result) ≡ first_term c.args.k0 c.args.k1 c.args.u0 (pos 3 *ℤ (c.args.far -ℤ c.args.near))
  term_is =
      read_back w64 c.cosine_term-term.type_inv
      (rw (to_z-of_z c.ranges.k0, to_z-of_z c.ranges.k1, to_z-of_z c.ranges.u0, along) at c.cosine_term-term.ensures.0)

pub returns : goal.returns
returns c =
    let t = (goal.at.returns c).After-cosine_term-term in
    let x-is =
    read_back w64 c.triple_difference-2.type_inv (rw (to_z-of_z c.ranges.inner, to_z-of_z c.ranges.near) at c.triple_difference-2.ensures.0) in (
      read_back w64 c.corrected.type_inv (c.corrected.ensures.0 ∙ ap₂ corrected (term_is t) x-is),
      rw (read_back w64 c.corrected.type_inv refl) c.corrected.ensures.1,
    )
