-- `vector` meets its contract: each kind of vector has its own way, and the numbers of the side fit their bits.
use mathlib.Core.Path.{◌≡◌, refl, ap, ap₂, ◌∙◌}
use native.Mathlib.Omega.{arith}
use lib.IntN.{ℤ, pos, neg_ℤ, ◌-ℤ◌, ◌*ℤ◌}
use mir.Syntax.{w64}
use mir.Val.{to_z, of_z}
use mir.Facts.{to_z-of_z}
use Rattle.integer.proofs.Difference.{int, ~, prove-eq}
use Rattle.integer.proofs.Laws.{read_back}
use Rattle.tangent.specs.Vector.{first_term, second_term, corrected}
use Rattle.tangent.specs.Lists.{vector_of}
use Rattle.tangent.proofs.DocumentLaws.{triple-difference-back, first_back}
use Rattle.tangent.proofs.MachineLaws.{negation, negation-fits}
use Rattle.tangent.proofs.SideLaws.{Fitting, fitting}
use Rattle.tangent.proofs.side.vector.Goals.{Start}
use Rattle.tangent.proofs.side.vector.Goals as goal

-- ---- at the start: the numbers of the side fit
whole : (s : Start) → Fitting s.args.a
whole s =
    fitting s.args.a (omega (arith, s.well_formed)) (omega (arith, s.well_formed)) (omega (arith, s.well_formed)) (omega (arith, s.well_formed))
    (omega (arith, s.well_formed)) (omega (arith, s.well_formed)) (omega (arith, s.well_formed)) (omega (arith, s.well_formed))

-- ---- from its other end, the first formula gives the second
from-the-end : (k0 k1 near far end : ℤ)
    → first_term k1 k0 (neg_ℤ end) (pos 3 *ℤ (near -ℤ far)) ≡ second_term k0 k1 (pos 3 *ℤ (far -ℤ near)) end
from-the-end k0 k1 near far end =
    first_back k1 k0 (neg_ℤ end) (pos 3 *ℤ (near -ℤ far))
    ∙ ap₂ (second_term k0 k1) (triple-difference-back near far) (prove-eq (~ (~ (int end))) (int end) (omega arith))

-- ---- the answers, in the order of the code
pub triple_difference-requires : goal.triple_difference-requires
triple_difference-requires c =
    let w = whole (goal.at.triple_difference-requires c).Start in
    (rw (to_z-of_z w.far) c.requires.far, rw (to_z-of_z w.near) c.requires.near)

pub triple_difference-requires-in-Inner : goal.triple_difference-requires-in-Inner
triple_difference-requires-in-Inner c =
    let w = whole (goal.at.triple_difference-requires-in-Inner c).Start in
    (rw (to_z-of_z w.inner-far) c.requires.inner-far, rw (to_z-of_z w.inner-near) c.requires.inner-near)

pub returns-in-Start : goal.returns-in-Start
unfolding vector_of
returns-in-Start c =
    let is = to_z-of_z (whole (goal.at.returns-in-Start c).Start).start in
    rw c.in-Start.is (is, rw is (omega (arith, c.requires.start)))

pub returns-in-Middle : goal.returns-in-Middle
unfolding vector_of
returns-in-Middle c =
    let w = whole (goal.at.returns-in-Middle c).Start in
    rw c.in-Middle.is (
      read_back w64 c.triple_difference.type_inv (rw (to_z-of_z w.far, to_z-of_z w.near) at c.triple_difference.ensures.0),
      rw (read_back w64 c.triple_difference.type_inv refl) (omega (arith, c.triple_difference.ensures.1)),
    )

pub returns-in-End : goal.returns-in-End
unfolding vector_of
returns-in-End c =
    let is = to_z-of_z (whole (goal.at.returns-in-End c).Start).end in
    rw c.in-End.is (is, rw is (omega (arith, c.requires.end)))

pub returns-in-Inner : goal.returns-in-Inner
unfolding vector_of
returns-in-Inner c =
    let w = whole (goal.at.returns-in-Inner c).Start in
    rw c.in-Inner.is (
      read_back w64 c.triple_difference-in-Inner.type_inv (rw (to_z-of_z w.inner-far, to_z-of_z w.inner-near) at c.triple_difference-in-Inner.ensures.0),
      rw (read_back w64 c.triple_difference-in-Inner.type_inv refl) (omega (arith, c.triple_difference-in-Inner.ensures.1)),
    )

pub returns-in-StartIn : goal.returns-in-StartIn
unfolding vector_of
returns-in-StartIn c =
    let w = whole (goal.at.returns-in-StartIn c).Start in
    rw c.in-StartIn.is (
      read_back w64 c.into.type_inv
          (rw (to_z-of_z w.start-cosine, to_z-of_z w.end-cosine, to_z-of_z w.start, to_z-of_z w.near, to_z-of_z w.far, to_z-of_z w.inner-near)
          at c.into.ensures.0),
      rw (read_back w64 c.into.type_inv refl) c.into.ensures.1,
    )

pub returns-in-EndIn : goal.returns-in-EndIn
unfolding vector_of
returns-in-EndIn c =
    let w = whole (goal.at.returns-in-EndIn c).Start in
    let a = c.args.a in
    let reversed : to_z w64 (of_z w64 (pos 0 -ℤ to_z w64 (of_z w64 a.end))) ≡ neg_ℤ a.end =
    ap (λ (z : ℤ). to_z w64 (of_z w64 (pos 0 -ℤ z))) (to_z-of_z w.end)
    ∙ ap (λ (z : ℤ). to_z w64 (of_z w64 z)) (negation a.end)
    ∙ to_z-of_z (negation-fits a.end (omega (arith, c.requires.end))) in
    rw c.in-EndIn.is (
      read_back w64 c.into-in-EndIn.type_inv
          (rw (to_z-of_z w.end-cosine, to_z-of_z w.start-cosine, reversed, to_z-of_z w.far, to_z-of_z w.near, to_z-of_z w.inner-far)
          at c.into-in-EndIn.ensures.0
          ∙ ap (λ (t : ℤ). corrected t (pos 3 *ℤ (a.inner_far -ℤ a.far)))
          (from-the-end a.start_cosine a.end_cosine a.near a.far a.end)),
      rw (read_back w64 c.into-in-EndIn.type_inv refl) c.into-in-EndIn.ensures.1,
    )
