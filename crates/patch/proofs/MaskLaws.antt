-- What the masks give of coordinates within their range: a fraction within it.
--
--   Small a        the four values of a face are within the range of the coordinates
--   Sized q        the divisor of q is above 0, and q within the range of the coordinates: `bounds` of `LinearLaws`, for a mask
use mathlib.Core.Path.{◌≡◌, refl, sym, subst}
use mathlib.Core.List.{List}
use Prim.Native.Nat.{ℕ, ◌+◌, ◌-◌, ◌*◌, ◌%◌, ◌≤◌}
use native.Mathlib.Omega.{arith}
use lib.Dec.{eqb, ltb}
use lib.IntN.{ℤ, pos, nat_abs, ◌*ℤ◌}
use mir.Syntax.{w32}
use mir.Val.{to_z, of_z}
use mir.Facts.{to_z-of_z}
use borrow.Author.Tests.{eqb-true, eqb-false, ltb-true, ltb-false}
use Rattle.integer.proofs.Laws.{sfits-abs, abs-+, abs-*}
use Rattle.integer.proofs.NearestLaws.{nearest-bounded}
use Rattle.finite.proofs.FoldLaws.{bool_cases}
use Rattle.limits.specs.Limits.{max_coordinate, no_twin}
use Rattle.corner.specs.Corner.{next, across, prev}
use Rattle.mask.specs.Mask.{Fraction, inner_mask, edge_mask, sharp_corner_mask, max_sharpness, corner_mask}
use Rattle.mask.specs.declared.model.FaceValues.{FaceValues}
use Rattle.mask.proofs.LinearLaws.{Related, bounds, inner-mask, edge-mask, boundary-edge-mask, smooth-corner-mask, sharp-corner-mask}
use Rattle.control.specs.Control.{units, point_of, value_at, weight_at, link_at, face_at, inner_at, edge_at, linked, along_at, before_at}
use Rattle.control.specs.declared.model.ControlPoint.{ControlPoint}
use Rattle.patch.specs.PatchTables.{Bounded, Allowed}
use Rattle.patch.specs.Written.{Narrow}

pub record Small (a : FaceValues) : Type 0 where
  pub here : nat_abs a.here ≤ max_coordinate
  pub next : nat_abs a.next ≤ max_coordinate
  pub across : nat_abs a.across ≤ max_coordinate
  pub prev : nat_abs a.prev ≤ max_coordinate

abbrev pub Sized : Fraction → Type 0
Sized q = Related (λ k z _. nat_abs z ≤ max_coordinate * k) q q

pub inner-sized : (w : ℕ) (a : FaceValues) → Small a → Sized (inner_mask w a.here a.next a.prev a.across)
inner-sized w a s = inner-mask (bounds max_coordinate) w s.here s.next s.prev s.across

pub edge-sized : (w : ℕ) (a b : FaceValues) → Small a → Small b → Sized (edge_mask w a.here a.next a.prev b.across a.across b.prev)
edge-sized w a b s t = edge-mask (bounds max_coordinate) w s.here s.next s.prev t.across s.across t.prev

-- all of the weight on the vertex: whatever the sum
vertex-sized : (p s : ℤ) → nat_abs p ≤ max_coordinate → Sized (sharp_corner_mask max_sharpness p s)
unfolding sharp_corner_mask
vertex-sized p s l = record {
  positive = omega arith;
  same = refl;
  related = omega (arith, abs-+ (pos 96 *ℤ p) (pos 0 *ℤ s), abs-* (pos 96) p, abs-* (pos 0) s);
}

-- the sum that the rule takes is small
pub corner-sized : (r : ℕ) (p ring sharp : ℤ) → Allowed r p ring sharp → Sized (corner_mask r p ring sharp)
unfolding corner_mask
corner-sized r p ring sharp h =
    bool_cases (ltb max_sharpness r)
    (λ t. let l = ltb-true max_sharpness r t in
    rw t (smooth-corner-mask (bounds max_coordinate) (r - max_sharpness) (omega arith) h.value-small (omega (arith, h.ring-small l))))
    (λ t. rw t (on-boundary (ltb-false max_sharpness r t)))
  where
    on-boundary : r ≤ max_sharpness → Sized (sharp_corner_mask r p sharp)
    on-boundary l =
        bool_cases (eqb r max_sharpness)
        (λ e. let most : r ≡ max_sharpness = eqb-true r max_sharpness e in rw most (vertex-sized p sharp h.value-small))
        (λ e. sharp-corner-mask (bounds max_coordinate) r l h.value-small (h.sharp-small (omega (arith, eqb-false r max_sharpness e))))

-- a coordinate z that is known as y, stored and read back
pub stored_is : (z y : ℤ) → nat_abs z ≤ max_coordinate → z ≡ y → to_z w32 (of_z w32 z) ≡ y
stored_is z y l e = rw (to_z-of_z (sfits-abs {w = w32} z (omega arith))) e

-- the one or the other of two fractions
linked-sized : (d : ℕ) (p q : Fraction) → Sized p → Sized q → Sized (linked d p q)
linked-sized d p q s t = bool_cases (eqb d no_twin) (λ e. rw e s) (λ e. rw e t)

-- ---- the points that a corner owns, by a table of values within the range of the coordinates
module _ {values : List ℤ} (b : Bounded values) (k : ℕ) where
  pub value-small : (c : ℕ) → nat_abs (value_at values k c) ≤ max_coordinate
  value-small c = b.entries (4 * (c % 1024) + k % 4)

  face-small : (c : ℕ) → Small (face_at values k c)
  face-small c =
      record { here = value-small c; next = value-small (next c); across = value-small (across c); prev = value-small (prev c) }

  pub inner-at-sized : (w c : ℕ) → Sized (inner_at values w k c)
  unfolding inner_at
  inner-at-sized w c = inner-sized w (face_at values k c) (face-small c)

  edge-at-sized : (w c d : ℕ) → Sized (edge_at values w k c d)
  unfolding edge_at
  edge-at-sized w c d = edge-sized w (face_at values k c) (face_at values k d) (face-small c) (face-small d)

  pub along-at-sized : (links weights : List ℕ) (c : ℕ) → Sized (along_at values links weights k c)
  along-at-sized links weights c =
      linked-sized (link_at links c) _ _ (boundary-edge-mask (bounds max_coordinate) (value-small c) (value-small (next c)))
      (edge-at-sized (weight_at weights c) c (link_at links c))

  pub before-at-sized : (links weights : List ℕ) (c : ℕ) → Sized (before_at values links weights k c)
  before-at-sized links weights c =
      let d = link_at links (prev c) in
      linked-sized d _ _ (boundary-edge-mask (bounds max_coordinate) (value-small c) (value-small (prev c)))
      (edge-at-sized (weight_at weights d) d (prev c))

-- ---- a fraction within the range of the coordinates, in units
pub units_small : (q : Fraction) → Sized q → nat_abs (units q) ≤ 256 * max_coordinate
units_small q s =
    nearest-bounded (pos 256 *ℤ q.num) q.den (256 * max_coordinate) s.positive (omega (arith, s.related, abs-* (pos 256) q.num))

pub point-narrow : (q : ℕ → Fraction) {r : ControlPoint ℤ} → ((k : ℕ) → Sized (q k)) → r ≡ point_of q → Narrow r
point-narrow q s e =
    subst Narrow (sym e) (record { x-small = units_small (q 0) (s 0); y-small = units_small (q 1) (s 1); z-small = units_small (q 2) (s 2) })
