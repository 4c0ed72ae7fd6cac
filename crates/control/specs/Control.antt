-- The control points that tables by corner tell, of the mesh that the tables are made of: which one that is, a caller shows.
--
--   units q, exactly q    a fraction of a micrometre in units, rounded once (rules B3 and I1); nothing is left when it is rounded (rule I5)
--   value_of q, point_of q  the control value with its mark; the control point with the coordinates q 0, q 1 and q 2, and its mark
--   value_at values k c    coordinate k of the vertex of corner c: the table has four places a corner, the last of them spare
--   corner_value positions faces i, values_after positions faces values   what the lists of a mesh give for place i of that table; the table afterwards,
--                         where it is filled from them for as many corners as there are and as it has room for
--   weight_at weights c, link_at links c   the weight of corner c; the twin of half-edge c, `no_twin` where it is sharp
--   face_at values k c     coordinate k of the four vertices of the face of corner c, seen from there
--   inner_at .. w k c, edge_at .. w k c d   the inner point at corner c of weight w; the edge point on half-edge c, with twin d, near its start
--   linked d sharp smooth   the one or the other of two fractions: `sharp` where a half-edge has no twin d
--   linked_along .. d w k c, linked_before .. d w k c   the edge point on half-edge c near its start, and on the half-edge before c near its end, where d is
--                         the twin of that half-edge, or `no_twin` where it is sharp, and w the weight
--   along_at .. k c, before_at .. k c   the same with twin and weight from their tables
-- A place beyond a table is read at its rest by the length of the table; no corner of a mesh is.
use Rattle.std.specs.Prelude.{Bool, cond, ◌&&◌, List, ℕ, ◌+◌, ◌*◌, ◌/◌, ◌%◌, min, eqb, ltb, ℤ, pos, ◌*ℤ◌, length, get_or}
use Rattle.integer.specs.Nearest.{nearest, whole}
use Rattle.finite.specs.Filled.{filled}
use Rattle.limits.specs.Limits.{no_twin}
use Rattle.corner.specs.Corner.{next, across, prev}
use Rattle.mask.specs.Mask.{Fraction, inner_mask, edge_mask, boundary_edge_mask}
use Rattle.mask.specs.declared.model.FaceValues.{FaceValues}
use Rattle.control.specs.declared.model.Value.{Value}
use Rattle.control.specs.declared.model.ControlPoint.{ControlPoint}

abbrev pub units : Fraction → ℤ
units q = nearest (pos 256 *ℤ q.num) q.den

abbrev pub exactly : Fraction → Bool
exactly q = whole (pos 256 *ℤ q.num) q.den

abbrev pub value_of : Fraction → Value
value_of q = record { units = units q; exact = exactly q }

abbrev pub point_of : (ℕ → Fraction) → ControlPoint ℤ
point_of q = record { x = units (q 0); y = units (q 1); z = units (q 2); exact = (exactly (q 0) && exactly (q 1)) && exactly (q 2) }

abbrev pub value_at : List ℤ → ℕ → ℕ → ℤ
value_at values k c = get_or values (4 * (c % 1024) + k % 4) (pos 0)

unfoldable pub corner_value : List ℤ → List ℕ → ℕ → ℤ
corner_value positions faces i = cond (ltb (i % 4) 3) (get_or positions (3 * get_or faces (i / 4) 0 + i % 4) (pos 0)) (pos 0)

abbrev pub values_after : List ℤ → List ℕ → List ℤ → List ℤ
values_after positions faces values = filled (corner_value positions faces) (4 * min (length faces) (length values / 4)) values

abbrev pub weight_at : List ℕ → ℕ → ℕ
weight_at weights c = get_or weights (c % 1024) 0

abbrev pub link_at : List ℕ → ℕ → ℕ
link_at links c = get_or links (c % 1024) 0

abbrev pub face_at : List ℤ → ℕ → ℕ → FaceValues
face_at values k c = record {
  here = value_at values k c;
  next = value_at values k (next c);
  across = value_at values k (across c);
  prev = value_at values k (prev c);
}

unfoldable pub inner_at : List ℤ → ℕ → ℕ → ℕ → Fraction
inner_at values w k c = let a = face_at values k c in inner_mask w a.here a.next a.prev a.across

unfoldable pub edge_at : List ℤ → ℕ → ℕ → ℕ → ℕ → Fraction
edge_at values w k c d =
    let a = face_at values k c in
    let b = face_at values k d in
    edge_mask w a.here a.next a.prev b.across a.across b.prev

abbrev pub linked : ℕ → Fraction → Fraction → Fraction
linked d sharp smooth = cond (eqb d no_twin) sharp smooth

abbrev pub linked_along : List ℤ → ℕ → ℕ → ℕ → ℕ → Fraction
linked_along values d w k c = linked d (boundary_edge_mask (value_at values k c) (value_at values k (next c))) (edge_at values w k c d)

abbrev pub linked_before : List ℤ → ℕ → ℕ → ℕ → ℕ → Fraction
linked_before values d w k c = linked d (boundary_edge_mask (value_at values k c) (value_at values k (prev c))) (edge_at values w k d (prev c))

abbrev pub along_at : List ℤ → List ℕ → List ℕ → ℕ → ℕ → Fraction
along_at values links weights k c = linked_along values (link_at links c) (weight_at weights c) k c

abbrev pub before_at : List ℤ → List ℕ → List ℕ → ℕ → ℕ → Fraction
before_at values links weights k c = let d = link_at links (prev c) in linked_before values d (weight_at weights d) k c
