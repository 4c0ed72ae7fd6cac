-- The control points that each corner of a face owns, of one coordinate, from the corners, the tags and that coordinate of each vertex.
--
--   Shape           what no coordinate tells: n corners, the vertex `at c` of each, a tag of each vertex
--   View            what the points are read from: a shape, and a coordinate of each vertex
--   weight G c      w at corner c: that of its vertex, inside or on the boundary, with so many faces (rule B4)
--   sharp G c       half-edge c takes the boundary rule: it has no twin
--   sharp_sum S p    the far ends of the sharp half-edges at p: of a boundary vertex its two boundary neighbours (rule B10)
--   ring_sum S p     four times the edge neighbours of p and the vertices across: each edge neighbour is the next of one corner at p
--                   and the previous of another, so each counts twice here (rule B9)
--   fixed G p       the corner point of a boundary vertex is the vertex itself: it has tag 1, or k = 1 (rule B11)
--   corner_point S p    the corner point of vertex p
--   edge_point S c d    the edge point on the edge of half-edge c, with twin d, near its start (rule B7)
--   along_point S c     the edge point on half-edge c near its start, which the user calls the near point of a side (rules B5, B7 and B8)
--   before_point S c    the edge point on the half-edge before c near its end, which is the vertex of c (rules B5, B7 and B8)
--   inner_point S c     the inner point at corner c, which the user calls the interior point (rule B6)
use Rattle.std.specs.Prelude.{Bool, not, cond, ◌||◌, ℕ, eqb, ℤ, pos, ◌+ℤ◌, ◌*ℤ◌}
use Rattle.finite.specs.Fold.{gather}
use Rattle.limits.specs.Limits.{corner_tag}
use Rattle.corner.specs.Corner.{next, across, prev}
use Rattle.mesh.specs.HalfEdge.{twin, boundary}
use Rattle.mesh.specs.Fan.{valence, on_boundary}
use Rattle.mask.specs.Mask.{Fraction, corner_weight, inner_mask, edge_mask, boundary_edge_mask, smooth_corner_mask, boundary_corner_mask, vertex_mask}

pub record Shape : Type 0 where
  pub n : ℕ
  pub at : ℕ → ℕ
  pub tag : ℕ → ℕ

pub record View : Type 0 where
  pub shape : Shape
  pub value : ℕ → ℤ

-- the coordinate of the vertex of corner c
abbrev pub x : View → ℕ → ℤ
x S c = S.value (S.shape.at c)

-- how many faces vertex p has
abbrev pub valence_at : Shape → ℕ → ℕ
valence_at G p = valence G.at G.n p

abbrev pub inside : Shape → ℕ → Bool
inside G p = not (on_boundary G.at G.n p)

unfoldable pub weight : Shape → ℕ → ℕ
weight G c = corner_weight (inside G (G.at c)) (valence_at G (G.at c))

unfoldable pub sharp : Shape → ℕ → Bool
sharp G c = boundary G.at G.n c

-- the sum over the corners at p
abbrev pub sum_at : Shape → ℕ → (ℕ → ℤ) → ℤ
sum_at G p term = gather (pos 0) ◌+ℤ◌ G.at term G.n p

-- what corner c adds to the two sums at its vertex; a sharp edge counts once, where it leaves the vertex, or enters it and has no twin
abbrev pub sharp_term : View → ℕ → ℤ
sharp_term S c =
    cond (sharp S.shape c) (x S (next c)) (pos 0) +ℤ cond (boundary S.shape.at S.shape.n (prev c)) (x S (prev c)) (pos 0)

abbrev pub ring_term : View → ℕ → ℤ
ring_term S c = pos 2 *ℤ x S (next c) +ℤ pos 2 *ℤ x S (prev c) +ℤ x S (across c)

unfoldable pub sharp_sum : View → ℕ → ℤ
sharp_sum S p = sum_at S.shape p (sharp_term S)

unfoldable pub ring_sum : View → ℕ → ℤ
ring_sum S p = sum_at S.shape p (ring_term S)

unfoldable pub fixed : Shape → ℕ → Bool
fixed G p = eqb (G.tag p) corner_tag || eqb (valence_at G p) 1

unfoldable pub corner_point : View → ℕ → Fraction
corner_point S p =
    cond (inside S.shape p) (smooth_corner_mask (valence_at S.shape p) (S.value p) (ring_sum S p))
    (cond (fixed S.shape p) (vertex_mask (S.value p)) (boundary_corner_mask (S.value p) (sharp_sum S p)))

unfoldable pub inner_point : View → ℕ → Fraction
inner_point S c = inner_mask (weight S.shape c) (x S c) (x S (next c)) (x S (prev c)) (x S (across c))

unfoldable pub edge_point : View → ℕ → ℕ → Fraction
edge_point S c d =
    edge_mask (weight S.shape c) (x S c) (x S (next c)) (x S (prev c)) (x S (across d)) (x S (across c)) (x S (prev d))

unfoldable pub along_point : View → ℕ → Fraction
along_point S c = cond (sharp S.shape c) (boundary_edge_mask (x S c) (x S (next c))) (edge_point S c (twin S.shape.at S.shape.n c))

unfoldable pub before_point : View → ℕ → Fraction
before_point S c =
    cond (sharp S.shape (prev c)) (boundary_edge_mask (x S c) (x S (prev c))) (edge_point S (twin S.shape.at S.shape.n (prev c)) (prev c))

-- the four points of its face that each corner owns
pub data Kind : Type 0 where
  corner along before inner : Kind

unfoldable pub point : View → ℕ → Kind → Fraction
point S c corner = corner_point S (S.shape.at c)
point S c along = along_point S c
point S c before = before_point S c
point S c inner = inner_point S c
