-- The tables by vertex and by corner that the patches are written from.
--
--   rule G p           how the corner point of vertex p is made, as one number
--   rule_by tags valences leaving p   the same, as the tags and the tables of counts tell
--   tagged_shape tags faces   the shape of a mesh with its tags, by its lists
--   Counts G valences leaving   the faces of each vertex, and whether it is inside: no boundary half-edge leaves it
--   ends_of G c         which neighbours of corner c count as far ends of sharp edges
--   ForCounts faces twins, ForWeights faces valences leaving weights, ForRules tags valences rules, ForEnds twins n ends
--                      what is asked to count the faces of each vertex, to write the weights, the rules, and the ends of n corners: the lists serve, and
--                      there is room
--   Renderable tags faces twins, Roomy v n rules weights ends   what the three tables are read from, and room for v vertices and n corners in them
--   ForRender tags faces twins rules weights ends   both
--   Rendered G v rules weights ends   the rule of each of v vertices, and of each corner its weight and its far ends of sharp edges: all that is kept
--                      of the tags and of the counts
--   Bounded values     every entry of the table is within the range of a coordinate
--   Unsummed ring sharp   the two sums at each vertex before the first term: 0
--   Sums faces values ends k ring sharp   the two sums at each vertex, of coordinate k
--   Allowed r p ring sharp   by the rule r, the coordinate p and the two sums make a corner point within the range of the coordinates: the sum that r
--                      takes is small enough, and both fit 32 bits
--   CornerLists        the lists that the corner points are made from: positions and faces of the mesh, and the tables of values, ends and rules
--   ruled_point D k p   coordinate k of the corner point of vertex p by its rule
--   CornerSource D v   these lists serve every one of v vertices
--   ForCorners v points flags   what is asked to write the corner points over true flags: there is room
--   ForCoordinate v k points flags   the same for coordinate k, over any flags
--   Coordinate q v k ..   coordinate k of the corner points q below v is written: each in units at place 3p + k, with the other places of `points` as they
--                      were; their flags are kept where nothing is left, and become false elsewhere, with the flags from v on as they were
--   CornerPoints q v n points flags   of v vertices, the coordinates below n of the corner points, and whether nothing is left in any of these
--   Ready M d          an accepted mesh with its twins, and room in the lists d for its patches and their marks
--   Valued M values    the table of values tells every coordinate of every corner of the mesh M, and all its entries are within their range
use Rattle.std.specs.Prelude.{◌≡◌, Bool, false, true, ◌&&◌, List, ℕ, ◌+◌, ◌-◌, ◌*◌, ◌≤◌, ◌<◌, eqb, ℤ, pos, nat_abs, length, get_or}
use Rattle.finite.specs.Fold.{all_below}
use Rattle.limits.specs.Limits.{max_vertices, max_valence, max_coordinate}
use Rattle.corner.specs.Corner.{prev}
use Rattle.mesh.specs.HalfEdge.{boundary}
use Rattle.mesh.specs.Fan.{valence}
use Rattle.mesh.specs.IndexedMesh.{IndexedMesh, corners}
use Rattle.mesh.specs.Tables.{Corners, Holds, Indices, vertex_of}
use Rattle.mesh.specs.WellFormed.{WellFormed}
use Rattle.mask.specs.Mask.{Fraction, max_sharpness, corner_rule, corner_mask}
use Rattle.control.specs.Control.{units, exactly, value_at}
use Rattle.patch.specs.Point.{Shape, x, valence_at, inside, weight, sharp}
use Rattle.patch.specs.Patch.{view}
use Rattle.patch.specs.Answer.{Lent}
use Rattle.patch.specs.Lists.{shape_of, Twins, ends, no_ends, ring_sum_by, sharp_sum_by}
use Rattle.patch.specs.declared.counts.Ends.{Ends}

unfoldable pub rule : Shape → ℕ → ℕ
rule G p = corner_rule (inside G p) (G.tag p) (valence_at G p)

abbrev pub tagged_shape : List ℕ → List ℕ → Shape
tagged_shape tags faces = record { n = length faces; at = vertex_of faces; tag = λ p. get_or tags p 0 }

pub record Counts (G : Shape) (valences leaving : List ℕ) : Type 0 where
  pub valences-listed : max_vertices ≤ length valences
  pub valences-are : Holds 0 valences max_vertices (valence_at G)
  pub leaving-listed : max_vertices ≤ length leaving
  pub inside-are : (p : ℕ) → p < max_vertices → eqb (get_or leaving p 0) 0 ≡ inside G p

unfoldable pub ends_of : Shape → ℕ → Ends
ends_of G c = ends (sharp G c) (boundary G.at G.n (prev c))

pub record ForCounts (faces twins : List ℕ) : Type 0 where
  pub indices : Indices faces (length faces)
  pub twinned : Twins faces twins

pub record ForWeights (faces valences leaving weights : List ℕ) : Type 0 where
  pub indices : Indices faces (length faces)
  pub counts : Counts (shape_of faces) valences leaving
  pub room : length faces ≤ length weights

pub record ForRules (tags valences rules : List ℕ) : Type 0 where
  pub named : length tags ≤ max_vertices
  pub few : (p : ℕ) → p < length tags → get_or valences p 0 ≤ max_valence
  pub room : length tags ≤ length rules

pub record ForEnds (twins : List ℕ) (n : ℕ) (ends : List Ends) : Type 0 where
  pub corners : Corners n
  pub twins-listed : n ≤ length twins
  pub room : n ≤ length ends

abbrev pub rule_by : List ℕ → List ℕ → List ℕ → ℕ → ℕ
rule_by tags valences leaving p = corner_rule (eqb (get_or leaving p 0) 0) (get_or tags p 0) (get_or valences p 0)

pub record Renderable (tags faces twins : List ℕ) : Type 0 where
  pub few : length tags ≤ max_vertices
  pub indices : Indices faces (length faces)
  pub twinned : Twins faces twins
  pub valences-few : (p : ℕ) → p < length tags → valence (vertex_of faces) (length faces) p ≤ max_valence

pub record Roomy (v n : ℕ) (rules weights : List ℕ) (ends : List Ends) : Type 0 where
  pub rules-listed : v ≤ length rules
  pub weights-listed : n ≤ length weights
  pub ends-listed : n ≤ length ends

pub record ForRender (tags faces twins rules weights : List ℕ) (ends : List Ends) : Type 0 where
  pub source : Renderable tags faces twins
  pub room : Roomy (length tags) (length faces) rules weights ends

pub record Rendered (G : Shape) (v : ℕ) (rules weights : List ℕ) (ends : List Ends) : Type 0 where
  pub rules-are : Holds 0 rules v (rule G)
  pub weights-are : Holds 0 weights G.n (weight G)
  pub ends-are : Holds no_ends ends G.n (ends_of G)

pub record Bounded (values : List ℤ) : Type 0 where
  pub entries : (i : ℕ) → nat_abs (get_or values i (pos 0)) ≤ max_coordinate

pub record Unsummed (ring sharp : List ℤ) : Type 0 where
  pub ring-are : Holds (pos 0) ring max_vertices (λ p. pos 0)
  pub sharp-are : Holds (pos 0) sharp max_vertices (λ p. pos 0)

pub record Sums (faces : List ℕ) (values : List ℤ) (ends : List Ends) (k : ℕ) (ring sharp : List ℤ) : Type 0 where
  pub ring-are : Holds (pos 0) ring max_vertices (ring_sum_by faces values k)
  pub sharp-are : Holds (pos 0) sharp max_vertices (sharp_sum_by faces values ends k)

pub record Allowed (r : ℕ) (p ring sharp : ℤ) : Type 0 where
  pub value-small : nat_abs p ≤ max_coordinate
  pub ring-fits : nat_abs ring ≤ 5 * max_coordinate * max_valence
  pub sharp-fits : nat_abs sharp ≤ 5 * max_coordinate * max_valence
  pub ring-small : max_sharpness < r → nat_abs ring ≤ 5 * max_coordinate * (r - max_sharpness)
  pub sharp-small : r < max_sharpness → nat_abs sharp ≤ 2 * max_coordinate

pub record CornerLists : Type 0 where
  pub positions : List ℤ
  pub faces : List ℕ
  pub values : List ℤ
  pub ends : List Ends
  pub rules : List ℕ

abbrev pub corner_lists : List ℤ → List ℕ → List ℤ → List Ends → List ℕ → CornerLists
corner_lists positions faces values ends rules = record { positions = positions; faces = faces; values = values; ends = ends; rules = rules }

unfoldable pub ruled_point : CornerLists → ℕ → ℕ → Fraction
ruled_point D k p =
    corner_mask (get_or D.rules p 0) (get_or D.positions (3 * p + k) (pos 0)) (ring_sum_by D.faces D.values k p)
    (sharp_sum_by D.faces D.values D.ends k p)

pub record CornerSource (D : CornerLists) (v : ℕ) : Type 0 where
  pub few : v ≤ max_vertices
  pub rules-listed : v ≤ length D.rules
  pub indices : Indices D.faces (length D.faces)
  pub ends-listed : length D.faces ≤ length D.ends
  pub bounded : Bounded D.values
  pub allowed : (k p : ℕ) → k < 3 → p < v
      → Allowed (get_or D.rules p 0) (get_or D.positions (3 * p + k) (pos 0)) (ring_sum_by D.faces D.values k p)
      (sharp_sum_by D.faces D.values D.ends k p)

pub record ForCoordinate (v k : ℕ) (points : List ℤ) (flags : List Bool) : Type 0 where
  pub axis : k < 3
  pub points-room : 3 * v ≤ length points
  pub flags-room : v ≤ length flags

pub record ForCorners (v : ℕ) (points : List ℤ) (flags : List Bool) : Type 0 where
  pub points-room : 3 * v ≤ length points
  pub flags-room : v ≤ length flags
  pub flagged : Holds false flags v (λ p. true)

pub record Coordinate (q : ℕ → Fraction) (v k : ℕ) (points points' : List ℤ) (flags flags' : List Bool) : Type 0 where
  pub written : (p : ℕ) → p < v → get_or points' (3 * p + k) (pos 0) ≡ units (q p)
  pub others : (p j : ℕ) → j < 3 → (j ≡ k → ⊥) → get_or points' (3 * p + j) (pos 0) ≡ get_or points (3 * p + j) (pos 0)
  pub kept : (p : ℕ) → p < v → get_or flags' p false ≡ (get_or flags p false && exactly (q p))
  pub after : (p : ℕ) → v ≤ p → get_or flags' p false ≡ get_or flags p false

pub record CornerPoints (q : ℕ → ℕ → Fraction) (v n : ℕ) (points : List ℤ) (flags : List Bool) : Type 0 where
  pub points-are : (k p : ℕ) → k < n → p < v → get_or points (3 * p + k) (pos 0) ≡ units (q k p)
  pub flags-are : (p : ℕ) → p < v → get_or flags p false ≡ all_below (λ k. exactly (q k p)) n

pub record Ready (M : IndexedMesh) (d : Lent) : Type 0 where
  pub accepted : WellFormed M
  pub twinned : Twins M.indices d.twins
  pub patches-room : 48 * M.faces ≤ length d.patches
  pub marks-room : 16 * M.faces ≤ length d.marks

pub record Valued (M : IndexedMesh) (values : List ℤ) : Type 0 where
  pub told : (k c : ℕ) → k < 3 → c < corners M → value_at values k c ≡ x (view M k) c
  pub bounded : Bounded values
