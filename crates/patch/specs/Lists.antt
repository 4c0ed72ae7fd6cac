-- What the lists that the code is lent say of a mesh, where its tags do not matter.
--
--   shape_of faces      the shape of a mesh, by its list of faces
--   boundary_in twins c, sharp_in twins c   half-edge c has no twin, and takes the boundary rule, by the list of twins
--   Twins faces twins  the twins of all the half-edges are listed
--   next_counts e, prev_counts e   whether the next vertex counts so, whether the previous one does
--   ends next prev, no_ends   which neighbours of a corner count as far ends of sharp edges: the next vertex, the previous one; neither
--   ends_in twins c     those of corner c: the next vertex where half-edge c is sharp, the previous one where the half-edge before c has no twin
--   ring_term_by values k c, sharp_term_by values ends k c   what corner c adds to the ring sum and to the sharp sum, of coordinate k, as the table of values
--                      and that of the ends tell
--   ring_sum_by faces values k p, sharp_sum_by faces values ends k p   both sums at vertex p
use Rattle.std.specs.Prelude.{Bool, true, false, cond, List, ℕ, ◌≤◌, eqb, ℤ, pos, ◌+ℤ◌, ◌*ℤ◌, length, get_or}
use Rattle.limits.specs.Limits.{no_twin}
use Rattle.corner.specs.Corner.{next, prev}
use Rattle.mesh.specs.HalfEdge.{twin}
use Rattle.mesh.specs.Tables.{Holds, vertex_of, twin_of}
use Rattle.control.specs.Control.{value_at, face_at}
use Rattle.patch.specs.Point.{Shape, sum_at}
use Rattle.patch.specs.declared.counts.Ends.{Ends}
use Rattle.patch.specs.declared.counts.Ends.TheVariants.{Neither, Next, Prev, Both}

abbrev pub shape_of : List ℕ → Shape
shape_of faces = record { n = length faces; at = vertex_of faces; tag = λ p. 0 }

abbrev pub boundary_in : List ℕ → ℕ → Bool
boundary_in twins c = eqb (twin_of twins c) no_twin

abbrev pub sharp_in : List ℕ → ℕ → Bool
sharp_in twins c = boundary_in twins c

pub record Twins (faces twins : List ℕ) : Type 0 where
  pub listed : length faces ≤ length twins
  pub are : Holds 0 twins (length faces) (twin (vertex_of faces) (length faces))

abbrev pub ends : Bool → Bool → Ends
ends next prev = cond next (cond prev Both Next) (cond prev Prev Neither)

abbrev pub next_counts : Ends → Bool
next_counts Neither = false
next_counts Next = true
next_counts Prev = false
next_counts Both = true

abbrev pub prev_counts : Ends → Bool
prev_counts Neither = false
prev_counts Next = false
prev_counts Prev = true
prev_counts Both = true

abbrev pub no_ends : Ends
no_ends = ends false false

abbrev pub ends_in : List ℕ → ℕ → Ends
ends_in twins c = ends (sharp_in twins c) (boundary_in twins (prev c))

abbrev pub ring_term_by : List ℤ → ℕ → ℕ → ℤ
ring_term_by values k c = let a = face_at values k c in pos 2 *ℤ a.next +ℤ pos 2 *ℤ a.prev +ℤ a.across

abbrev pub sharp_term_by : List ℤ → List Ends → ℕ → ℕ → ℤ
sharp_term_by values ends k c =
    let e = get_or ends c no_ends in
    cond (next_counts e) (value_at values k (next c)) (pos 0) +ℤ cond (prev_counts e) (value_at values k (prev c)) (pos 0)

unfoldable pub ring_sum_by : List ℕ → List ℤ → ℕ → ℕ → ℤ
ring_sum_by faces values k p = sum_at (shape_of faces) p (ring_term_by values k)

unfoldable pub sharp_sum_by : List ℕ → List ℤ → List Ends → ℕ → ℕ → ℤ
sharp_sum_by faces values ends k p = sum_at (shape_of faces) p (sharp_term_by values ends k)
