-- When a mesh is turned down: the rows of the table of refusals (rule R2), which the user calls causes, each as a Bool with its number, and the
-- table itself in the order of checking (rule R3). A row is decided over the whole mesh before the row behind it is taken up (rule R1).
use Rattle.std.specs.Prelude.{◌≡◌, Bool, not, ◌&&◌, List, [], ◌∷◌, ◌++◌, ℕ, suc, ◌*◌, eqb, ltb, leb, nat_abs, length}
use Rattle.std.proofs.Math.Option.{none}
use Rattle.finite.specs.Fold.{any_below}
use Rattle.answer.specs.Table.{Row, row, first_met}
use Rattle.limits.specs.Limits.{max_coordinate, corner_tag}
use Rattle.limits.specs.Range.{sizes_off, valence_bad}
use Rattle.corner.specs.Corner.{turn}
use Rattle.mesh.specs.HalfEdge.{doubled}
use Rattle.mesh.specs.Fan.{valence, on_boundary, fan}
use Rattle.mesh.specs.IndexedMesh.{IndexedMesh, corners, at, tag, coordinate}

-- 1: the sizes are off their ranges, or the lists not of their lengths
abbrev pub mesh_sizes_off : IndexedMesh → Bool
mesh_sizes_off M = sizes_off M.vertices M.faces (length M.positions) (length M.tags) (length M.indices)

-- 3: a coordinate is beyond the limit
unfoldable pub coordinate_off : IndexedMesh → Bool
coordinate_off M = any_below (λ i. ltb max_coordinate (nat_abs (coordinate M i))) (3 * M.vertices)

-- 4: a tag is above 1
unfoldable pub tag_off : IndexedMesh → Bool
tag_off M = any_below (λ p. ltb corner_tag (tag M p)) M.vertices

-- 5: a face names V or a larger number
unfoldable pub vertex_off : IndexedMesh → Bool
vertex_off M = any_below (λ c. leb M.vertices (at M c)) (corners M)

-- 6: two corners of a face have the same vertex: a corner has that of one of the three others of its face
unfoldable pub vertex_twice : IndexedMesh → Bool
vertex_twice M = any_below (λ c. any_below (λ i. eqb (at M (turn (suc i) c)) (at M c)) 3) (corners M)

-- 7: two half-edges have the same start and the same end
unfoldable pub half_edge_twice : IndexedMesh → Bool
half_edge_twice M = doubled (at M) (corners M)

-- 8 to 10 look at the vertices `at c` of the n corners alone, for the vertices below v
-- 8: a vertex has no face
unfoldable pub vertex_unused : (ℕ → ℕ) → ℕ → ℕ → Bool
vertex_unused at n v = any_below (λ p. eqb (valence at n p) 0) v

-- 9: the corners at a vertex are no single fan
unfoldable pub fan_broken : (ℕ → ℕ) → ℕ → ℕ → Bool
fan_broken at n v = any_below (λ p. not (fan at n p)) v

-- 10: a valence is off its range
unfoldable pub valence_off : (ℕ → ℕ) → ℕ → ℕ → Bool
valence_off at n v = any_below (λ p. valence_bad (on_boundary at n p) (valence at n p)) v

-- 11: an inner vertex has tag 1
unfoldable pub inner_tagged : IndexedMesh → Bool
inner_tagged M = any_below (λ p. eqb (tag M p) corner_tag && not (on_boundary (at M) (corners M) p)) M.vertices

-- ---- the table
-- the rows of the entries of the lists: 3 to 6
abbrev pub list_rows : IndexedMesh → List Row
list_rows M = row (coordinate_off M) 3 ∷ (row (tag_off M) 4 ∷ (row (vertex_off M) 5 ∷ (row (vertex_twice M) 6 ∷ [])))

-- the same and the row of half-edges: 3 to 7
abbrev pub entry_rows : IndexedMesh → List Row
entry_rows M = list_rows M ++ (row (half_edge_twice M) 7 ∷ [])

-- the rows that are checked before the twins are written: a refusal by one of them touches no list. The rows `own` are the call's own:
-- whether one of the lists that it was lent is too short (2), and what later calls add there
abbrev pub early_rows : IndexedMesh → List Row → List Row
early_rows M own =
    row (mesh_sizes_off M) 1 ∷ (own ++ entry_rows M)

-- the rows of the corners at each vertex: 8 to 10
abbrev pub fan_rows : (ℕ → ℕ) → ℕ → ℕ → List Row
fan_rows at n v = row (vertex_unused at n v) 8 ∷ (row (fan_broken at n v) 9 ∷ (row (valence_off at n v) 10 ∷ []))

-- the rows of what is listed by vertex: 11
abbrev pub vertex_rows : IndexedMesh → List Row
vertex_rows M = row (inner_tagged M) 11 ∷ []

-- the rows after it: a refusal by one of them leaves no twin in the first 4F places
abbrev pub late_rows : IndexedMesh → List Row
late_rows M = fan_rows (at M) (corners M) M.vertices ++ vertex_rows M

-- a mesh is accepted when no row but the calls' own is met (rule C1)
unfoldable pub Accepted : IndexedMesh → Type 0
Accepted M = first_met (early_rows M [] ++ late_rows M) ≡ none
