-- An accepted mesh as plain facts, for the contracts of private functions and for proofs. What is accepted is said by the table of
-- refusals; proofs/AcceptedLaws.antt shows that these facts hold exactly where no cause of it that concerns the mesh itself is met.
use Rattle.std.specs.Prelude.{◌≡◌, true, false, ℕ, suc, ◌*◌, ◌≤◌, ◌<◌, nat_abs, length}
use Rattle.limits.specs.Limits.{min_vertices, max_vertices, min_faces, max_faces, max_coordinate, corner_tag}
use Rattle.limits.specs.Limits.{min_valence, max_valence, min_boundary_faces, max_boundary_faces}
use Rattle.corner.specs.Corner.{turn}
use Rattle.mesh.specs.HalfEdge.{Simple}
use Rattle.mesh.specs.Fan.{valence, on_boundary, fan}
use Rattle.mesh.specs.IndexedMesh.{IndexedMesh, corners, at, tag, coordinate}

-- the sizes and the lengths of the lists: no cause 1
pub record Sized (v f positions tags indices : ℕ) : Type 0 where
  pub vertices-low : min_vertices ≤ v
  pub vertices-high : v ≤ max_vertices
  pub faces-low : min_faces ≤ f
  pub faces-high : f ≤ max_faces
  pub positions-are : positions ≡ 3 * v
  pub tags-are : tags ≡ v
  pub indices-are : indices ≡ 4 * f

-- the same of the sizes and the lists of a mesh
abbrev pub MeshSized : IndexedMesh → Type 0
MeshSized M = Sized M.vertices M.faces (length M.positions) (length M.tags) (length M.indices)

pub record WellFormed (M : IndexedMesh) : Type 0 where
  pub sized : MeshSized M
  pub coordinates : (i : ℕ) → i < 3 * M.vertices → nat_abs (coordinate M i) ≤ max_coordinate
  pub tags-known : (p : ℕ) → p < M.vertices → tag M p ≤ corner_tag
  pub named : (c : ℕ) → c < corners M → at M c < M.vertices
  pub distinct : (c i : ℕ) → c < corners M → i < 3 → at M (turn (suc i) c) ≡ at M c → ⊥
  pub simple : Simple (at M) (corners M)
  pub used : (p : ℕ) → p < M.vertices → 0 < valence (at M) (corners M) p
  pub fans : (p : ℕ) → p < M.vertices → fan (at M) (corners M) p ≡ true
  pub inner-low : (p : ℕ) → p < M.vertices → on_boundary (at M) (corners M) p ≡ false → min_valence ≤ valence (at M) (corners M) p
  pub inner-high : (p : ℕ) → p < M.vertices → on_boundary (at M) (corners M) p ≡ false → valence (at M) (corners M) p ≤ max_valence
  pub boundary-low : (p : ℕ) → p < M.vertices → on_boundary (at M) (corners M) p ≡ true → min_boundary_faces ≤ valence (at M) (corners M) p
  pub boundary-high : (p : ℕ) → p < M.vertices → on_boundary (at M) (corners M) p ≡ true → valence (at M) (corners M) p ≤ max_boundary_faces
  pub tagged-boundary : (p : ℕ) → p < M.vertices → tag M p ≡ corner_tag → on_boundary (at M) (corners M) p ≡ true
