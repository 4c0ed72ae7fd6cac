-- The mesh that a new numbering of vertices and faces makes, with any start for each face. proofs/RenumberedLaws.antt: for each such choice
-- it is a `Renumbering`, with these very permutations and starts, and every renumbering is made so.
--
--   renumber M v f start   vertex p gets the number v .to p and face g the number f .to g, and g begins at its corner `start g`
use Rattle.std.specs.Prelude.{ℕ, ◌+◌, ◌*◌, ◌/◌, ◌%◌, pos}
use Rattle.finite.specs.Filled.{list_below}
use Rattle.finite.specs.Permutation.{Permutation}
use Rattle.mesh.specs.IndexedMesh.{IndexedMesh, indexed, corners, at}
use Rattle.symmetry.specs.Carried.{threes, list_from}

-- corner c of the mesh so made was this corner of M
abbrev pub corner_was : {faces : ℕ} → Permutation faces → (ℕ → ℕ) → ℕ → ℕ
corner_was f start c = 4 * f.from (c / 4) + (start (f.from (c / 4)) + c % 4) % 4

abbrev pub renumber : (M : IndexedMesh) → Permutation M.vertices → Permutation M.faces → (ℕ → ℕ) → IndexedMesh
renumber M v f start =
    indexed M.vertices M.faces
    (list_from (pos 0) (threes v.from) (3 * M.vertices) M.positions)
    (list_from 0 v.from M.vertices M.tags)
    (list_below (λ c. v.to (at M (corner_was f start c))) (corners M))
