-- What a file holds: V, F and N, two bytes each; the positions, four bytes each in two's complement; the tags, a byte each; the faces, two bytes
-- each; every number low byte first (rule F1).
--
--   vertices b, faces b, steps b   V, F and N of the file b
--   position_at b i, tag_at b p, index_at b c   number i of the positions, the tag of vertex p, the vertex of corner c
--   mesh_of b            the mesh that the file holds
--   file_rows b          the rows of the bytes alone, in their order: 15 for fewer than 6 bytes, 1 for V and F, 15 for the length (rule R3)
use Rattle.std.specs.Prelude.{Bool, not, ◌||◌, List, [], ◌∷◌, ℕ, ◌+◌, ◌*◌, eqb, ltb, ℤ, length, get_or}
use Rattle.finite.specs.Filled.{list_below}
use Rattle.answer.specs.Table.{Row, row}
use Rattle.limits.specs.Limits.{min_vertices, max_vertices, min_faces, max_faces}
use Rattle.limits.specs.Range.{off}
use Rattle.mesh.specs.IndexedMesh.{IndexedMesh, indexed}
use Rattle.decoding.specs.Bytes.{le16, le32, signed32}

abbrev pub vertices : List ℕ → ℕ
vertices b = le16 b 0

abbrev pub faces : List ℕ → ℕ
faces b = le16 b 2

abbrev pub steps : List ℕ → ℕ
steps b = le16 b 4

abbrev pub position_at : List ℕ → ℕ → ℤ
position_at b i = signed32 (le32 b (6 + 4 * i))

abbrev pub tag_at : List ℕ → ℕ → ℕ
tag_at b p = get_or b (6 + 12 * vertices b + p) 0

abbrev pub index_at : List ℕ → ℕ → ℕ
index_at b c = le16 b (6 + 13 * vertices b + 2 * c)

unfoldable pub mesh_of : List ℕ → IndexedMesh
mesh_of b =
    indexed (vertices b) (faces b) (list_below (position_at b) (3 * vertices b)) (list_below (tag_at b) (vertices b)) (list_below (index_at b) (4 * faces b))

-- 15: the file has fewer than 6 bytes
unfoldable pub header_short : List ℕ → Bool
header_short b = ltb (length b) 6

-- 1: V or F off its range
unfoldable pub header_off : List ℕ → Bool
header_off b = off min_vertices max_vertices (vertices b) || off min_faces max_faces (faces b)

-- 15: the file does not have 6 + 13V + 8F bytes (rule F2)
unfoldable pub length_off : List ℕ → Bool
length_off b = not (eqb (length b) (6 + 13 * vertices b + 8 * faces b))

abbrev pub file_rows : List ℕ → List Row
file_rows b = row (header_short b) 15 ∷ (row (header_off b) 1 ∷ (row (length_off b) 15 ∷ []))
