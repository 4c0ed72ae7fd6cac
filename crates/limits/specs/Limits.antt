-- The limits of a mesh, one name each (rule M5): the values of the associated constants of the record `Mesh`.
--
-- Of the numbers of vertices and faces (rule M1), of the magnitude of a coordinate (rule M2), of a tag (rule M3), of the valence of an inner vertex
-- and of a boundary vertex (rule T6); and the mark for no twin (rule T3).
use Rattle.std.specs.Prelude.{ℕ}

abbrev pub min_vertices : ℕ
min_vertices = 4

abbrev pub max_vertices : ℕ
max_vertices = 512

abbrev pub min_faces : ℕ
min_faces = 1

abbrev pub max_faces : ℕ
max_faces = 256

abbrev pub max_coordinate : ℕ
max_coordinate = 1048576

abbrev pub min_valence : ℕ
min_valence = 3

abbrev pub max_valence : ℕ
max_valence = 16

abbrev pub min_boundary_faces : ℕ
min_boundary_faces = 1

abbrev pub max_boundary_faces : ℕ
max_boundary_faces = 8

-- the largest tag: 0 smooth, 1 corner
abbrev pub corner_tag : ℕ
corner_tag = 1

-- the twin of a half-edge that has none
abbrev pub no_twin : ℕ
no_twin = 65535
