-- The meshes of the examples, each named by its situation.
use Rattle.std.specs.Prelude.{List, [], ◌∷◌, ◌++◌, ℕ, ◌+◌, ◌*◌, ℤ, pos, negsuc, replicate, take, drop}
use Rattle.mesh.specs.IndexedMesh.{IndexedMesh, indexed}

-- a square of 21 micrometres
abbrev pub square : IndexedMesh
square =
    indexed 4 1 (pos 0 ∷ pos 0 ∷ pos 0 ∷ pos 21 ∷ pos 0 ∷ pos 0 ∷ pos 21 ∷ pos 21 ∷ pos 0 ∷ pos 0 ∷ pos 21 ∷ pos 0 ∷ []) (replicate 4 0) (0 ∷ 1 ∷ 2 ∷ 3 ∷ [])

-- -24, as the cube has it
abbrev low : ℤ
low = negsuc 23

abbrev high : ℤ
high = pos 24

-- vertex p has low or high x, y and z by the bits of p from the lowest on; six faces turned outward, the first z = 24 from (24,24,24) on
abbrev pub cube : IndexedMesh
cube = indexed 8 6
    (low ∷ low ∷ low ∷ high ∷ low ∷ low ∷ low ∷ high ∷ low ∷ high ∷ high ∷ low
    ∷ low ∷ low ∷ high ∷ high ∷ low ∷ high ∷ low ∷ high ∷ high ∷ high ∷ high ∷ high ∷ [])
    (replicate 8 0)
    (7 ∷ 6 ∷ 4 ∷ 5 ∷ 0 ∷ 2 ∷ 3 ∷ 1 ∷ 0 ∷ 1 ∷ 5 ∷ 4 ∷ 2 ∷ 6 ∷ 7 ∷ 3 ∷ 0 ∷ 4 ∷ 6 ∷ 2 ∷ 1 ∷ 3 ∷ 7 ∷ 5 ∷ [])

-- v vertices, all at the origin and smooth, and these f faces
abbrev pub collapsed : ℕ → ℕ → List ℕ → IndexedMesh
collapsed v f indices = indexed v f (replicate (3 * v) (pos 0)) (replicate v 0) indices

-- one face and its back: every vertex has two faces
abbrev pub pillow : IndexedMesh
pillow = collapsed 4 2 (0 ∷ 1 ∷ 2 ∷ 3 ∷ 3 ∷ 2 ∷ 1 ∷ 0 ∷ [])

-- the same face twice
abbrev pub doubled_face : IndexedMesh
doubled_face = collapsed 4 2 (0 ∷ 1 ∷ 2 ∷ 3 ∷ 0 ∷ 1 ∷ 2 ∷ 3 ∷ [])

-- two faces that share a vertex but no half-edge
abbrev pub bow_tie : IndexedMesh
bow_tie = collapsed 7 2 (0 ∷ 1 ∷ 2 ∷ 3 ∷ 0 ∷ 4 ∷ 5 ∷ 6 ∷ [])

-- two faces side by side: vertices 1 and 4 are boundary vertices of two faces
abbrev pub strip : IndexedMesh
strip =
    indexed 6 2
    (pos 0 ∷ pos 0 ∷ pos 0 ∷ pos 9 ∷ pos 0 ∷ pos 0 ∷ pos 18 ∷ pos 0 ∷ pos 9
    ∷ pos 18 ∷ pos 9 ∷ pos 0 ∷ pos 9 ∷ pos 9 ∷ pos 0 ∷ pos 0 ∷ pos 9 ∷ pos 0 ∷ [])
    (replicate 6 0) (0 ∷ 1 ∷ 4 ∷ 5 ∷ 1 ∷ 2 ∷ 3 ∷ 4 ∷ [])

-- three of the four squares about vertex 4, which has a reentrant corner there: vertices 1 and 3 have two faces, the others one
abbrev pub reentrant : IndexedMesh
reentrant =
    indexed 8 3
    (pos 0 ∷ pos 0 ∷ pos 0 ∷ pos 99 ∷ pos 0 ∷ pos 0 ∷ pos 198 ∷ pos 0 ∷ pos 0 ∷ pos 0 ∷ pos 99 ∷ pos 0
    ∷ pos 99 ∷ pos 99 ∷ pos 0 ∷ pos 198 ∷ pos 99 ∷ pos 0 ∷ pos 0 ∷ pos 198 ∷ pos 0 ∷ pos 99 ∷ pos 198 ∷ pos 0 ∷ [])
    (replicate 8 0) (0 ∷ 1 ∷ 4 ∷ 3 ∷ 1 ∷ 2 ∷ 5 ∷ 4 ∷ 3 ∷ 4 ∷ 7 ∷ 6 ∷ [])

-- a mesh with tags of its own
abbrev pub tagged : IndexedMesh → List ℕ → IndexedMesh
tagged M tags = indexed M.vertices M.faces M.positions tags M.indices

-- a mesh with the number z at place i of its positions: coordinate k of vertex p has the place 3p + k
abbrev pub moved : IndexedMesh → ℕ → ℤ → IndexedMesh
moved M i z = indexed M.vertices M.faces (take i M.positions ++ (z ∷ drop (i + 1) M.positions)) M.tags M.indices

-- the strip with z of vertex 2 at 10, which 3 does not divide, as it does 9
abbrev pub raised_strip : IndexedMesh
raised_strip = moved strip 8 (pos 10)

-- the square with x at 20 for 21
abbrev pub narrow_square : IndexedMesh
narrow_square = moved (moved square 3 (pos 20)) 6 (pos 20)

-- an open fan about vertex 0: each face has the centre, a spoke, an outer vertex and the next spoke
abbrev pub open_fan_of_eight : IndexedMesh
open_fan_of_eight =
    collapsed 18 8
    (0 ∷ 1 ∷ 10 ∷ 2 ∷ 0 ∷ 2 ∷ 11 ∷ 3 ∷ 0 ∷ 3 ∷ 12 ∷ 4 ∷ 0 ∷ 4 ∷ 13 ∷ 5
    ∷ 0 ∷ 5 ∷ 14 ∷ 6 ∷ 0 ∷ 6 ∷ 15 ∷ 7 ∷ 0 ∷ 7 ∷ 16 ∷ 8 ∷ 0 ∷ 8 ∷ 17 ∷ 9 ∷ [])

abbrev pub open_fan_of_nine : IndexedMesh
open_fan_of_nine =
    collapsed 20 9
    (0 ∷ 1 ∷ 11 ∷ 2 ∷ 0 ∷ 2 ∷ 12 ∷ 3 ∷ 0 ∷ 3 ∷ 13 ∷ 4 ∷ 0 ∷ 4 ∷ 14 ∷ 5
    ∷ 0 ∷ 5 ∷ 15 ∷ 6 ∷ 0 ∷ 6 ∷ 16 ∷ 7 ∷ 0 ∷ 7 ∷ 17 ∷ 8 ∷ 0 ∷ 8 ∷ 18 ∷ 9 ∷ 0 ∷ 9 ∷ 19 ∷ 10 ∷ [])

-- three boxes joined to an L, a little askew: vertices of three, four and five faces
abbrev pub boxes : IndexedMesh
boxes =
    indexed 16 14
    (pos 0 ∷ pos 0 ∷ pos 0 ∷ pos 0 ∷ pos 3 ∷ pos 37 ∷ pos 2 ∷ pos 32 ∷ pos 37 ∷ pos 0 ∷ pos 29 ∷ pos 0
    ∷ pos 31 ∷ pos 0 ∷ pos 0 ∷ pos 31 ∷ pos 3 ∷ pos 37 ∷ pos 33 ∷ pos 32 ∷ pos 42 ∷ pos 31 ∷ pos 29 ∷ pos 5
    ∷ pos 31 ∷ pos 58 ∷ pos 10 ∷ pos 35 ∷ pos 61 ∷ pos 47 ∷ pos 4 ∷ pos 61 ∷ pos 37 ∷ pos 0 ∷ pos 58 ∷ pos 0
    ∷ pos 62 ∷ pos 0 ∷ pos 0 ∷ pos 62 ∷ pos 29 ∷ pos 10 ∷ pos 64 ∷ pos 32 ∷ pos 47 ∷ pos 62 ∷ pos 3 ∷ pos 37 ∷ [])
    (replicate 16 0)
    (0 ∷ 1 ∷ 2 ∷ 3 ∷ 0 ∷ 4 ∷ 5 ∷ 1 ∷ 1 ∷ 5 ∷ 6 ∷ 2 ∷ 0 ∷ 3 ∷ 7 ∷ 4
    ∷ 7 ∷ 8 ∷ 9 ∷ 6 ∷ 3 ∷ 2 ∷ 10 ∷ 11 ∷ 11 ∷ 10 ∷ 9 ∷ 8 ∷ 2 ∷ 6 ∷ 9 ∷ 10
    ∷ 3 ∷ 11 ∷ 8 ∷ 7 ∷ 12 ∷ 13 ∷ 14 ∷ 15 ∷ 7 ∷ 6 ∷ 14 ∷ 13 ∷ 4 ∷ 12 ∷ 15 ∷ 5
    ∷ 5 ∷ 15 ∷ 14 ∷ 6 ∷ 4 ∷ 7 ∷ 13 ∷ 12 ∷ [])

-- three times three squares: only the face in the middle, number 4, has no corner on the boundary
abbrev pub grid : IndexedMesh
grid =
    collapsed 16 9
    (0 ∷ 1 ∷ 5 ∷ 4 ∷ 1 ∷ 2 ∷ 6 ∷ 5 ∷ 2 ∷ 3 ∷ 7 ∷ 6
    ∷ 4 ∷ 5 ∷ 9 ∷ 8 ∷ 5 ∷ 6 ∷ 10 ∷ 9 ∷ 6 ∷ 7 ∷ 11 ∷ 10
    ∷ 8 ∷ 9 ∷ 13 ∷ 12 ∷ 9 ∷ 10 ∷ 14 ∷ 13 ∷ 10 ∷ 11 ∷ 15 ∷ 14 ∷ [])
