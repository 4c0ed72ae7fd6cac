-- A mesh as it is passed in: the two sizes (rule M1) and the three lists.
--
--   positions   x, y and z of each vertex, in micrometres: 3V numbers (rule M2)
--   tags        0 or 1 for each vertex, smooth or corner: V numbers (rule M3)
--   indices     the vertex of each corner, face by face and counterclockwise: 4F numbers (rule M4)
use Rattle.std.specs.Prelude.{List, ℕ, ◌*◌, ℤ, pos, get_or}
use Rattle.mesh.specs.declared.model.MeshLists.{MeshLists}

pub record IndexedMesh : Type 0 where
  pub vertices : ℕ
  pub faces : ℕ
  pub positions : List ℤ
  pub tags : List ℕ
  pub indices : List ℕ

abbrev pub indexed : ℕ → ℕ → List ℤ → List ℕ → List ℕ → IndexedMesh
indexed v f positions tags indices = record { vertices = v; faces = f; positions = positions; tags = tags; indices = indices }

-- the mesh that the code's record of sizes and lists is
abbrev pub mesh_in : MeshLists → IndexedMesh
mesh_in m = indexed m.vertices m.faces m.positions.now m.tags.now m.indices.now

-- how many corners, and half-edges, it has
abbrev pub corners : IndexedMesh → ℕ
corners M = 4 * M.faces

-- the vertex of corner c
abbrev pub at : IndexedMesh → ℕ → ℕ
at M c = get_or M.indices c 0

-- the tag of vertex p
abbrev pub tag : IndexedMesh → ℕ → ℕ
tag M p = get_or M.tags p 0

-- number i of the positions
abbrev pub coordinate : IndexedMesh → ℕ → ℤ
coordinate M i = get_or M.positions i (pos 0)
