-- A renumbering M' of a mesh M (rule C8): the user says that M' comes from M.
--
--   ByCorner z rename to start n xs ys   lists with one entry a corner, of n faces: ys is as long as xs, and where face f gets the number `to f` and
--                      begins at its corner `start f`, its corner s has there what corner start + s, modulo 4, has in xs, renamed
--   vertex_map, face_map   the permutations: the new number of each vertex and of each face
--   start f            face f, by its old number, begins at this one of its corners in M'
--   Place              a place (a, b) of a face, for an N
--   matching n s p     the place that matches p in the face begun s corners later: (a, b) goes to (b, N - a), s times (rule C9)
--   on_side n s t       place t of half-edge 4f + s, as a place of face f (rule C6)
use Rattle.std.specs.Prelude.{◌≡◌, List, ℕ, zero, suc, ◌+◌, ◌-◌, ◌*◌, ◌%◌, ◌<◌, pos, length, get_or}
use Rattle.finite.specs.Permutation.{Permutation}
use Rattle.mesh.specs.IndexedMesh.{IndexedMesh}
use Rattle.symmetry.specs.Carried.{Carried, threes}

pub record ByCorner {A : Type 0} (z : A) (rename : A → A) (to start : ℕ → ℕ) (n : ℕ) (xs ys : List A) : Type 0 where
  pub same_length : length ys ≡ length xs
  pub moves : (f s : ℕ) → f < n → s < 4 → get_or ys (4 * to f + s) z ≡ rename (get_or xs (4 * f + (start f + s) % 4) z)

pub record Renumbering (M M' : IndexedMesh) : Type 0 where
  pub same-vertices : M'.vertices ≡ M.vertices
  pub same-faces : M'.faces ≡ M.faces
  pub vertex_map : Permutation M.vertices
  pub face_map : Permutation M.faces
  pub start : ℕ → ℕ
  pub start-below : (f : ℕ) → f < M.faces → start f < 4
  -- a vertex keeps its position and tag under its new number
  pub positions-carried : Carried (pos 0) (threes vertex_map.to) (3 * M.vertices) M.positions M'.positions
  pub tags-carried : Carried 0 vertex_map.to M.vertices M.tags M'.tags
  -- corner s of the new face is corner start + s, modulo 4, of the old one, and names that vertex's new number
  pub faces-carried : ByCorner 0 vertex_map.to face_map.to start M.faces M.indices M'.indices

pub record Place : Type 0 where
  pub a : ℕ
  pub b : ℕ

abbrev pub place : ℕ → ℕ → Place
place a b = record { a = a; b = b }

abbrev pub matching : ℕ → ℕ → Place → Place
matching n zero p = p
matching n (suc s) p = matching n s (place p.b (n - p.a))

abbrev pub on_side : ℕ → ℕ → ℕ → Place
on_side n zero t = place t 0
on_side n (suc zero) t = place n t
on_side n (suc (suc zero)) t = place (n - t) n
on_side n (suc (suc (suc s))) t = place 0 (n - t)
