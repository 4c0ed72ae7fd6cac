-- What a passed test of sizes gives.
use mathlib.Core.Path.{◌≡◌, sym, ap, ◌∙◌, subst}
use mathlib.Core.Bool.{false, not}
use mathlib.Core.List.{List}
use Prim.Native.Nat.{ℕ, ◌*◌, ◌<◌}
use native.Mathlib.Nat.{lt_of_lt_of_le}
use native.Mathlib.Omega.{arith}
use lib.Dec.{eqb, ltb, leb}
use lib.IntN.{pos, nat_abs}
use lib.ListN.{length}
use borrow.Author.Tests.{eqb-true, not-false}
use Rattle.finite.specs.Fold.{any_below}
use Rattle.finite.proofs.AnyAll.{or-false}
use Rattle.finite.proofs.Lists.{any-of-list}
use Rattle.limits.specs.Limits.{min_vertices, max_vertices, min_faces, max_faces, max_coordinate, corner_tag}
use Rattle.limits.specs.Range.{off, sizes_off}
use Rattle.limits.proofs.RangeLaws.{off-false}
use Rattle.entries.specs.Entries.{any_coordinate_off, any_tag_off, any_vertex_off, vertex_again, any_vertex_twice}
use Rattle.mesh.specs.IndexedMesh.{IndexedMesh, corners, at, tag, coordinate}
use Rattle.mesh.specs.Refusal.{mesh_sizes_off, coordinate_off, tag_off, vertex_off, vertex_twice}
use Rattle.mesh.specs.WellFormed.{Sized, MeshSized}
use Rattle.mesh.specs.Tables.{Corners, Indices}

pub sizes-false : (v f positions tags indices : ℕ) → sizes_off v f positions tags indices ≡ false → Sized v f positions tags indices
unfolding sizes_off
sizes-false v f positions tags indices e =
    let h₁ = or-false (off min_vertices max_vertices v) _ e in
    let h₂ = or-false (off min_faces max_faces f) _ h₁.1 in
    let h₃ = or-false (not (eqb positions (3 * v))) _ h₂.1 in
    let h₄ = or-false (not (eqb tags v)) (not (eqb indices (4 * f))) h₃.1 in
    let vs = off-false min_vertices max_vertices v h₁.0 in
    let fs = off-false min_faces max_faces f h₂.0 in
    record {
      vertices-low = vs.0;
      vertices-high = vs.1;
      faces-low = fs.0;
      faces-high = fs.1;
      positions-are = eqb-true positions (3 * v) (not-false (eqb positions (3 * v)) h₃.0);
      tags-are = eqb-true tags v (not-false (eqb tags v) h₄.0);
      indices-are = eqb-true indices (4 * f) (not-false (eqb indices (4 * f)) h₄.1);
    }

pub mesh-sizes-false : (M : IndexedMesh) → mesh_sizes_off M ≡ false → MeshSized M
mesh-sizes-false M e = sizes-false M.vertices M.faces (length M.positions) (length M.tags) (length M.indices) e

-- the corners of a face list are whole faces
pub indices-corners : {faces : List ℕ} {n : ℕ} → Indices faces n → Corners n
indices-corners i = record { whole = i.whole; fits = omega arith }

-- a face list of the right size whose vertices are known is one of whole faces
pub sized-indices : (M : IndexedMesh) → MeshSized M → ((c : ℕ) → c < corners M → at M c < M.vertices) → Indices M.indices (corners M)
sized-indices M s named = record {
  whole = omega arith;
  few = omega arith;
  listed = omega arith;
  named = λ c l. lt_of_lt_of_le (named c l) s.vertices-high;
}

-- the same of all of the face list
pub listed-indices : (M : IndexedMesh) → MeshSized M → ((c : ℕ) → c < corners M → at M c < M.vertices) → Indices M.indices (length M.indices)
listed-indices M s named = subst (Indices M.indices) (sym s.indices-are) (sized-indices M s named)

-- ---- lists of the right lengths: a test of a whole list is the mesh's
module _ (M : IndexedMesh) (s : MeshSized M) where
  pub coordinates-sized : any_coordinate_off M.positions ≡ coordinate_off M
  unfolding coordinate_off
  coordinates-sized =
      any-of-list (λ x. ltb max_coordinate (nat_abs x)) M.positions (pos 0)
      ∙ ap (any_below (λ i. ltb max_coordinate (nat_abs (coordinate M i)))) s.positions-are

  pub tags-sized : any_tag_off M.tags ≡ tag_off M
  unfolding tag_off
  tags-sized = any-of-list (λ t. ltb corner_tag t) M.tags 0 ∙ ap (any_below (λ p. ltb corner_tag (tag M p))) s.tags-are

  pub vertices-sized : any_vertex_off M.vertices M.indices ≡ vertex_off M
  unfolding vertex_off
  vertices-sized = any-of-list (λ p. leb M.vertices p) M.indices 0 ∙ ap (any_below (λ c. leb M.vertices (at M c))) s.indices-are

  pub twice-sized : any_vertex_twice M.indices ≡ vertex_twice M
  unfolding vertex_twice
  twice-sized = ap (any_below (λ c. any_below (vertex_again M.indices c) 3)) (omega (arith, s.indices-are))
