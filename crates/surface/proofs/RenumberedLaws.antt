-- A renumbering is as wide as rule C8 has it: any two permutations, of vertices and of faces, and any start below 4 for each face make one.
use mathlib.Core.Path.{◌≡◌, refl, sym, ap, ◌∙◌}
use mathlib.Core.List.{List}
use Prim.Native.Nat.{ℕ, ◌+◌, ◌*◌, ◌/◌, ◌%◌, ◌<◌}
use native.Mathlib.Omega.{arith}
use lib.IntN.{pos}
use lib.ListN.{length, get_or}
use Rattle.finite.specs.Filled.{list_below}
use Rattle.finite.specs.Permutation.{Permutation}
use Rattle.finite.proofs.FilledLaws.{length-list_below, list_below-at, list-below}
use Rattle.mesh.specs.IndexedMesh.{IndexedMesh}
use Rattle.mesh.specs.WellFormed.{MeshSized}
use Rattle.symmetry.proofs.CarriedLaws.{carried-list, carried-made, threes_of}
use Rattle.surface.specs.Renumbering.{ByCorner, Renumbering}
use Rattle.surface.specs.Renumbered.{corner_was, renumber}

-- ---- a list by corner
module _ {A : Type 0} (z : A) (rename : A → A) {n : ℕ} (f : Permutation n) (start : ℕ → ℕ) (xs : List A) (whole : length xs ≡ 4 * n) where
  abbrev made : List A
  made = list_below (λ c. rename (get_or xs (corner_was f start c) z)) (4 * n)

  corners-list : ByCorner z rename f.to start n xs made
  corners-list = record {
    same_length = length-list_below _ (4 * n) ∙ sym whole;
    moves = λ g s l h.
        let i : (4 * f.to g + s) / 4 ≡ f.to g = omega arith in
        let j : (4 * f.to g + s) % 4 ≡ s = omega arith in
        list_below-at _ (4 * n) (4 * f.to g + s) z (omega (arith, f.to_below g l)) ∙ rw (i, j, f.from-to g l);
  }

  corners-made : (ys : List A) → ByCorner z rename f.to start n xs ys → ys ≡ made
  corners-made ys w =
      list-below ys z (4 * n) _ (w.same_length ∙ whole) (λ c l.
      let g : ℕ = f.from (c / 4) in
      let b : c / 4 < n = omega arith in
      let e : c ≡ 4 * f.to g + c % 4 = rw (f.to-from (c / 4) b) (omega arith) in
      ap (λ (d : ℕ). get_or ys d z) e ∙ w.moves g (c % 4) (f.from-below (c / 4) b) (omega arith))

-- a renumbering with these very permutations and starts
pub record Choice (M M' : IndexedMesh) (v : Permutation M.vertices) (f : Permutation M.faces) (start : ℕ → ℕ) : Type 0 where
  pub chosen : Renumbering M M'
  pub vertices-are : chosen.vertex_map ≡ v
  pub faces-are : chosen.face_map ≡ f
  pub start_is : chosen.start ≡ start

-- the mesh made of a choice, for a mesh whose lists have the lengths of its sizes
module _ (M : IndexedMesh) (v : Permutation M.vertices) (f : Permutation M.faces) (start : ℕ → ℕ) where
  abbrev M' : IndexedMesh
  M' = renumber M v f start

  pub renumbering : MeshSized M → ((g : ℕ) → g < M.faces → start g < 4) → Choice M M' v f start
  unfolding threes_of
  renumbering sized below = record {
    chosen = record {
      same-vertices = refl;
      same-faces = refl;
      vertex_map = v;
      face_map = f;
      start = start;
      start-below = below;
      positions-carried = carried-list (pos 0) (threes_of v) M.positions sized.positions-are;
      tags-carried = carried-list 0 v M.tags sized.tags-are;
      faces-carried = corners-list 0 v.to f start M.indices sized.indices-are;
    };
    vertices-are = refl;
    faces-are = refl;
    start_is = refl;
  }

-- every renumbering is made so
pub renumbering-made : {M M' : IndexedMesh} → MeshSized M → (r : Renumbering M M') → M' ≡ renumber M r.vertex_map r.face_map r.start
unfolding threes_of
renumbering-made {M} {M'} sized r = λ i. record {
  vertices = r.same-vertices i;
  faces = r.same-faces i;
  positions = carried-made (pos 0) (threes_of r.vertex_map) M.positions sized.positions-are M'.positions r.positions-carried i;
  tags = carried-made 0 r.vertex_map M.tags sized.tags-are M'.tags r.tags-carried i;
  indices = corners-made 0 r.vertex_map.to r.face_map r.start M.indices sized.indices-are M'.indices r.faces-carried i;
}
