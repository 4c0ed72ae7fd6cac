-- An accepted mesh and the causes of refusal: the facts of `WellFormed` hold exactly where the mesh is `Accepted`, which is to say that no
-- cause that concerns the mesh itself is met.
-- For each cause, `-false` says what follows where it is not met, and `-none` that these facts rule it out.
use mathlib.Core.Path.{◌≡◌, refl, ap, ◌∙◌}
use mathlib.Core.Bool.{true, false, not}
use mathlib.Core.List.{List, []}
use mathlib.Core.Option.{none}
use Prim.Native.Nat.{ℕ, suc, ◌+◌, ◌*◌, ◌≤◌, ◌<◌}
use native.Mathlib.Omega.{arith}
use lib.Dec.{eqb}
use lib.IntN.{nat_abs}
use borrow.Author.Tests.{ltb-false, leb-false, eqb-true, eqb-false, not-false, le-ltb, lt-leb, eq-eqb, ne_eqb}
use Rattle.finite.proofs.FoldLaws.{bool_cases}
use Rattle.finite.proofs.AnyAll.{any_false, any_none}
use Rattle.answer.specs.Table.{Row, first_met}
use Rattle.answer.proofs.TableLaws.{skipped, none-met, none-append, append-none}
use Rattle.limits.specs.Limits.{min_vertices, max_vertices, min_faces, max_faces, max_coordinate, corner_tag}
use Rattle.limits.specs.Limits.{min_valence, max_valence, min_boundary_faces, max_boundary_faces}
use Rattle.limits.specs.Range.{off, sizes_off}
use Rattle.limits.proofs.RangeLaws.{off-false}
use Rattle.corner.specs.Corner.{turn, next}
use Rattle.mesh.specs.HalfEdge.{edges, boundaries, Simple}
use Rattle.mesh.specs.Fan.{valence, on_boundary, fan}
use Rattle.mesh.specs.IndexedMesh.{IndexedMesh, corners, at, tag, coordinate}
use Rattle.mesh.specs.Refusal.{mesh_sizes_off, coordinate_off, tag_off, vertex_off, vertex_twice, half_edge_twice, list_rows}
use Rattle.mesh.specs.Refusal.{vertex_unused, fan_broken, valence_off, inner_tagged, entry_rows, early_rows, late_rows, Accepted}
use Rattle.mesh.specs.WellFormed.{Sized, WellFormed}
use Rattle.mesh.proofs.TwinLaws.{doubled-simple, simple-doubled}
use Rattle.mesh.proofs.SizeLaws.{mesh-sizes-false}
use Rattle.mesh.proofs.EdgeLaws.{edges-twice}
use Rattle.mesh.specs.Tables.{Corners}

-- ---- 1: sizes
pub off-none : (a b x : ℕ) → a ≤ x → x ≤ b → off a b x ≡ false
off-none a b x l h = rw (le-ltb x a l, le-ltb b x h)

pub sizes-none : {v f positions tags indices : ℕ} → Sized v f positions tags indices → sizes_off v f positions tags indices ≡ false
unfolding sizes_off
sizes-none {v} {f} {positions} {tags} {indices} s =
    rw (
      off-none min_vertices max_vertices v s.vertices-low s.vertices-high,
      off-none min_faces max_faces f s.faces-low s.faces-high,
      eq-eqb positions (3 * v) s.positions-are,
      eq-eqb tags v s.tags-are,
      eq-eqb indices (4 * f) s.indices-are,
    )

module _ (M : IndexedMesh) where
  -- ---- 3: coordinates
  pub coordinate-false : coordinate_off M ≡ false → (i : ℕ) → i < 3 * M.vertices → nat_abs (coordinate M i) ≤ max_coordinate
  unfolding coordinate_off
  coordinate-false e i l = ltb-false max_coordinate (nat_abs (coordinate M i)) (any_false _ (3 * M.vertices) e i l)

  pub coordinate-none : ((i : ℕ) → i < 3 * M.vertices → nat_abs (coordinate M i) ≤ max_coordinate) → coordinate_off M ≡ false
  unfolding coordinate_off
  coordinate-none h = any_none _ (3 * M.vertices) (λ i l. le-ltb max_coordinate (nat_abs (coordinate M i)) (h i l))

  -- ---- 4: tags
  pub tag-false : tag_off M ≡ false → (p : ℕ) → p < M.vertices → tag M p ≤ corner_tag
  unfolding tag_off
  tag-false e p l = ltb-false corner_tag (tag M p) (any_false _ M.vertices e p l)

  pub tag-none : ((p : ℕ) → p < M.vertices → tag M p ≤ corner_tag) → tag_off M ≡ false
  unfolding tag_off
  tag-none h = any_none _ M.vertices (λ p l. le-ltb corner_tag (tag M p) (h p l))

  -- ---- 5: the vertices that faces name
  pub vertex-false : vertex_off M ≡ false → (c : ℕ) → c < corners M → at M c < M.vertices
  unfolding vertex_off
  vertex-false e c l = leb-false M.vertices (at M c) (any_false _ (corners M) e c l)

  pub vertex-none : ((c : ℕ) → c < corners M → at M c < M.vertices) → vertex_off M ≡ false
  unfolding vertex_off
  vertex-none h = any_none _ (corners M) (λ c l. lt-leb M.vertices (at M c) (h c l))

  -- ---- 6: a vertex twice in a face
  pub twice-false : vertex_twice M ≡ false → (c i : ℕ) → c < corners M → i < 3 → at M (turn (suc i) c) ≡ at M c → ⊥
  unfolding vertex_twice
  twice-false e c i l b = eqb-false (at M (turn (suc i) c)) (at M c) (any_false _ 3 (any_false _ (corners M) e c l) i b)

  pub twice-none : ((c i : ℕ) → c < corners M → i < 3 → at M (turn (suc i) c) ≡ at M c → ⊥) → vertex_twice M ≡ false
  unfolding vertex_twice
  twice-none h = any_none _ (corners M) (λ c l. any_none _ 3 (λ i b. ne_eqb (at M (turn (suc i) c)) (at M c) (h c i l b)))

  -- ---- 7: a half-edge twice
  pub half-edge-false : half_edge_twice M ≡ false → Simple (at M) (corners M)
  unfolding half_edge_twice
  half-edge-false e = doubled-simple (at M) (corners M) e

  pub half-edge-none : Simple (at M) (corners M) → half_edge_twice M ≡ false
  unfolding half_edge_twice
  half-edge-none h = simple-doubled (at M) (corners M) h

module _ (at : ℕ → ℕ) (n v : ℕ) where
  -- ---- 8: a vertex in no face
  pub unused-false : vertex_unused at n v ≡ false → (p : ℕ) → p < v → 0 < valence at n p
  unfolding vertex_unused
  unused-false e p l = omega (arith, eqb-false (valence at n p) 0 (any_false _ v e p l))

  pub unused-none : ((p : ℕ) → p < v → 0 < valence at n p) → vertex_unused at n v ≡ false
  unfolding vertex_unused
  unused-none h = any_none _ v (λ p l. ne_eqb (valence at n p) 0 (λ e. omega (arith, h p l)))

  -- ---- 9: the corners at a vertex
  pub fan-false : fan_broken at n v ≡ false → (p : ℕ) → p < v → fan at n p ≡ true
  unfolding fan_broken
  fan-false e p l = not-false (fan at n p) (any_false _ v e p l)

  pub fan-none : ((p : ℕ) → p < v → fan at n p ≡ true) → fan_broken at n v ≡ false
  unfolding fan_broken
  fan-none h = any_none _ v (λ p l. ap not (h p l))

  -- ---- 10: how many corners are at an inner vertex, and at one of the boundary
  pub inner-false : valence_off at n v ≡ false → (p : ℕ) → p < v → on_boundary at n p ≡ false
      → (min_valence ≤ valence at n p) × (valence at n p ≤ max_valence)
  unfolding valence_off
  inner-false e p l b = off-false min_valence max_valence (valence at n p) (rw b at (any_false _ v e p l))

  pub boundary-false : valence_off at n v ≡ false → (p : ℕ) → p < v → on_boundary at n p ≡ true
      → (min_boundary_faces ≤ valence at n p) × (valence at n p ≤ max_boundary_faces)
  unfolding valence_off
  boundary-false e p l b = off-false min_boundary_faces max_boundary_faces (valence at n p) (rw b at (any_false _ v e p l))

  pub valence-none :
      ((p : ℕ) → p < v → on_boundary at n p ≡ false → (min_valence ≤ valence at n p) × (valence at n p ≤ max_valence))
      → ((p : ℕ) → p < v → on_boundary at n p ≡ true → (min_boundary_faces ≤ valence at n p) × (valence at n p ≤ max_boundary_faces))
      → valence_off at n v ≡ false
  unfolding valence_off
  valence-none inner outer =
      any_none _ v (λ p l.
      let m = valence at n p in
      bool_cases (on_boundary at n p)
      (λ t. let w = outer p l t in rw t (off-none min_boundary_faces max_boundary_faces m w.0 w.1))
      (λ t. let w = inner p l t in rw t (off-none min_valence max_valence m w.0 w.1)))

module _ (M : IndexedMesh) where
  -- ---- 11: the tags of inner vertices
  pub tagged-false : inner_tagged M ≡ false → (p : ℕ) → p < M.vertices → tag M p ≡ corner_tag → on_boundary (at M) (corners M) p ≡ true
  unfolding inner_tagged
  tagged-false e p l q = not-false (on_boundary (at M) (corners M) p) (rw (eq-eqb (tag M p) corner_tag q) at (any_false _ M.vertices e p l))

  pub tagged-none : ((p : ℕ) → p < M.vertices → tag M p ≡ corner_tag → on_boundary (at M) (corners M) p ≡ true) → inner_tagged M ≡ false
  unfolding inner_tagged
  tagged-none h =
      any_none _ M.vertices (λ p l.
      bool_cases (eqb (tag M p) corner_tag) (λ t. rw (t, h p l (eqb-true (tag M p) corner_tag t))) (λ t. rw t))

-- ---- no cause is met exactly where the mesh is well-formed
pub accepted-early : {M : IndexedMesh} → WellFormed M → (own : List Row) → first_met own ≡ none → first_met (early_rows M own) ≡ none
accepted-early {M} a own e =
    skipped 1 _ (sizes-none a.sized)
    ∙ none-append own (entry_rows M) e
    ∙ skipped 3 _ (coordinate-none M a.coordinates)
    ∙ skipped 4 _ (tag-none M a.tags-known)
    ∙ skipped 5 _ (vertex-none M a.named)
    ∙ skipped 6 _ (twice-none M a.distinct)
    ∙ skipped 7 _ (half-edge-none M a.simple)

pub accepted-late : {M : IndexedMesh} → WellFormed M → first_met (late_rows M) ≡ none
accepted-late {M} a =
    skipped 8 _ (unused-none (at M) (corners M) M.vertices a.used)
    ∙ skipped 9 _ (fan-none (at M) (corners M) M.vertices a.fans)
    ∙ skipped 10 _
    (valence-none (at M) (corners M) M.vertices
    (λ p l b. (a.inner-low p l b, a.inner-high p l b))
    (λ p l b. (a.boundary-low p l b, a.boundary-high p l b)))
    ∙ skipped 11 _ (tagged-none M a.tagged-boundary)

-- the causes that are checked before the twins are written, none of them met, nor a row of the call's own
pub record EarlyUnmet (M : IndexedMesh) (own : List Row) : Type 0 where
  pub sizes : mesh_sizes_off M ≡ false
  pub rows : first_met own ≡ none
  pub coordinate : coordinate_off M ≡ false
  pub tag : tag_off M ≡ false
  pub vertex : vertex_off M ≡ false
  pub twice : vertex_twice M ≡ false
  pub half-edge : half_edge_twice M ≡ false

pub early-unmet : (M : IndexedMesh) (own : List Row) → first_met (early_rows M own) ≡ none → EarlyUnmet M own
early-unmet M own early =
    let h₁ = none-met (mesh_sizes_off M) 1 _ early in
    let h₂ = append-none own (entry_rows M) h₁.1 in
    let h₃ = none-met (coordinate_off M) 3 _ h₂.1 in
    let h₄ = none-met (tag_off M) 4 _ h₃.1 in
    let h₅ = none-met (vertex_off M) 5 _ h₄.1 in
    let h₆ = none-met (vertex_twice M) 6 _ h₅.1 in
    let h₇ = none-met (half_edge_twice M) 7 _ h₆.1 in
    record { sizes = h₁.0; rows = h₂.0; coordinate = h₃.0; tag = h₄.0; vertex = h₅.0; twice = h₆.0; half-edge = h₇.0 }

-- where no row of the lists is met, the faces name known vertices
pub lists-unmet : (M : IndexedMesh) → first_met (list_rows M) ≡ none → vertex_off M ≡ false
lists-unmet M e =
    let h₃ = none-met (coordinate_off M) 3 _ e in
    let h₄ = none-met (tag_off M) 4 _ h₃.1 in
    (none-met (vertex_off M) 5 _ h₄.1).0

pub accepted-from : (M : IndexedMesh) (own : List Row) → first_met (early_rows M own) ≡ none → first_met (late_rows M) ≡ none → WellFormed M
accepted-from M own early late =
    let u = early-unmet M own early in
    let h₈ = none-met (vertex_unused (at M) (corners M) M.vertices) 8 _ late in
    let h₉ = none-met (fan_broken (at M) (corners M) M.vertices) 9 _ h₈.1 in
    let h₁₀ = none-met (valence_off (at M) (corners M) M.vertices) 10 _ h₉.1 in
    let h₁₁ = none-met (inner_tagged M) 11 _ h₁₀.1 in
    let inner = inner-false (at M) (corners M) M.vertices h₁₀.0 in
    let outer = boundary-false (at M) (corners M) M.vertices h₁₀.0 in
    record {
      sized = mesh-sizes-false M u.sizes;
      coordinates = coordinate-false M u.coordinate;
      tags-known = tag-false M u.tag;
      named = vertex-false M u.vertex;
      distinct = twice-false M u.twice;
      simple = half-edge-false M u.half-edge;
      used = unused-false (at M) (corners M) M.vertices h₈.0;
      fans = fan-false (at M) (corners M) M.vertices h₉.0;
      inner-low = λ p l b. (inner p l b).0;
      inner-high = λ p l b. (inner p l b).1;
      boundary-low = λ p l b. (outer p l b).0;
      boundary-high = λ p l b. (outer p l b).1;
      tagged-boundary = tagged-false M h₁₁.0;
    }

pub well-formed-accepted : {M : IndexedMesh} → WellFormed M → Accepted M
unfolding Accepted
well-formed-accepted {M} a = none-append (early_rows M []) (late_rows M) (accepted-early a [] refl) ∙ accepted-late a

pub accepted-well-formed : {M : IndexedMesh} → Accepted M → WellFormed M
unfolding Accepted
accepted-well-formed {M} e = let h = append-none (early_rows M []) (late_rows M) e in accepted-from M [] h.0 h.1

-- ---- what an accepted mesh has
pub accepted-corners : {M : IndexedMesh} → WellFormed M → Corners (corners M)
accepted-corners {M} a = record { whole = omega arith; fits = omega arith }

-- a half-edge has two ends
pub accepted-ends : {M : IndexedMesh} → WellFormed M → (c : ℕ) → c < corners M → at M (next c) ≡ at M c → ⊥
accepted-ends a c l = a.distinct c 0 l (omega arith)

-- 4F + B = 2E (rule T8)
pub accepted-edges : {M : IndexedMesh} → WellFormed M → 4 * M.faces + boundaries (at M) (corners M) ≡ 2 * edges (at M) (corners M) M.vertices
accepted-edges {M} a = edges-twice (at M) (accepted-corners a) a.simple a.named (accepted-ends a)
