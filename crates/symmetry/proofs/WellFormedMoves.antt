-- A mesh of one shape with a well-formed one is well-formed, and has as many edges and boundary half-edges.
--
--   Alike z M M'    M' has the sizes of M and is of one shape with it; each vertex takes its tag and the sizes of its coordinates along
use mathlib.Core.Path.{◌≡◌, refl, sym, ap, ◌∙◌, subst₂}
use mathlib.Core.Bool.{true, false}
use Prim.Native.Nat.{ℕ, zero, suc, ◌+◌, ◌*◌, ◌/◌, ◌%◌, ◌≤◌, ◌<◌}
use native.Mathlib.Omega.{arith}
use lib.IntN.{nat_abs}
use lib.ListN.{length}
use Rattle.finite.specs.Fold.{indicator}
use Rattle.finite.proofs.FoldLaws.{fold-ext, fold-reindex}
use Rattle.finite.proofs.Counting.{sum-monoid}
use Rattle.finite.proofs.PermutationLaws.{to-every}
use Rattle.limits.specs.Limits.{max_coordinate, min_valence, max_valence, min_boundary_faces, max_boundary_faces, corner_tag}
use Rattle.corner.specs.Corner.{turn}
use Rattle.mesh.specs.HalfEdge.{boundary, edges, boundaries}
use Rattle.mesh.specs.Fan.{valence, on_boundary, fan}
use Rattle.mesh.specs.IndexedMesh.{IndexedMesh, indexed, corners, at, tag, coordinate}
use Rattle.mesh.specs.WellFormed.{WellFormed}
use Rattle.mesh.proofs.AcceptedLaws.{accepted-corners, accepted-edges}
use Rattle.symmetry.specs.Carried.{Carried}
use Rattle.symmetry.proofs.Sense.{Sense, same, reversed, turned, turned-below}
use Rattle.symmetry.proofs.Iso.{Sound, Iso, half_edges, at_turn, at-reflects, sound-moves, boundary-moves}
use Rattle.symmetry.proofs.VertexMoves.{valence-moves, on-boundary-moves}
use Rattle.symmetry.proofs.FanMoves.{fan-moves}

pub record Alike (z : Sense) (M M' : IndexedMesh) : Type 0 where
  pub same-vertices : M'.vertices ≡ M.vertices
  pub same-faces : M'.faces ≡ M.faces
  pub same-positions : length M'.positions ≡ length M.positions
  pub same-indices : length M'.indices ≡ length M.indices
  pub shape : Iso z (at M) (at M') (corners M) M.vertices
  pub sizes-move : (p k : ℕ) → p < M.vertices → k < 3 → nat_abs (coordinate M' (3 * shape.vertex_map.to p + k)) ≡ nat_abs (coordinate M (3 * p + k))
  pub tags-carried : Carried 0 shape.vertex_map.to M.vertices M.tags M'.tags

pub sound : {M : IndexedMesh} → WellFormed M → Sound (at M) (corners M) M.vertices
sound a = record { whole = accepted-corners a; named = a.named; simple = a.simple }

-- another corner of a face is another one whichever way the face is turned
another : (z : Sense) (j c : ℕ) → j < 3 → (k : ℕ) × (k < 3) × (turned z (suc j) c ≡ turn (suc k) c)
another same j c l = (j, l, refl)
another reversed zero c l = (2, omega arith, refl)
another reversed (suc zero) c l = (1, omega arith, let e : turn 6 c ≡ turn 2 c = omega arith in e)
another reversed (suc (suc zero)) c l = (0, omega arith, let e : turn 9 c ≡ turn 1 c = omega arith in e)
another reversed (suc (suc (suc j))) c l = absurd (let bad : ⊥ = omega arith in bad)

module _ {z : Sense} {M M' : IndexedMesh} (a : WellFormed M) (r : Alike z M M') where
  abbrev s : Sound (at M) (corners M) M.vertices
  s = sound a

  abbrev i : Iso z (at M) (at M') (corners M) M.vertices
  i = r.shape

  moved-coordinate : (p : ℕ) → p < M.vertices → (k : ℕ) → k < 3 → nat_abs (coordinate M' (3 * p + k)) ≤ max_coordinate
  moved-coordinate =
      to-every i.vertex_map (λ p. (k : ℕ) → k < 3 → nat_abs (coordinate M' (3 * p + k)) ≤ max_coordinate) (λ p l k b.
      rw (r.sizes-move p k l b) (a.coordinates (3 * p + k) (omega arith)))

  moved-distinct : (c : ℕ) → c < corners M → (j : ℕ) → j < 3 → at M' (turn (suc j) c) ≡ at M' c → ⊥
  moved-distinct =
      to-every i.corners (λ c. (j : ℕ) → j < 3 → at M' (turn (suc j) c) ≡ at M' c → ⊥) (λ c l j b e.
      let w = another z j c b in
      let one = at-reflects s i (turned z (suc j) c) c (turned-below z s.whole (suc j) c l) l (sym (at_turn s i (suc j) c l) ∙ e ∙ i.at-moves c l) in
      a.distinct c w.0 l w.1 (ap (at M) (sym w.2) ∙ one))

  abbrev on-boundary : (p : ℕ) → p < M.vertices → on_boundary (at M') (corners M) (i.vertex_map.to p) ≡ on_boundary (at M) (corners M) p
  on-boundary p l = on-boundary-moves s i p l (a.fans p l)

  -- M', with the sizes of M
  here : WellFormed (indexed M.vertices M.faces M'.positions M'.tags M'.indices)
  here = record {
    sized = rw (r.same-positions, r.tags-carried.same_length, r.same-indices) a.sized;
    coordinates = λ j l.
        let e : 3 * (j / 3) + j % 3 ≡ j = omega arith in
        rw (← e) (moved-coordinate (j / 3) (omega arith) (j % 3) (omega arith));
    tags-known = to-every i.vertex_map (λ p. tag M' p ≤ corner_tag) (λ p l. rw (r.tags-carried.moves p l) (a.tags-known p l));
    named = (sound-moves s i).named;
    distinct = λ c j l b. moved-distinct c l j b;
    simple = (sound-moves s i).simple;
    used = to-every i.vertex_map (λ p. 0 < valence (at M') (corners M) p) (λ p l. rw (valence-moves s i p l) (a.used p l));
    fans = to-every i.vertex_map (λ p. fan (at M') (corners M) p ≡ true) (λ p l. fan-moves s i p l ∙ a.fans p l);
    inner-low = to-every i.vertex_map (λ p. on_boundary (at M') (corners M) p ≡ false → min_valence ≤ valence (at M') (corners M) p) (λ p l e.
        rw (valence-moves s i p l) (a.inner-low p l (sym (on-boundary p l) ∙ e)));
    inner-high = to-every i.vertex_map (λ p. on_boundary (at M') (corners M) p ≡ false → valence (at M') (corners M) p ≤ max_valence) (λ p l e.
        rw (valence-moves s i p l) (a.inner-high p l (sym (on-boundary p l) ∙ e)));
    boundary-low = to-every i.vertex_map (λ p. on_boundary (at M') (corners M) p ≡ true → min_boundary_faces ≤ valence (at M') (corners M) p) (λ p l e.
        rw (valence-moves s i p l) (a.boundary-low p l (sym (on-boundary p l) ∙ e)));
    boundary-high = to-every i.vertex_map (λ p. on_boundary (at M') (corners M) p ≡ true → valence (at M') (corners M) p ≤ max_boundary_faces) (λ p l e.
        rw (valence-moves s i p l) (a.boundary-high p l (sym (on-boundary p l) ∙ e)));
    tagged-boundary = to-every i.vertex_map (λ p. tag M' p ≡ corner_tag → on_boundary (at M') (corners M) p ≡ true) (λ p l e.
        on-boundary p l ∙ a.tagged-boundary p l (sym (r.tags-carried.moves p l) ∙ e));
  }

  pub alike-well-formed : WellFormed M'
  alike-well-formed =
      subst₂ (λ (v f : ℕ). WellFormed (indexed v f M'.positions M'.tags M'.indices)) (sym r.same-vertices) (sym r.same-faces) here

  same-boundaries : boundaries (at M') (corners M') ≡ boundaries (at M) (corners M)
  unfolding boundaries half_edges
  same-boundaries =
      ap (λ (f : ℕ). boundaries (at M') (4 * f)) r.same-faces
      ∙ sym (fold-reindex sum-monoid (half_edges s i) (λ c. indicator (boundary (at M') (corners M) c)))
      ∙ fold-ext 0 ◌+◌ (corners M) (λ c l. ap indicator (boundary-moves s i c l))

  -- E and B; E by 4F + B = 2E in both meshes (rule T8)
  pub alike-counts :
      (edges (at M') (corners M') M'.vertices ≡ edges (at M) (corners M) M.vertices)
      × (boundaries (at M') (corners M') ≡ boundaries (at M) (corners M))
  alike-counts = (omega (arith, accepted-edges a, accepted-edges alike-well-formed, same-boundaries, r.same-faces), same-boundaries)
