-- The tangent vectors of two meshes of one shape, their faces turned the same way, are the same: those of a half-edge between inner vertices.
use mathlib.Core.Path.{◌≡◌, refl, sym, ap, ◌∙◌}
use mathlib.Core.Logic.{⊎_elim}
use Prim.Native.Nat.{ℕ, ◌*◌, ◌<◌}
use native.Mathlib.Omega.{arith}
use lib.IntN.{ℤ, pos, neg_ℤ, ◌+ℤ◌, ◌*ℤ◌}
use Rattle.integer.specs.Nearest.{nearest}
use Rattle.finite.specs.Fold.{sum_below_ℤ}
use Rattle.finite.proofs.FoldLaws.{fold-ext}
use Rattle.corner.specs.Corner.{turn, next}
use Rattle.mesh.specs.HalfEdge.{twin}
use Rattle.mesh.specs.IndexedMesh.{IndexedMesh, corners, at, tag}
use Rattle.mesh.specs.WellFormed.{WellFormed}
use Rattle.mesh.proofs.CornerLaws.{not_none, turn_below, next-below}
use Rattle.mesh.proofs.TwinLaws.{twin-ends}
use Rattle.mesh.proofs.BoundaryLaws.{InnerVertex}
use Rattle.symmetry.proofs.Sense.{same}
use Rattle.symmetry.proofs.Iso.{Sound, Iso, turn-moves, at_turn}
use Rattle.symmetry.proofs.VertexMoves.{valence-moves}
use Rattle.symmetry.proofs.FanMoves.{iterate-moves}
use Rattle.symmetry.proofs.WellFormedMoves.{Alike, sound}
use Rattle.patch.specs.Point.{View, x, sharp}
use Rattle.control.specs.Control.{units}
use Rattle.patch.specs.Patch.{control_value}
use Rattle.patch.proofs.Related.{valued}
use Rattle.correspondence.proofs.PointMoves.{twin-same, patch-moves}
use Rattle.cosine.specs.Cosine.{scale, cosine}
use Rattle.tangent.specs.Vector.{faces_at, turned, tangent_term, corner_vector, end_vector, middle_vector, inner_vector, cosine_at, start_into, end_into}
use Rattle.tangent.specs.Tangent.{VectorKind, start, middle, end, inner, start_in, end_in, vector}
use Rattle.tangent.proofs.InnerLaws.{ring-closed}

module _ {M M' : IndexedMesh} (a : WellFormed M) (r : Alike same M M') (X X' : ℕ → ℤ)
    (carried : (p : ℕ) → p < M.vertices → X' (r.shape.vertex_map.to p) ≡ X p) where
  abbrev n : ℕ
  n = corners M

  abbrev s : Sound (at M) n M.vertices
  s = sound a

  abbrev i : Iso same (at M) (at M') n M.vertices
  i = r.shape

  abbrev φ : ℕ → ℕ
  φ = i.corners.to

  abbrev S : View
  S = valued M X

  -- M', where it has f faces: as many as M has
  abbrev with : ℕ → View
  with f = record { shape = record { n = 4 * f; at = at M'; tag = tag M' }; value = X' }

  abbrev S' : View
  S' = with M.faces

  -- ---- what the vectors are read from
  x-turn : (k c : ℕ) → c < n → x S' (turn k (φ c)) ≡ x S (turn k c)
  x-turn k c l = ap X' (at_turn s i k c l) ∙ carried (at M (turn k c)) (a.named (turn k c) (turn_below s.whole k c l))

  faces-moves : (c : ℕ) → c < n → faces_at S' (φ c) ≡ faces_at S c
  faces-moves c l = rw (i.at-moves c l) (valence-moves s i (at M c) (a.named c l))

  control-moves : (c m : ℕ) → c < n → m < 16 → control_value S' (φ c) m ≡ control_value S c m
  control-moves c m l b =
      ap (λ (f : ℕ). control_value (with f) (φ c) m) (sym r.same-faces) ∙ ap units (patch-moves a r X X' carried c l m b)

  -- ---- the corner vector: the turn about an inner vertex goes through the same corners
  turned-moves : (c k : ℕ) → c < n → InnerVertex (at M) n (at M c) → (turned S c k < n) × (turned S' (φ c) k ≡ φ (turned S c k))
  turned-moves c k l w =
      let h = (ring-closed S s.whole (at M c) w c k l refl).0 in
      ⊎_elim (λ m. m) (λ m. absurd (not_none s.whole (turned S c k) h m.0)) (iterate-moves s i k c l)

  start-moves : (c : ℕ) → c < n → InnerVertex (at M) n (at M c) → corner_vector S' (φ c) ≡ corner_vector S c
  unfolding corner_vector
  start-moves c l w =
      ap (λ (z : ℤ). nearest (pos 256 *ℤ z) scale)
      (ap (sum_below_ℤ (tangent_term S' (φ c))) (faces-moves c l)
      ∙ fold-ext (pos 0) ◌+ℤ◌ (faces_at S c) (λ k _.
      let m = turned-moves c k l w in
      rw (faces-moves c l, m.1, x-turn 1 (turned S c k) m.0, x-turn 2 (turned S c k) m.0)))

  -- ---- half-edge c runs between two inner vertices
  module _ (c : ℕ) (l : c < corners M) (w : InnerVertex (at M) (corners M) (at M c)) (w' : InnerVertex (at M) (corners M) (at M (next c))) where
    twin-moves : (twin (at M) n c < n) × (twin (at M') n (φ c) ≡ φ (twin (at M) n c))
    unfolding sharp
    twin-moves = twin-same a r c l (w.leaving c l refl)

    end-moves : end_vector S' (φ c) ≡ end_vector S c
    unfolding end_vector
    end-moves =
        ap (λ (d : ℕ). neg_ℤ (corner_vector S' d)) twin-moves.1
        ∙ ap neg_ℤ (start-moves (twin (at M) n c) twin-moves.0 (rw (twin-ends (at M) n c s.whole twin-moves.0).0 w'))

    cosine-moves : cosine_at S' (φ c) ≡ cosine_at S c
    cosine-moves = ap cosine (faces-moves c l)

    cosine-next : cosine_at S' (next (φ c)) ≡ cosine_at S (next c)
    cosine-next = ap (cosine_at S') (turn-moves s i 1 c l) ∙ ap cosine (faces-moves (next c) (next-below s.whole c l))

    control : (m : ℕ) → m < 16 → control_value S' (φ c) m ≡ control_value S c m
    control m b = control-moves c m l b

    vector-here : (q : VectorKind) → vector S' (φ c) q ≡ vector S c q
    unfolding vector middle_vector inner_vector start_into end_into
    vector-here start = start-moves c l w
    vector-here middle = rw (control 2 (omega arith), control 1 (omega arith))
    vector-here end = end-moves
    vector-here inner = rw (control 6 (omega arith), control 5 (omega arith))
    vector-here start_in =
        rw (control 2 (omega arith), control 1 (omega arith), control 5 (omega arith), cosine-moves, cosine-next, start-moves c l w)
    vector-here end_in = rw (control 2 (omega arith), control 1 (omega arith), control 6 (omega arith), cosine-moves, cosine-next, end-moves)

    pub vector-moves : (q : VectorKind) → vector (valued M' X') (r.shape.corners.to c) q ≡ vector (valued M X) c q
    vector-moves q = ap (λ (f : ℕ). vector (with f) (φ c) q) r.same-faces ∙ vector-here q
