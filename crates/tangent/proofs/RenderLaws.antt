-- Tables by corner that render a mesh: what they tell of its corners is what the definitions say of them.
--
--   Renders M values twins   the tables have the coordinates of the vertex and the twin of each corner of the mesh M
use mathlib.Core.Path.{◌≡◌, refl, sym, ap, ap₂, ◌∙◌}
use mathlib.Core.List.{List}
use Prim.Native.Nat.{ℕ, zero, suc, ◌<◌}
use lib.IntN.{ℤ, pos, ◌+ℤ◌, ◌*ℤ◌}
use Rattle.integer.specs.Nearest.{nearest}
use Rattle.finite.specs.Fold.{sum_below_ℤ}
use Rattle.finite.proofs.FoldLaws.{fold-ext}
use Rattle.corner.specs.Corner.{turn, next, across, prev}
use Rattle.mesh.specs.HalfEdge.{twin}
use Rattle.mesh.specs.Fan.{iterate}
use Rattle.mesh.specs.IndexedMesh.{IndexedMesh, corners, at}
use Rattle.mesh.specs.Tables.{Corners}
use Rattle.mesh.proofs.CornerLaws.{turn_below, prev-below}
use Rattle.mesh.proofs.CirculationLaws.{around-in}
use Rattle.mesh.proofs.BoundaryLaws.{InnerVertex}
use Rattle.cosine.specs.Cosine.{scale}
use Rattle.cosine.specs.Weight.{edge_weight, face_weight}
use Rattle.patch.specs.Point.{View, x, weight, inner_point, edge_point}
use Rattle.patch.specs.Patch.{shape, view}
use Rattle.control.specs.Control.{value_at, link_at, inner_at, edge_at}
use Rattle.tangent.specs.Vector.{faces_at, turned, tangent_term, corner_vector}
use Rattle.tangent.specs.Told.{turned_at, term_at, vector_at}
use Rattle.tangent.proofs.InnerLaws.{ring-closed}

pub record Renders (M : IndexedMesh) (values : List ℤ) (twins : List ℕ) : Type 0 where
  pub values-are : (k c : ℕ) → k < 3 → c < corners M → value_at values k c ≡ x (view M k) c
  pub twins-are : (c : ℕ) → c < corners M → link_at twins c ≡ twin (at M) (corners M) c

module _ {M : IndexedMesh} {values : List ℤ} {twins : List ℕ} (r : Renders M values twins) (whole : Corners (corners M)) (k : ℕ) (axis : k < 3) where
  abbrev S : View
  S = view M k

  -- ---- the values of a face, seen from corner c, and the points that they make
  value-told : (i c : ℕ) → c < corners M → value_at values k (turn i c) ≡ x S (turn i c)
  value-told i c l = r.values-are k (turn i c) axis (turn_below whole i c l)

  pub inner-told : (w c : ℕ) → c < corners M → w ≡ weight (shape M) c → inner_at values w k c ≡ inner_point (view M k) c
  unfolding inner_at inner_point
  inner-told w c l e = rw (e, r.values-are k c axis l, value-told 1 c l, value-told 3 c l, value-told 2 c l)

  pub edge-told : (w c d : ℕ) → c < corners M → d < corners M → w ≡ weight (shape M) c → edge_at values w k c d ≡ edge_point (view M k) c d
  unfolding edge_at edge_point
  edge-told w c d l h e =
      rw (e, r.values-are k c axis l, value-told 1 c l, value-told 3 c l, value-told 2 d h, value-told 2 c l, value-told 3 d h)

  -- ---- the corner vector, about an inner vertex p
  module _ (p : ℕ) (w : InnerVertex (at M) (corners M) p) (c : ℕ) (l : c < corners M) (h : at M c ≡ p) where
    below : (i : ℕ) → turned S c i < corners M
    below i = (ring-closed S whole p w c i l h).0

    turned-told : (i : ℕ) → turned_at twins c i ≡ turned S c i
    unfolding iterate
    turned-told zero = refl
    turned-told (suc i) =
        ap (λ (e : ℕ). link_at twins (prev e)) (turned-told i)
        ∙ r.twins-are (prev (turned S c i)) (prev-below whole (turned S c i) (below i))
        ∙ sym (around-in (twin (at M) (corners M)) (corners M) (turned S c i) (below i))

    term_told : (n i : ℕ) → n ≡ faces_at S c → term_at values twins n k c i ≡ tangent_term S c i
    term_told n i e =
        let y = ap (λ (d : ℕ). value_at values k (next d)) (turned-told i) ∙ value-told 1 (turned S c i) (below i) in
        let z = ap (λ (d : ℕ). value_at values k (across d)) (turned-told i) ∙ value-told 2 (turned S c i) (below i) in
        ap₂ (λ (y z : ℤ). edge_weight n i *ℤ y +ℤ face_weight n i *ℤ z) y z
        ∙ ap (λ (n : ℕ). edge_weight n i *ℤ x S (next (turned S c i)) +ℤ face_weight n i *ℤ x S (across (turned S c i))) e

    pub vector-told : (n : ℕ) → n ≡ faces_at (view M k) c → vector_at values twins n k c ≡ corner_vector (view M k) c
    unfolding vector_at corner_vector
    vector-told n e =
        ap (λ (z : ℤ). nearest (pos 256 *ℤ z) scale) (fold-ext (pos 0) ◌+ℤ◌ n (λ i _. term_told n i e))
        ∙ ap (λ (n : ℕ). nearest (pos 256 *ℤ sum_below_ℤ (tangent_term S c) n) scale) e
