-- The claim across an edge, of the lists of its two faces.
use mathlib.Core.Path.{◌≡◌, refl, ap, ap₂, ◌∙◌}
use mathlib.Core.Bool.{Bool, true, false}
use Prim.Native.Nat.{ℕ, ◌+◌, ◌*◌, ◌/◌, ◌%◌, ◌<◌}
use native.Mathlib.Nat.{mod-lt}
use native.Mathlib.Omega.{arith}
use lib.Dec.{ltb}
use lib.IntN.{ℤ, pos, neg_ℤ-neg_ℤ}
use lib.ListN.{get_or}
use borrow.Author.Tests.{ltb-true}
use Rattle.finite.specs.Filled.{list_below}
use Rattle.finite.proofs.FilledLaws.{list_below-at, agree}
use Rattle.corner.specs.Corner.{turn}
use Rattle.mesh.specs.HalfEdge.{twin, boundary}
use Rattle.mesh.specs.IndexedMesh.{IndexedMesh, corners, at}
use Rattle.mesh.specs.WellFormed.{WellFormed}
use Rattle.mesh.proofs.CornerLaws.{turn-first}
use Rattle.mesh.proofs.AcceptedLaws.{accepted-corners}
use Rattle.patch.specs.Patch.{view}
use Rattle.tangent.specs.Tangent as table
use Rattle.tangent.specs.Tangent.{VectorKind, start, middle, end, inner, start_in, end_in}
use Rattle.tangent.specs.Tangent.{VectorRow, row_of, signed, vector, tangent, tangent_number, tangent_list}
use Rattle.tangency.specs.Claim.{vector_number, vector_along, Across}
use Rattle.tangency.proofs.AcrossLaws.{terms-same, across-edge}

-- ---- the number of a vector leads back to its side and its kind
-- a row without its sign, and whether it is one of the 24
abbrev found : ℕ → VectorRow × Bool
found m = (table.along_side (row_of m).side (row_of m).kind, ltb m 24)

all_found : (q : VectorKind) → list_below (λ s. found (vector_number q s)) 4 ≡ list_below (λ s. (table.along_side s q, true)) 4
unfolding row_of vector_number list_below
all_found start = refl
all_found middle = refl
all_found end = refl
all_found inner = refl
all_found start_in = refl
all_found end_in = refl

number-found : (q : VectorKind) (s : ℕ) → s < 4 → found (vector_number q s) ≡ (table.along_side s q, true)
number-found q s l = agree (λ s. found (vector_number q s)) (λ s. (table.along_side s q, true)) 4 (all_found q) s l

number-below : (q : VectorKind) (s : ℕ) → s < 4 → vector_number q s < 24
number-below q s l = ltb-true (vector_number q s) 24 (ap (λ (y : VectorRow × Bool). y.1) (number-found q s l))

signed-signed : (b : Bool) (z : ℤ) → signed b (signed b z) ≡ z
signed-signed true z = neg_ℤ-neg_ℤ z
signed-signed false z = refl

-- ---- a vector of the list, along its side
pub along-is : (M : IndexedMesh) (g : ℕ) (q : VectorKind) (s k : ℕ) → s < 4 → k < 3
    → vector_along (tangent_list M g) q s k ≡ vector (view M k) (turn s (4 * g)) q
unfolding tangent_number tangent
along-is M g q s k l h =
    let m : ℕ = vector_number q s in
    let b = number-below q s l in
    let e : (3 * m + k) % 3 ≡ k = omega arith in
    let f : (3 * m + k) / 3 ≡ m = omega arith in
    let w : get_or (tangent_list M g) (3 * m + k) (pos 0) ≡ tangent (view M k) (4 * g) m =
    list_below-at (tangent_number M g) 72 (3 * m + k) (pos 0) (omega arith) ∙ ap₂ (λ (i j : ℕ). tangent (view M i) (4 * g) j) e f in
    ap (signed (row_of m).reversed) w
    ∙ signed-signed (row_of m).reversed (vector (view M k) (turn (row_of m).side (4 * g)) (row_of m).kind)
    ∙ ap (λ (y : VectorRow × Bool). vector (view M k) (turn y.0.side (4 * g)) y.0.kind) (number-found q s l)

-- of half-edge c itself
along-edge : (M : IndexedMesh) (q : VectorKind) (c k : ℕ) → k < 3 → vector_along (tangent_list M (c / 4)) q (c % 4) k ≡ vector (view M k) c q
along-edge M q c k h =
    along-is M (c / 4) q (c % 4) k (mod-lt c (omega arith)) h ∙ ap (λ (d : ℕ). vector (view M k) d q) (turn-first c)

-- ---- every edge that two faces share
pub across-lists : {M : IndexedMesh} → WellFormed M → (c : ℕ) → c < corners M → boundary (at M) (corners M) c ≡ false
    → Across M c (tangent_list M (c / 4)) (tangent_list M (twin (at M) (corners M) c / 4))
unfolding vector
across-lists {M} a c l e = record {
  common = λ k h.
      let b = twin (at M) (corners M) c in
      rw (along-edge M middle b k h, along-edge M end b k h, along-edge M start c k h, along-edge M middle c k h)
      (terms-same (view M k) (accepted-corners a) a.simple c l e);
  sum = λ k h.
      rw (along-edge M start_in c k h, along-edge M end_in (twin (at M) (corners M) c) k h, along-edge M start c k h, along-edge M middle c k h)
      (across-edge (view M k) (accepted-corners a) a.simple c l e);
}
