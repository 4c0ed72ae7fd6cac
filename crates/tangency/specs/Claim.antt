-- The tangents of the two faces of an edge, and of a renumbered mesh: one claim about the numbers that the tangent call handed back.
--
--   vector_number q s         the place among the 24 of the vector of kind q of side s
--   vector_along r q s k      coordinate k of that vector in the list r of a face, turned to run along the side, or from it into the face
--   cosine_of M c       the cosine of the vertex of corner c (rule D1)
--   edge_term M r c k   the cosine term near the start of half-edge c, times 3 * 2^20, from the list r of the face of c
--   far_term M r c k    the one near its end, likewise
--   Across M c r r'    r and r' are the lists of the faces of half-edge c and of its twin: near the start of c, which is the end of the twin, both have
--                      one cosine term, and the two vectors into the faces sum, in each coordinate, to within 7 units of twice that term, all times
--                      3 * 2^20 (rule D10)
--   Written r          the call wrote the tangents
--   Edge M c g h       half-edge c is of face g and its twin of face h
--   TangentClaim       the claim, of whatever the tangent call hands back: its hypotheses are the record that the call promises (`tangent-claim`)
use Rattle.std.specs.Prelude.{◌≡◌, false, List, [], ◌∷◌, ℕ, ◌+◌, ◌*◌, ◌/◌, ◌%◌, ◌≤◌, ◌<◌, ℤ, pos, nat_abs, ◌+ℤ◌, ◌-ℤ◌, ◌*ℤ◌, length, get_or, Result}
use Rattle.answer.specs.Table.{result, answered}
use Rattle.answer.specs.declared.refusal.Refusal.{Refusal}
use Rattle.corner.specs.Corner.{next}
use Rattle.mesh.specs.HalfEdge.{twin, boundary}
use Rattle.mesh.specs.Fan.{valence}
use Rattle.mesh.specs.IndexedMesh.{IndexedMesh, corners, at}
use Rattle.mesh.specs.Refusal.{Accepted}
use Rattle.cosine.specs.Cosine.{cosine}
use Rattle.tangent.specs.Vector.{corrected_divisor, first_term, second_term}
use Rattle.tangent.specs.Tangent.{VectorKind, start, middle, end, inner, start_in, end_in, row_of, signed}
use Rattle.tangent.specs.Answer.{face_open, TangentsGiven}
use Rattle.surface.specs.Renumbering.{Renumbering}

unfoldable pub vector_number : VectorKind → ℕ → ℕ
vector_number start s = get_or (0 ∷ 15 ∷ 11 ∷ 20 ∷ []) s 0
vector_number middle s = get_or (1 ∷ 19 ∷ 10 ∷ 16 ∷ []) s 0
vector_number end s = get_or (2 ∷ 23 ∷ 9 ∷ 12 ∷ []) s 0
vector_number inner s = get_or (4 ∷ 18 ∷ 7 ∷ 17 ∷ []) s 0
vector_number start_in s = get_or (13 ∷ 5 ∷ 22 ∷ 6 ∷ []) s 0
vector_number end_in s = get_or (14 ∷ 8 ∷ 21 ∷ 3 ∷ []) s 0

abbrev pub vector_along : List ℤ → VectorKind → ℕ → ℕ → ℤ
vector_along r q s k = signed (row_of (vector_number q s)).reversed (get_or r (3 * vector_number q s + k) (pos 0))

abbrev pub cosine_of : IndexedMesh → ℕ → ℤ
cosine_of M c = cosine (valence (at M) (corners M) (at M c))

abbrev pub edge_term : IndexedMesh → List ℤ → ℕ → ℕ → ℤ
edge_term M r c k = first_term (cosine_of M c) (cosine_of M (next c)) (vector_along r start (c % 4) k) (vector_along r middle (c % 4) k)

abbrev pub far_term : IndexedMesh → List ℤ → ℕ → ℕ → ℤ
far_term M r c k = second_term (cosine_of M c) (cosine_of M (next c)) (vector_along r middle (c % 4) k) (vector_along r end (c % 4) k)

pub record Across (M : IndexedMesh) (c : ℕ) (r r' : List ℤ) : Type 0 where
  pub common : (k : ℕ) → k < 3 → far_term M r' (twin (at M) (corners M) c) k ≡ edge_term M r c k
  pub sum : (k : ℕ) → k < 3
      → nat_abs (pos corrected_divisor *ℤ (vector_along r start_in (c % 4) k +ℤ vector_along r' end_in (twin (at M) (corners M) c % 4) k)
      -ℤ pos 2 *ℤ edge_term M r c k) ≤ 7 * corrected_divisor

abbrev pub Written : Result Unit Refusal → Type 0
Written r = answered r ≡ result tt

pub record Edge (M : IndexedMesh) (c g h : ℕ) : Type 0 where
  pub below : c < corners M
  pub inner : boundary (at M) (corners M) c ≡ false
  pub face : g ≡ c / 4
  pub other : h ≡ twin (at M) (corners M) c / 4

pub record TangentClaim : Type 0 where
  -- a face with no corner at a boundary vertex gets its tangents, on a list of 72 places (rule D9)
  pub given : {M : IndexedMesh} {g : ℕ} {d d' : List ℤ} {r : Result Unit Refusal} → Accepted M → TangentsGiven M g d r d'
      → g < M.faces → face_open M g ≡ false → length d ≡ 72 → Written r
  -- across each edge of which both faces have tangents, near its start and near its end (rule D10)
  pub across : {M : IndexedMesh} {g h : ℕ} {d d' e e' : List ℤ} {r s : Result Unit Refusal} → Accepted M
      → TangentsGiven M g d r d' → TangentsGiven M h e s e'
      → (c : ℕ) → Edge M c g h → Written r → Written s
      → Across M c d' e' × Across M (twin (at M) (corners M) c) e' d'
  -- a renumbered face gets its tangents as well, and they are those of the face, each on the side that it was on (rule D11)
  pub renumbered : {M M' : IndexedMesh} {g g' : ℕ} {d d' x x' : List ℤ} {r r' : Result Unit Refusal} → Accepted M
      → TangentsGiven M g d r d' → TangentsGiven M' g' x r' x'
      → (m : Renumbering M M') → g < M.faces → g' ≡ m.face_map.to g → Written r → length x ≡ 72
      → Written r' × ((q : VectorKind) (s k : ℕ) → s < 4 → k < 3 → vector_along x' q s k ≡ vector_along d' q ((m.start g + s) % 4) k)
