-- The two tangent patches of a face: 24 vectors, each one of the six of a side, as it is or reversed (rule D8).
--
--   VectorKind       the six vectors of a side
--   along_side s q, against_side s q   a row of the table: the vector q of side s, which is half-edge 4g + s of face g, or that vector reversed
--   row_of m          the row of vector m: u(i,j) is vector i + 3j, v(i,j) is vector 12 + i + 4j
--   tangent S c m    vector m of the face of corner c, where c counts as the face's first corner, of one coordinate
--   tangent_number M g i   number i of the 72 of face g: coordinate i % 3 of vector i / 3
--   tangent_list M g  all 72
use Rattle.std.specs.Prelude.{Bool, true, false, cond, List, [], ◌∷◌, ℕ, ◌*◌, ◌/◌, ◌%◌, ℤ, neg_ℤ, get_or}
use Rattle.finite.specs.Filled.{list_below}
use Rattle.corner.specs.Corner.{turn}
use Rattle.mesh.specs.IndexedMesh.{IndexedMesh}
use Rattle.patch.specs.Point.{View}
use Rattle.patch.specs.Patch.{view}
use Rattle.tangent.specs.Vector.{corner_vector, middle_vector, end_vector, inner_vector, start_into, end_into}

pub data VectorKind : Type 0 where
  start middle end inner start_in end_in : VectorKind

unfoldable pub vector : View → ℕ → VectorKind → ℤ
vector S c start = corner_vector S c
vector S c middle = middle_vector S c
vector S c end = end_vector S c
vector S c inner = inner_vector S c
vector S c start_in = start_into S c
vector S c end_in = end_into S c

pub record VectorRow : Type 0 where
  pub side : ℕ
  pub kind : VectorKind
  pub reversed : Bool

abbrev pub along_side : ℕ → VectorKind → VectorRow
along_side s q = record { side = s; kind = q; reversed = false }

abbrev pub against_side : ℕ → VectorKind → VectorRow
against_side s q = record { side = s; kind = q; reversed = true }

-- u(0,j), u(1,j) and u(2,j), j from 0 to 3; then v(0,j) to v(3,j), j from 0 to 2
unfoldable pub row_of : ℕ → VectorRow
row_of m =
    get_or (along_side 0 start ∷ along_side 0 middle ∷ along_side 0 end
    ∷ along_side 3 end_in ∷ along_side 0 inner ∷ against_side 1 start_in
    ∷ along_side 3 start_in ∷ against_side 2 inner ∷ against_side 1 end_in
    ∷ against_side 2 end ∷ against_side 2 middle ∷ against_side 2 start
    ∷ against_side 3 end ∷ along_side 0 start_in ∷ along_side 0 end_in ∷ along_side 1 start
    ∷ against_side 3 middle ∷ against_side 3 inner ∷ along_side 1 inner ∷ along_side 1 middle
    ∷ against_side 3 start ∷ against_side 2 end_in ∷ against_side 2 start_in ∷ along_side 1 end ∷ []) m (along_side 0 inner)

abbrev pub signed : Bool → ℤ → ℤ
signed b z = cond b (neg_ℤ z) z

unfoldable pub tangent : View → ℕ → ℕ → ℤ
tangent S c m = signed (row_of m).reversed (vector S (turn (row_of m).side c) (row_of m).kind)

unfoldable pub tangent_number : IndexedMesh → ℕ → ℕ → ℤ
tangent_number M g i = tangent (view M (i % 3)) (4 * g) (i / 3)

abbrev pub tangent_list : IndexedMesh → ℕ → List ℤ
tangent_list M g = list_below (tangent_number M g) 72
