-- What the code reads the tangents of a face from, and the numbers that it makes of it.
--
--   Fanned faces twins   the twins of all the half-edges are listed, and the corners at each vertex form a fan
--   ring_in faces c     how many faces the vertex of corner c has, none where it is on the boundary
--   open_in faces g     face g has a corner at a boundary vertex, by the list of faces
--   valences_in faces g s   how many faces the vertex of corner s of face g has
--   listed_part parts t s k   part t of side s, coordinate k, in their list
--   side_from parts cosines s k   coordinate k of side s, from the lists of the parts and of the cosines
--   Known parts cosines   these lists as the code keeps them
--   SideSized a        the numbers of a side are so small that the code can work with them
--   TermSized k0 k1 u0 u1, IntoSized k0 k1 u0 x y z   and so are those of a cosine term, and of a vector into the face, near an end of the side: the
--                      cosines there and at the other end, the corner vector there, the middle vector; the edge points near both ends, and the inner point
--   vector_kind_of q     the kind of vector, for each case of the code's enum `VectorKind`
--   vector_of a q       vector q of a side of which the code knows a
--   number_from_parts parts cosines i   number i of the 72
--   values_of positions faces, face_valences faces g, cosines_from valences, parts_from .. g   the four lists that these are made of, one from the other
--   valences_asked faces g   the counts, where face g has no corner on the boundary
--   numbers_by parts cosines   all 72, from the parts and the cosines
--   number_of positions faces twins g i   number i of the 72 of face g, from the lists of the mesh and its twins
--   numbers_from positions faces twins g   all 72
--   Drawn positions faces twins valences g   what makes them fit: the face is there, its vertices have at most 16 faces, these are their counts, and the
--                      coordinates are small
use Rattle.std.specs.Prelude.{Bool, true, cond, Option, Some, None, List, ℕ, ◌+◌, ◌*◌, ◌/◌, ◌%◌, ◌^◌, ◌≤◌, ◌<◌, ◌≡◌, ℤ, pos, nat_abs, length, get_or, replicate}
use Rattle.finite.specs.Fold.{any_below}
use Rattle.finite.specs.Filled.{list_below}
use Rattle.limits.specs.Limits.{max_faces, max_coordinate}
use Rattle.mesh.specs.Fan.{valence, on_boundary, fan}
use Rattle.mesh.specs.Tables.{vertex_of, Twinned}
use Rattle.cosine.specs.Cosine.{cosine}
use Rattle.control.specs.Control.{values_after}
use Rattle.tangent.specs.Vector.{triple_difference, first_term, second_term, corrected}
use Rattle.tangent.specs.Tangent.{VectorKind, start, middle, end, inner, start_in, end_in, row_of, signed}
use Rattle.tangent.specs.Told.{parts_told}
use Rattle.tangent.specs.declared.side.Side as known
use Rattle.tangent.specs.declared.side.VectorKind as enum
use Rattle.tangent.specs.declared.side.VectorKind.TheVariants.{Start, Middle, End, Inner, StartIn, EndIn}

pub record Fanned (indices twins : List ℕ) : Type 0 where
  pub twinned : Twinned indices twins (length indices)
  pub fans : (c : ℕ) → c < length indices → fan (vertex_of indices) (length indices) (vertex_of indices c) ≡ true

abbrev pub ring_in : List ℕ → ℕ → Option ℕ
ring_in indices c =
    let p = vertex_of indices c in
    cond (on_boundary (vertex_of indices) (length indices) p) None (Some (valence (vertex_of indices) (length indices) p))

abbrev pub open_in : List ℕ → ℕ → Bool
open_in indices g = any_below (λ s. on_boundary (vertex_of indices) (length indices) (vertex_of indices (4 * g + s))) 4

abbrev pub valences_in : List ℕ → ℕ → ℕ → ℕ
valences_in indices g s = valence (vertex_of indices) (length indices) (vertex_of indices (4 * g + s))

abbrev pub listed_part : List ℤ → ℕ → ℕ → ℕ → ℤ
listed_part parts t s k = get_or parts (12 * t + (3 * s + k)) (pos 0)

unfoldable pub side_from : List ℤ → List ℤ → ℕ → ℕ → known.Side
side_from parts cosines s k = record {
  start = listed_part parts 0 s k;
  end = listed_part parts 1 s k;
  near = listed_part parts 2 s k;
  far = listed_part parts 3 s k;
  inner_near = listed_part parts 4 s k;
  inner_far = listed_part parts 5 s k;
  start_cosine = get_or cosines s (pos 0);
  end_cosine = get_or cosines ((s + 1) % 4) (pos 0);
}

pub record Known (parts cosines : List ℤ) : Type 0 where
  pub parts-small : (j : ℕ) → j < 72 → nat_abs (get_or parts j (pos 0)) ≤ 2 ^ 35
  pub cosines-small : (s : ℕ) → s < 4 → nat_abs (get_or cosines s (pos 0)) ≤ 2 ^ 20

pub record SideSized (a : known.Side) : Type 0 where
  pub start : nat_abs a.start ≤ 2 ^ 35
  pub end : nat_abs a.end ≤ 2 ^ 35
  pub near : nat_abs a.near ≤ 2 ^ 35
  pub far : nat_abs a.far ≤ 2 ^ 35
  pub inner-near : nat_abs a.inner_near ≤ 2 ^ 35
  pub inner-far : nat_abs a.inner_far ≤ 2 ^ 35
  pub start-cosine : nat_abs a.start_cosine ≤ 2 ^ 20
  pub end-cosine : nat_abs a.end_cosine ≤ 2 ^ 20

pub record TermSized (k0 k1 u0 u1 : ℤ) : Type 0 where
  pub cosine : nat_abs k0 ≤ 2 ^ 20
  pub other-cosine : nat_abs k1 ≤ 2 ^ 20
  pub corner : nat_abs u0 ≤ 2 ^ 35
  pub middle : nat_abs u1 ≤ 2 ^ 38

pub record IntoSized (k0 k1 u0 x y z : ℤ) : Type 0 where
  pub cosine : nat_abs k0 ≤ 2 ^ 20
  pub other-cosine : nat_abs k1 ≤ 2 ^ 20
  pub corner : nat_abs u0 ≤ 2 ^ 35
  pub near : nat_abs x ≤ 2 ^ 35
  pub far : nat_abs y ≤ 2 ^ 35
  pub inner : nat_abs z ≤ 2 ^ 35

abbrev pub vector_kind_of : enum.VectorKind → VectorKind
vector_kind_of Start = start
vector_kind_of Middle = middle
vector_kind_of End = end
vector_kind_of Inner = inner
vector_kind_of StartIn = start_in
vector_kind_of EndIn = end_in

unfoldable pub vector_of : known.Side → VectorKind → ℤ
vector_of a start = a.start
vector_of a middle = triple_difference a.far a.near
vector_of a end = a.end
vector_of a inner = triple_difference a.inner_far a.inner_near
vector_of a start_in =
    corrected (first_term a.start_cosine a.end_cosine a.start (triple_difference a.far a.near)) (triple_difference a.inner_near a.near)
vector_of a end_in =
    corrected (second_term a.start_cosine a.end_cosine (triple_difference a.far a.near) a.end) (triple_difference a.inner_far a.far)

unfoldable pub number_from_parts : List ℤ → List ℤ → ℕ → ℤ
number_from_parts parts cosines i =
    let r = row_of (i / 3) in signed r.reversed (vector_of (side_from parts cosines r.side (i % 3)) r.kind)

abbrev pub values_of : List ℤ → List ℕ → List ℤ
values_of positions indices = values_after positions indices (replicate (16 * max_faces) (pos 0))

abbrev pub face_valences : List ℕ → ℕ → List ℕ
face_valences indices g = list_below (valences_in indices g) 4

abbrev pub valences_asked : List ℕ → ℕ → Option (List ℕ)
valences_asked indices g = cond (open_in indices g) None (Some (face_valences indices g))

abbrev pub cosines_from : List ℕ → List ℤ
cosines_from valences = list_below (λ s. cosine (get_or valences s 0)) 4

abbrev pub parts_from : List ℤ → List ℕ → List ℕ → ℕ → List ℤ
parts_from values twins valences g = list_below (parts_told values twins valences g) 72

abbrev pub numbers_by : List ℤ → List ℤ → List ℤ
numbers_by parts cosines = list_below (number_from_parts parts cosines) 72

abbrev pub number_of : List ℤ → List ℕ → List ℕ → ℕ → ℕ → ℤ
number_of positions indices twins g =
    number_from_parts (parts_from (values_of positions indices) twins (face_valences indices g) g) (cosines_from (face_valences indices g))

abbrev pub numbers_from : List ℤ → List ℕ → List ℕ → ℕ → List ℤ
numbers_from positions indices twins g = list_below (number_of positions indices twins g) 72

pub record Drawn (positions : List ℤ) (indices twins valences : List ℕ) (g : ℕ) : Type 0 where
  pub listed : 4 * g + 4 ≤ length indices
  pub few : length indices ≤ 4 * max_faces
  pub small : (i : ℕ) → nat_abs (get_or positions i (pos 0)) ≤ max_coordinate
  pub most : (s : ℕ) → s < 4 → valences_in indices g s ≤ 16
  pub counted : valences ≡ face_valences indices g
