-- The numbers that are written are the tangents: the tables that the code fills render the mesh, and its lists say of each side what its six
-- vectors are made of.
use native.Mathlib.Numerals.{add-one}
use mathlib.Core.Path.{◌≡◌, sym, ap, ◌∙◌}
use mathlib.Core.Bool.{false}
use mathlib.Core.List.{List}
use Prim.Native.Nat.{ℕ, ◌+◌, ◌*◌, ◌/◌, ◌%◌, ◌≤◌, ◌<◌}
use native.Mathlib.Omega.{arith}
use lib.Dec.{ltb}
use lib.IntN.{ℤ, pos, nat_abs}
use lib.ListN.{length, get_or, get_or-eq_default}
use borrow.Author.Tests.{ltb-true, ltb-false}
use Rattle.finite.proofs.FoldLaws.{bool_cases}
use Rattle.finite.proofs.FilledLaws.{list_below-at}
use Rattle.limits.specs.Limits.{max_coordinate}
use Rattle.corner.specs.Corner.{turn, next}
use Rattle.mesh.specs.Fan.{valence}
use Rattle.mesh.specs.IndexedMesh.{IndexedMesh, corners, at, coordinate}
use Rattle.mesh.specs.WellFormed.{WellFormed}
use Rattle.cosine.specs.Cosine.{cosine}
use Rattle.patch.specs.Point.{View}
use Rattle.patch.specs.Patch.{view}
use Rattle.control.proofs.ValuesLaws.{value-told}
use Rattle.tangent.specs.Vector.{faces_at, middle_vector, inner_vector, cosine_at, start_into, end_into}
use Rattle.tangent.specs.Tangent.{VectorKind, start, middle, end, inner, start_in, end_in, row_of, signed, vector, tangent, tangent_number}
use Rattle.tangent.specs.Answer.{face_open}
use Rattle.tangent.specs.Told.{part_at, parts_told}
use Rattle.tangent.specs.Lists.{Fanned, listed_part, side_from, vector_of, number_from_parts}
use Rattle.tangent.specs.Lists.{values_of, face_valences, cosines_from, parts_from, number_of, Drawn}
use Rattle.tangent.proofs.SeenLaws.{turn-after}
use Rattle.tangent.proofs.TableLaws.{row-side-below}
use Rattle.tangent.proofs.RenderLaws.{Renders}
use Rattle.tangent.proofs.PartLaws.{part_of}
use Rattle.tangent.proofs.FaceLaws.{most, part-told}
use Rattle.tangent.proofs.DrawnLaws.{blank, blank-room, count-is}

-- ---- the lists of an accepted mesh
module _ {M : IndexedMesh} (a : WellFormed M) where
  whole : length M.indices ≡ corners M
  whole = a.sized.indices-are

  number_small : (i : ℕ) → nat_abs (coordinate M i) ≤ max_coordinate
  number_small i =
      bool_cases (ltb i (3 * M.vertices))
      (λ t. a.coordinates i (ltb-true i (3 * M.vertices) t))
      (λ t. let past : length M.positions ≤ i = omega (arith, a.sized.positions-are, ltb-false i (3 * M.vertices) t) in
      rw (get_or-eq_default M.positions (pos 0) past) (omega arith))

  pub renders : {twins : List ℕ} → Fanned M.indices twins → Renders M (values_of M.positions M.indices) twins
  renders t = record {
    values-are = λ k c axis l.
        value-told M.positions M.indices blank (blank-room (length M.indices) (omega (arith, whole, a.sized.faces-high))) k c axis
        (omega (arith, whole)) (omega (arith, a.sized.faces-high));
    twins-are = λ c l.
        let e : c % 1024 ≡ c = omega (arith, a.sized.faces-high) in
        rw e (rw whole at (t.twinned.twins-are c (omega (arith, whole))));
  }

-- ---- a face with no corner on the boundary
module _ {M : IndexedMesh} (a : WellFormed M) (g : ℕ) (l : g < M.faces) (closed : face_open M g ≡ false) where
  pub drawn : (twins : List ℕ) {valences : List ℕ} → valences ≡ face_valences M.indices g → Drawn M.positions M.indices twins valences g
  drawn twins e = record {
    listed = omega (arith, whole a);
    few = omega (arith, whole a, a.sized.faces-high);
    small = number_small a;
    most = λ s b. rw (whole a) (most a g l closed s b);
    counted = e;
  }

  -- how many faces are at corner s
  counted : (s : ℕ) → s < 4 → get_or (face_valences M.indices g) s 0 ≡ faces_at (view M 0) (turn s (4 * g))
  counted s b =
      let e : 4 * g + s ≡ turn s (4 * g) = omega arith in
      count-is M.indices g s b
      ∙ ap (λ (n : ℕ). valence (at M) n (at M (4 * g + s))) (whole a)
      ∙ ap (λ (c : ℕ). faces_at (view M 0) c) e

  next-counted : (s : ℕ) → s < 4 → get_or (face_valences M.indices g) ((s + 1) % 4) 0 ≡ faces_at (view M 0) (next (turn s (4 * g)))
  next-counted s b =
      counted ((s + 1) % 4) (omega arith)
      ∙ ap (λ (c : ℕ). faces_at (view M 0) c) (ap (λ (n : ℕ). turn (n % 4) (4 * g)) (add-one s) ∙ sym (turn-after s (4 * g)))

  module _ {twins : List ℕ} (t : Fanned M.indices twins) where
    abbrev valences : List ℕ
    valences = face_valences M.indices g

    abbrev told : ℕ → ℤ
    told = parts_told (values_of M.positions M.indices) twins valences g

    abbrev parts : List ℤ
    parts = parts_from (values_of M.positions M.indices) twins valences g

    abbrev cosines : List ℤ
    cosines = cosines_from valences

    -- ---- one coordinate of a side
    module _ (s k : ℕ) (b : s < 4) (h : k < 3) where
      abbrev S : View
      S = view M k

      abbrev half : ℕ
      half = turn s (4 * g)

      listed-is : (i : ℕ) → i < 6 → listed_part parts i s k ≡ part_of S half (part_at i)
      listed-is i q =
          let axis : (12 * i + (3 * s + k)) % 3 ≡ k = omega arith in
          let which : (12 * i + (3 * s + k)) % 12 / 3 ≡ s = omega arith in
          let part : (12 * i + (3 * s + k)) / 12 ≡ i = omega arith in
          list_below-at told 72 (12 * i + (3 * s + k)) (pos 0) (omega arith)
          ∙ rw (axis, which, part)
          (part-told a g l closed s b (renders a t) k h (get_or valences s 0) (get_or valences ((s + 1) % 4) 0) (counted s b) (next-counted s b) (part_at i))

      cosine-here : get_or cosines s (pos 0) ≡ cosine_at S half
      cosine-here = list_below-at (λ s. cosine (get_or valences s 0)) 4 s (pos 0) b ∙ ap cosine (counted s b)

      cosine-next : get_or cosines ((s + 1) % 4) (pos 0) ≡ cosine_at S (next half)
      cosine-next = list_below-at (λ s. cosine (get_or valences s 0)) 4 ((s + 1) % 4) (pos 0) (omega arith) ∙ ap cosine (next-counted s b)

      vector-is : (q : VectorKind) → vector_of (side_from parts cosines s k) q ≡ vector S half q
      unfolding side_from vector_of vector middle_vector inner_vector start_into end_into part_at part_of
      vector-is start = listed-is 0 (omega arith)
      vector-is middle = rw (listed-is 3 (omega arith), listed-is 2 (omega arith))
      vector-is end = listed-is 1 (omega arith)
      vector-is inner = rw (listed-is 5 (omega arith), listed-is 4 (omega arith))
      vector-is start_in =
          rw (cosine-here, cosine-next, listed-is 0 (omega arith), listed-is 3 (omega arith), listed-is 4 (omega arith), listed-is 2 (omega arith))
      vector-is end_in =
          rw (cosine-here, cosine-next, listed-is 1 (omega arith), listed-is 2 (omega arith), listed-is 5 (omega arith), listed-is 3 (omega arith))

    pub number_is : (i : ℕ) → i < 72 → number_of M.positions M.indices twins g i ≡ tangent_number M g i
    unfolding number_from_parts tangent tangent_number
    number_is i q =
        let r = row_of (i / 3) in
        ap (signed r.reversed) (vector-is r.side (i % 3) (row-side-below (i / 3) (omega arith)) (omega arith) r.kind)
