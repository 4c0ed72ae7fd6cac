-- The lists that the numbers of a face are made of: what their entries are, and that they are small.
use mathlib.Core.Path.{◌≡◌, refl}
use mathlib.Core.List.{List}
use Prim.Native.Nat.{ℕ, ◌+◌, ◌*◌, ◌/◌, ◌%◌, ◌≤◌, ◌<◌}
use native.Mathlib.Omega.{arith}
use lib.Dec.{ltb}
use lib.IntN.{ℤ, pos, nat_abs}
use lib.ListN.{length, get_or, replicate, length-replicate, get_or-replicate, get_or-eq_default}
use borrow.Author.Tests.{ltb-true, ltb-false}
use Rattle.finite.proofs.FoldLaws.{bool_cases}
use Rattle.finite.proofs.FilledLaws.{list_below-at}
use Rattle.limits.specs.Limits.{max_faces, max_coordinate}
use Rattle.cosine.specs.Cosine.{cosine}
use Rattle.cosine.proofs.CosineLaws.{cosine-size}
use Rattle.control.proofs.ValuesLaws.{values-small}
use Rattle.tangent.specs.Told.{ValuesSmall, SideSource, part_at, parts_told}
use Rattle.tangent.specs.Lists.{valences_in, Known, values_of, face_valences, cosines_from, parts_from, Drawn}
use Rattle.tangent.proofs.RingLaws.{part-size}

-- ---- the table of values begins with zeros, and has room for every corner
abbrev pub blank : List ℤ
blank = replicate (16 * max_faces) (pos 0)

blank-small : (i : ℕ) → nat_abs (get_or blank i (pos 0)) ≤ max_coordinate
blank-small i =
    bool_cases (ltb i (16 * max_faces))
    (λ t. rw (get_or-replicate (16 * max_faces) i (pos 0) (pos 0) (ltb-true i (16 * max_faces) t)) (omega arith))
    (λ t. let past : length blank ≤ i = omega (arith, length-replicate (16 * max_faces) (pos 0), ltb-false i (16 * max_faces) t) in
    rw (get_or-eq_default blank (pos 0) past) (omega arith))

pub blank-room : (n : ℕ) → n ≤ 4 * max_faces → 4 * n ≤ length blank
blank-room n l = omega (arith, length-replicate (16 * max_faces) (pos 0))

pub count-is : (indices : List ℕ) (g s : ℕ) → s < 4 → get_or (face_valences indices g) s 0 ≡ valences_in indices g s
count-is indices g s l = list_below-at (valences_in indices g) 4 s 0 l

module _ {positions : List ℤ} {indices twins valences : List ℕ} {g : ℕ} (d : Drawn positions indices twins valences g) where
  pub table-small : {values : List ℤ} → values ≡ values_of positions indices → ValuesSmall values
  table-small e = rw e (record { within = values-small positions indices blank (blank-room (length indices) d.few) max_coordinate d.small blank-small })

  count_most : (s : ℕ) → s < 4 → get_or (face_valences indices g) s 0 ≤ 16
  count_most s l = rw (count-is indices g s l) (d.most s l)

  pub source : SideSource valences g
  source = record { few = omega (arith, d.listed, d.few); most = λ s l. rw d.counted (count_most s l) }

  pub known : {parts cosines : List ℤ} → parts ≡ parts_from (values_of positions indices) twins valences g → cosines ≡ cosines_from valences
      → Known parts cosines
  known e f =
      let told : ℕ → ℤ = parts_told (values_of positions indices) twins (face_valences indices g) g in
      let turned : ℕ → ℤ = λ s. cosine (get_or (face_valences indices g) s 0) in
      rw (e, f, d.counted) (record {
        parts-small = λ j l. rw (list_below-at told 72 j (pos 0) l)
            (part-size (table-small refl) twins _ _ (j % 3) (4 * g + j % 12 / 3) (count_most (j % 12 / 3) (omega arith))
            (count_most ((j % 12 / 3 + 1) % 4) (omega arith)) (part_at (j / 12)));
        cosines-small = λ s l. rw (list_below-at turned 4 s (pos 0) l) (cosine-size (get_or (face_valences indices g) s 0) (omega (arith, count_most s l)));
      })
