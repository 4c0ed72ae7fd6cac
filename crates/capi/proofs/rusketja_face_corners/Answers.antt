-- `rusketja_face_corners` meets its contract: the corners are four from place 4f on, or none.
use mathlib.Core.Path.{◌≡◌, refl, sym, ap, ◌∙◌}
use mathlib.Core.Bool.{Bool, true, false, cond}
use mathlib.Core.List.{List, [], ◌∷◌}
use Prim.Native.Nat.{ℕ, ◌+◌, ◌*◌, ◌≤◌}
use native.Mathlib.Omega.{arith}
use lib.Dec.{leb}
use lib.ListN.{length, take, drop, length-drop}
use lib.Seq.{length-take-le}
use borrow.Author.Tests.{leb-true}
use Rattle.corner.specs.Corner.{face_corners}
use Rattle.capi.specs.Answer.{first_corner}
use Rattle.capi.proofs.rusketja_face_corners.Goals.{Then-n-ne0}
use Rattle.capi.proofs.rusketja_face_corners.Goals as goal

first_some : (corners : List ℕ) (f d : ℕ) → (length corners ≡ 0 → ⊥) → 4 * f ≡ first_corner corners f d
first_some [] f d some = absurd (some refl)
first_some (p ∷ ps) f d some = refl

part-taken : (b : Bool) (xs : List ℕ) → (length (cond b xs []) ≡ 0 → ⊥) → b ≡ true
part-taken true xs some = refl
part-taken false xs some = absurd (some refl)

-- a face with corners ends within the list, and its corners are four
module _ (xs : List ℕ) (f : ℕ) (some : length (face_corners xs f) ≡ 0 → ⊥) where
  within : leb (4 * f + 4) (length xs) ≡ true
  unfolding face_corners
  within = part-taken (leb (4 * f + 4) (length xs)) (take 4 (drop (4 * f) xs)) some

  room : 4 * f + 4 ≤ length xs
  room = leb-true (4 * f + 4) (length xs) within

  four : take 4 (drop (4 * f) xs) ≡ face_corners xs f
  unfolding face_corners
  four = sym (ap (λ (b : Bool). cond b (take 4 (drop (4 * f) xs)) []) within)

  part : take (length (face_corners xs f)) (drop (4 * f) xs) ≡ face_corners xs f
  part =
      ap (λ (k : ℕ). take k (drop (4 * f) xs)) (sym (ap length four) ∙ length-take-le 4 (drop (4 * f) xs) (omega (arith, length-drop (4 * f) xs, room)))
      ∙ four

-- the corners that the library found, where it found some
some-told : (c : Then-n-ne0) → length (face_corners c.args.indices.now c.args.f) ≡ 0 → ⊥
some-told c e = c.if-n-ne0.true (ap length c.face_corners-corners.ensures ∙ e)

pub overflow_mul-first : goal.overflow_mul-first
overflow_mul-first c = omega (arith, room _ _ (some-told c))

pub returns-then-n-ne0 : goal.returns-then-n-ne0
returns-then-n-ne0 c =
    let s = c.args in
    let n = ap length c.face_corners-corners.ensures in
    record {
      count-is = n;
      first-is = first_some (face_corners s.indices.now s.f) s.f s.first.now (some-told c);
      part-is = ap (λ (k : ℕ). take k (drop (4 * s.f) s.indices.now)) n ∙ part s.indices.now s.f (some-told c);
    }
