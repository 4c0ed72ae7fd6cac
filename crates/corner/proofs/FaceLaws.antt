-- The part of a face list that a face has: four numbers from 4f on, or none.
use mathlib.Core.Path.{◌≡◌, sym, ap, ◌∙◌}
use mathlib.Core.Bool.{Bool, cond}
use mathlib.Core.List.{List, []}
use Prim.Native.Nat.{ℕ, ◌+◌, ◌-◌, ◌*◌, ◌/◌, ◌≤◌, ◌<◌}
use native.Mathlib.Omega.{arith}
use lib.ListN.{length, take, drop}
use borrow.Author.Tests.{le-leb, lt-leb}
use Rattle.corner.specs.Corner.{face_corners}

pub corners-some : (faces : List ℕ) (f : ℕ) → f < length faces / 4 → take (4 * f + 4 - 4 * f) (drop (4 * f) faces) ≡ face_corners faces f
unfolding face_corners
corners-some faces f h =
    ap (λ (k : ℕ). take k (drop (4 * f) faces)) (let e : 4 * f + 4 - 4 * f ≡ 4 = omega arith in e)
    ∙ sym (ap (λ (b : Bool). cond b (take 4 (drop (4 * f) faces)) []) (le-leb (4 * f + 4) (length faces) (omega arith)))

pub corners-none : (faces : List ℕ) (f : ℕ) → length faces / 4 ≤ f → [] ≡ face_corners faces f
unfolding face_corners
corners-none faces f h = sym (ap (λ (b : Bool). cond b (take 4 (drop (4 * f) faces)) []) (lt-leb (4 * f + 4) (length faces) (omega arith)))
