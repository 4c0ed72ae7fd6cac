-- `put` meets its contract: the four numbers that are copied are stored one after the other.
use mathlib.Core.Path.{◌≡◌, sym, ap, ap₂, ◌∙◌}
use mathlib.Core.List.{List, [], ◌∷◌, ◌++◌, append_assoc}
use Prim.Native.Nat.{ℕ, suc, ◌+◌, ◌-◌, ◌*◌, ◌≤◌}
use native.Mathlib.Omega.{arith}
use lib.IntN.{ℤ, pos}
use lib.ListN.{length, take, drop, set}
use lib.Seq.{sets-eq, drop-drop}
use mir.Facts.{to_z-of_z}
use borrow.Rule.Slice.PartMut.{put_mid}
use Rattle.control.proofs.values.put.Goals as goal

stored : (l : List ℤ) (at k : ℕ) (x y z w : ℤ) → at + 4 ≤ length l → k ≡ 4
    → put_mid at k l (x ∷ (y ∷ (z ∷ (w ∷ [])))) ≡ set (set (set (set l at x) (at + 1) y) (at + 2) z) (at + 3) w
stored l at k x y z w h e =
    let t : List ℤ = x ∷ (y ∷ (z ∷ (w ∷ []))) in
    let one : suc at ≡ at + 1 = omega arith in
    let two : suc (suc at) ≡ at + 2 = omega arith in
    let three : suc (suc (suc at)) ≡ at + 3 = omega arith in
    ap (λ (v : List ℤ). take at l ++ (t ++ v)) (drop-drop k at l ∙ ap (λ (i : ℕ). drop (at + i) l) e)
    ∙ sym (append_assoc (take at l) t (drop (at + 4) l))
    ∙ sym (sets-eq t l at h)
    ∙ ap₂ (λ (i j : ℕ). set (set (set (set l at x) i y) j z) (suc (suc (suc at))) w) one two
    ∙ ap (λ (i : ℕ). set (set (set (set l at x) (at + 1) y) (at + 2) z) i w) three

pub returns : goal.returns
returns c =
    let at = 4 * c.args.c in
    let four =
    ap₂ ◌∷◌ (to_z-of_z c.ranges.x)
    (ap₂ ◌∷◌ (to_z-of_z c.ranges.y) (ap (λ (v : ℤ). v ∷ (pos 0 ∷ [])) (to_z-of_z c.ranges.z))) in
    ap (put_mid at (at + 4 - at) c.args.values.now) (c.copy_from_slice.ensures.after ∙ four)
    ∙ stored c.args.values.now at _ c.args.x c.args.y c.args.z (pos 0) (omega arith) (omega arith)
