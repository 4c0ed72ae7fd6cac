-- `store_point` meets its contract: the three numbers that are copied are stored one after the other.
use mathlib.Core.Path.{◌≡◌, sym, ap, ap₂, ◌∙◌}
use mathlib.Core.List.{List, [], ◌∷◌, ◌++◌, append_assoc}
use Prim.Native.Nat.{ℕ, suc, ◌+◌, ◌-◌, ◌*◌, ◌≤◌}
use native.Mathlib.Omega.{arith}
use lib.IntN.{ℤ}
use lib.ListN.{length, take, drop, set}
use lib.Seq.{sets-eq, drop-drop}
use mir.Facts.{to_z-of_z}
use borrow.Rule.Slice.PartMut.{put_mid}
use Rattle.line.proofs.points.store_point.Goals as goal

stored : (l : List ℤ) (at k : ℕ) (x y z : ℤ) → at + 3 ≤ length l → k ≡ 3
    → put_mid at k l (x ∷ (y ∷ (z ∷ []))) ≡ set (set (set l at x) (at + 1) y) (at + 2) z
stored l at k x y z h e =
    let t : List ℤ = x ∷ (y ∷ (z ∷ [])) in
    let one : suc at ≡ at + 1 = omega arith in
    let two : suc (suc at) ≡ at + 2 = omega arith in
    ap (λ (w : List ℤ). take at l ++ (t ++ w)) (drop-drop k at l ∙ ap (λ (i : ℕ). drop (at + i) l) e)
    ∙ sym (append_assoc (take at l) t (drop (at + 3) l))
    ∙ sym (sets-eq t l at h)
    ∙ ap₂ (λ (i j : ℕ). set (set (set l at x) i y) j z) one two

pub returns : goal.returns
returns c =
    let at = 3 * c.args.a in
    let three =
    ap₂ ◌∷◌ (to_z-of_z c.ranges.x)
    (ap₂ ◌∷◌ (to_z-of_z c.ranges.y) (ap (λ (v : ℤ). v ∷ []) (to_z-of_z c.ranges.z))) in
    ap (put_mid at (at + 3 - at) c.args.line.now) (c.copy_from_slice.ensures.after ∙ three)
    ∙ stored c.args.line.now at _ c.args.x c.args.y c.args.z (omega arith) (omega arith)
