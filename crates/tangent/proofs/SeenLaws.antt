-- A face seen from any of its corners: the corner after each, and the control values.
--
--   next_point m, seen_point s m   point m of a patch, seen from the face's next corner, and from its corner s, by its number in the patch
use mathlib.Core.Path.{◌≡◌, sym, ap, ◌∙◌}
use Prim.Native.Nat.{ℕ, zero, suc, ◌+◌, ◌-◌, ◌*◌, ◌/◌, ◌%◌, ◌<◌}
use native.Mathlib.Omega.{arith}
use Rattle.corner.specs.Corner.{turn, next}
use Rattle.mesh.proofs.CornerLaws.{turn-none, turn_suc, turn-mod}
use Rattle.patch.specs.Point.{View}
use Rattle.patch.specs.Patch.{control_value}
use Rattle.control.specs.Control.{units}
use Rattle.patch.proofs.TurnedLaws.{patch-turned}

abbrev next_point : ℕ → ℕ
next_point m = 3 - m / 4 + 4 * (m % 4)

abbrev pub seen_point : ℕ → ℕ → ℕ
seen_point zero m = m
seen_point (suc s) m = seen_point s (next_point m)

-- the corner after corner s of a face that begins at c
pub turn-after : (s c : ℕ) → next (turn s c) ≡ turn (suc s % 4) c
turn-after s c = sym (turn_suc s c) ∙ sym (turn-mod (suc s) c)

-- the control values of the face that begins at corner s
pub value-seen : (S : View) (s c m : ℕ) → m < 16 → control_value S (turn s c) m ≡ control_value S c (seen_point s m)
value-seen S zero c m l = ap (λ (d : ℕ). control_value S d m) (turn-none c)
value-seen S (suc s) c m l =
    ap (λ (d : ℕ). control_value S d m) (turn_suc s c)
    ∙ ap units (patch-turned S (turn s c) m l)
    ∙ value-seen S s c (next_point m) (omega arith)
