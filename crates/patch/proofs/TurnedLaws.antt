-- A face begun one corner later: its points are those of the face as it was, each under another number.
--
--   turned m   point m of the face begun later is the point `turned m` of the face as it was
use mathlib.Core.Path.{◌≡◌, refl, sym, ap, ap₂, ◌∙◌}
use Prim.Native.Nat.{ℕ, suc, ◌+◌, ◌-◌, ◌*◌, ◌/◌, ◌%◌, ◌<◌}
use Rattle.finite.specs.Filled.{list_below}
use Rattle.finite.proofs.FilledLaws.{agree}
use Rattle.corner.specs.Corner.{turn, next}
use Rattle.mesh.proofs.CornerLaws.{turn-next, turn-mod}
use Rattle.patch.specs.Point.{View, Kind, point}
use Rattle.patch.specs.Patch.{owner, kind, patch_point}

abbrev pub turned : ℕ → ℕ
turned m = 3 - m / 4 + 4 * (m % 4)

pub owner-turned : (m : ℕ) → m < 16 → suc (owner m) % 4 ≡ owner (turned m)
unfolding owner list_below
owner-turned m l = agree (λ m. suc (owner m) % 4) (λ m. owner (turned m)) 16 refl m l

pub kind-turned : (m : ℕ) → m < 16 → kind m ≡ kind (turned m)
unfolding kind list_below
kind-turned m l = agree kind (λ m. kind (turned m)) 16 refl m l

pub patch-turned : (S : View) (c m : ℕ) → m < 16 → patch_point S (next c) m ≡ patch_point S c (turned m)
unfolding patch_point
patch-turned S c m l =
    ap (λ (d : ℕ). point S d (kind m)) (turn-next (owner m) c ∙ sym (turn-mod (suc (owner m)) c))
    ∙ ap₂ (λ (i : ℕ) (k : Kind). point S (turn i c) k) (owner-turned m l) (kind-turned m l)
