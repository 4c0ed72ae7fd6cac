-- Samples of rounded control points are within one unit of the exact surface: half a unit by the points, and half by the sample itself.
use mathlib.Core.Path.{◌≡◌}
use Prim.Native.Nat.{ℕ, ◌*◌, ◌^◌, ◌≤◌, ◌<◌}
use lib.IntN.{pos, nat_abs, ◌-ℤ◌, ◌*ℤ◌}
use Rattle.integer.proofs.NearestLaws.{nearest-meets}
use Rattle.sample.specs.Bernstein.{numerator, rounded}
use Rattle.sample.proofs.SampleLaws.{rounded-near}
use Rattle.mask.specs.Mask.{Fraction}
use Rattle.control.specs.Control.{units}

pub distance : (n a b : ℕ) → 0 < n → a ≤ n → b ≤ n → (g : ℕ → Fraction) (L : ℕ) (q : ℕ → ℕ)
    → ((m : ℕ) → m < 16 → 0 < (g m).den) → ((m : ℕ) → m < 16 → L ≡ (g m).den * q m)
    → nat_abs (rounded n a b (λ m. units (g m)) *ℤ pos (n ^ 6 * L) -ℤ numerator n a b (λ m. pos 256 *ℤ (g m).num *ℤ pos (q m))) ≤ n ^ 6 * L
distance n a b some ha hb g L q positive common =
    rounded-near n a b some ha hb (λ m. pos 256 *ℤ (g m).num) (λ m. (g m).den) q L (λ m. units (g m)) common
    (λ m l. (nearest-meets (pos 256 *ℤ (g m).num) (g m).den (positive m l)).near)
