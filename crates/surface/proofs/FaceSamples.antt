-- The samples of a face seen from any of its corners: a face begun later has the same samples at the matching places,
-- and the samples of each side are those of side 0 seen from the side's corner.
--
--   sum_from S n c p      the sum of the control values at place p of the face of corner c, where c counts as the face's first corner
--   sample_from S n c p   the sample there: the sum over N^6, rounded
use mathlib.Core.Path.{◌≡◌, refl, sym, ap, ap₂, ◌∙◌}
use Prim.Native.Nat.{ℕ, zero, suc, ◌-◌, ◌^◌, ◌≤◌, ◌<◌}
use native.Mathlib.Omega.{arith}
use lib.IntN.{ℤ}
use Rattle.integer.specs.Nearest.{nearest}
use Rattle.corner.specs.Corner.{turn, next}
use Rattle.mesh.proofs.CornerLaws.{turn-none, turn-next}
use Rattle.sample.specs.Bernstein.{numerator, rounded}
use Rattle.sample.proofs.SampleLaws.{numerator-ext, numerator-turn}
use Rattle.patch.specs.Point.{View}
use Rattle.control.specs.Control.{units}
use Rattle.patch.specs.Patch.{control_value}
use Rattle.patch.proofs.TurnedLaws.{patch-turned}
use Rattle.surface.specs.Renumbering.{Place, place, matching, on_side}

abbrev pub sum_from : View → ℕ → ℕ → Place → ℤ
sum_from S n c p = numerator n p.a p.b (control_value S c)

abbrev pub sample_from : View → ℕ → ℕ → Place → ℤ
sample_from S n c p = rounded n p.a p.b (control_value S c)

-- ---- places
abbrev pub Within : ℕ → Place → Type 0
Within n p = (p.a ≤ n) × (p.b ≤ n)

pub matching-within : (n s : ℕ) (p : Place) → Within n p → Within n (matching n s p)
matching-within n zero p w = w
matching-within n (suc s) p w = matching-within n s (place p.b (n - p.a)) (w.1, omega arith)

pub side-within : (n s t : ℕ) → t ≤ n → Within n (on_side n s t)
side-within n zero t h = (h, omega arith)
side-within n (suc zero) t h = (omega arith, h)
side-within n (suc (suc zero)) t h = (omega arith, omega arith)
side-within n (suc (suc (suc s))) t h = (omega arith, omega arith)

-- a side is side 0 of the face begun at its corner
side-matches : (n s t : ℕ) → t ≤ n → s < 4 → matching n s (on_side n s t) ≡ place t 0
side-matches n zero t h l = refl
side-matches n (suc zero) t h l = ap₂ place refl (omega arith)
side-matches n (suc (suc zero)) t h l = ap₂ place (omega arith) (omega arith)
side-matches n (suc (suc (suc zero))) t h l = ap₂ place (omega arith) (omega arith)
side-matches n (suc (suc (suc (suc s)))) t h l = absurd (omega arith)

-- ---- a face begun one corner later
sum-turned : (S : View) (n c a b : ℕ) → a ≤ n → sum_from S n (next c) (place b (n - a)) ≡ sum_from S n c (place a b)
sum-turned S n c a b h =
    numerator-ext n b (n - a) (λ m l. ap units (patch-turned S c m l)) ∙ numerator-turn n a b (control_value S c) h

-- ---- a face begun s corners later
pub sum-matching : (S : View) (n s c : ℕ) (p : Place) → Within n p → sum_from S n (turn s c) (matching n s p) ≡ sum_from S n c p
sum-matching S n zero c p w = ap (λ (d : ℕ). sum_from S n d p) (turn-none c)
sum-matching S n (suc s) c p w =
    ap (λ (d : ℕ). sum_from S n d (matching n (suc s) p)) (sym (turn-next s c))
    ∙ sum-matching S n s (next c) (place p.b (n - p.a)) (w.1, omega arith)
    ∙ sum-turned S n c p.a p.b w.0

pub sample-matching : (S : View) (n s c : ℕ) (p : Place) → Within n p → sample_from S n (turn s c) (matching n s p) ≡ sample_from S n c p
unfolding rounded
sample-matching S n s c p w = ap (λ (z : ℤ). nearest z (n ^ 6)) (sum-matching S n s c p w)

pub sample-side : (S : View) (n s t c : ℕ) → t ≤ n → s < 4 → sample_from S n c (on_side n s t) ≡ sample_from S n (turn s c) (place t 0)
sample-side S n s t c h l =
    sym (sample-matching S n s c (on_side n s t) (side-within n s t h)) ∙ ap (sample_from S n (turn s c)) (side-matches n s t h l)
