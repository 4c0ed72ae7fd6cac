-- What only the contracts of private functions cite: differences, and the sum along a curve as a cubic in a.
--
--   forward f a           the forward difference: how much f grows from a to a + 1
--   forward₂, forward₃    the second and the third: the first of the one before
--   differences_at f a     f at a, and its three differences there
--   next_of d              the same one place further, where the third difference stays
--   Summable n curve      N in its range, and a curve with four values whose small multiples fit 64 bits
--   Tame d                a number and its differences whose sums by two fit 64 bits
--   cubic n h a           the sum of the values h 0 to h 3 of a curve by the weights of place a, in powers of a: so it goes on behind a = N
use Rattle.std.specs.Prelude.{List, ℕ, ◌+◌, ◌*◌, ◌^◌, ◌≤◌, ℤ, pos, nat_abs, ◌+ℤ◌, ◌-ℤ◌, ◌*ℤ◌}
use Rattle.sample.specs.Refusal.{max_steps}
use Rattle.sample.specs.Blend.{Fine}
use Rattle.line.specs.declared.model.Differences.{Differences}

abbrev pub forward : (ℕ → ℤ) → ℕ → ℤ
forward f a = f (a + 1) -ℤ f a

abbrev pub forward₂ : (ℕ → ℤ) → ℕ → ℤ
forward₂ f = forward (forward f)

abbrev pub forward₃ : (ℕ → ℤ) → ℕ → ℤ
forward₃ f = forward (forward₂ f)

abbrev pub differences_at : (ℕ → ℤ) → ℕ → Differences
differences_at f a = record { value = f a; first = forward f a; second = forward₂ f a; third = forward₃ f a }

abbrev pub next_of : Differences → Differences
next_of d = record { value = d.value +ℤ d.first; first = d.first +ℤ d.second; second = d.second +ℤ d.third; third = d.third }

pub record Summable (n : ℕ) (curve : List ℤ) : Type 0 where
  pub few : n ≤ max_steps
  pub fine : Fine curve

pub record Tame (d : Differences) : Type 0 where
  pub value : nat_abs d.value ≤ 2 ^ 61
  pub first : nat_abs d.first ≤ 2 ^ 61
  pub second : nat_abs d.second ≤ 2 ^ 61
  pub third : nat_abs d.third ≤ 2 ^ 61

unfoldable pub cubic : ℕ → (ℕ → ℤ) → ℕ → ℤ
cubic n h a =
    pos (n * n * n) *ℤ h 0
    +ℤ pos (3 * n * n * a) *ℤ forward h 0
    +ℤ pos (3 * n * a * a) *ℤ forward₂ h 0
    +ℤ pos (a * a * a) *ℤ forward₃ h 0
