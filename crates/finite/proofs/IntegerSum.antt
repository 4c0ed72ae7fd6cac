-- Sums of integers over the numbers below n: a factor taken out, the order, and the size. The other laws are cases of FoldLaws, by `sum_ℤ-monoid`.
use mathlib.Core.Path.{◌≡◌, sym, ap, ◌∙◌}
use Prim.Native.Nat.{ℕ, zero, suc, ◌*◌, ◌≤◌, ◌<◌, zero-le}
use native.Mathlib.Omega.{arith}
use lib.IntN.{ℤ, pos, nat_abs, ◌+ℤ◌, ◌*ℤ◌, +ℤ_idl, +ℤ_assoc, +ℤ_comm, *ℤ-zero}
use Rattle.integer.proofs.Laws.{*ℤ-+ℤ, abs-+}
use Rattle.finite.specs.Fold.{fold_below, sum_below_ℤ}
use Rattle.finite.proofs.FoldLaws.{Monoid}

pub sum_ℤ-monoid : Monoid (pos 0) ◌+ℤ◌
sum_ℤ-monoid = record { idl = +ℤ_idl; assoc = +ℤ_assoc; comm = +ℤ_comm }

pub sum-scale : (c : ℤ) (f : ℕ → ℤ) (n : ℕ) → sum_below_ℤ (λ k. c *ℤ f k) n ≡ c *ℤ sum_below_ℤ f n
unfolding fold_below
sum-scale c f zero = sym (*ℤ-zero c)
sum-scale c f (suc n) = ap (λ (t : ℤ). t +ℤ c *ℤ f n) (sum-scale c f n) ∙ sym (*ℤ-+ℤ c (sum_below_ℤ f n) (f n))

pub sum-size : (B : ℕ) (f : ℕ → ℤ) (n : ℕ) → ((k : ℕ) → k < n → nat_abs (f k) ≤ B) → nat_abs (sum_below_ℤ f n) ≤ n * B
unfolding fold_below
sum-size B f zero h = zero-le
sum-size B f (suc n) h = omega (arith, abs-+ (sum_below_ℤ f n) (f n), sum-size B f n (λ k l. h k (omega arith)), h n (omega arith))
