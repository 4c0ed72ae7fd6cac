-- The recurrence of the cosines of multiples: its steps, and the size of what it gives for every m to 32 and every place to 17.
use mathlib.Core.Path.{◌≡◌, refl}
use mathlib.Core.Bool.{true}
use Prim.Native.Nat.{ℕ, ◌+◌, ◌^◌, ◌≤◌}
use native.Mathlib.Numerals.{add-one}
use native.Mathlib.Omega.{arith}
use lib.Dec.{leb}
use lib.IntN.{ℤ, pos, nat_abs, ◌-ℤ◌, ◌*ℤ◌}
use borrow.Author.Tests.{leb-true}
use Rattle.integer.specs.Nearest.{half_even, nearest_ℕ, nearest}
use Rattle.finite.specs.Fold.{fold_below, all_below}
use Rattle.finite.proofs.AnyAll.{all_true}
use Rattle.cosine.specs.Cosine.{scale, cosines, cosine}
use Rattle.cosine.specs.Weight.{chain}

-- ---- the steps
pub chain-zero : (c : ℤ) → chain c 0 ≡ pos scale
unfolding chain
chain-zero c = refl

pub chain-one : (c : ℤ) → chain c (0 + 1) ≡ c
unfolding chain
chain-one c = refl

pub chain_next : (c : ℤ) (i : ℕ) → chain c (i + 1 + 1) ≡ nearest (pos 2 *ℤ c *ℤ chain c (i + 1)) scale -ℤ chain c i
unfolding chain
chain_next c i = rw (add-one (i + 1), add-one i)

-- ---- the size: the largest is 1,048,584, at place 14 for m = 28
chains-small : all_below (λ m. all_below (λ i. leb (nat_abs (chain (cosine m) i)) (2 ^ 21)) 18) 33 ≡ true
unfolding fold_below half_even nearest_ℕ nearest cosines cosine chain
chains-small = refl

pub chain-size : (m i : ℕ) → m ≤ 32 → i ≤ 17 → nat_abs (chain (cosine m) i) ≤ 2 ^ 21
chain-size m i h l =
    leb-true (nat_abs (chain (cosine m) i)) (2 ^ 21)
    (all_true (λ i. leb (nat_abs (chain (cosine m) i)) (2 ^ 21)) 18
    (all_true (λ m. all_below (λ i. leb (nat_abs (chain (cosine m) i)) (2 ^ 21)) 18) 33 chains-small m (omega arith)) i (omega arith))
