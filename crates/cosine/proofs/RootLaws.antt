-- The root by its binary digits is the whole part of the root, for every number below 4^k, and there is no other.
use mathlib.Core.Path.{◌≡◌}
use Prim.Native.Nat.{ℕ, zero, suc, ◌+◌, ◌*◌, ◌/◌, ◌^◌, ◌≤◌, ◌<◌}
use native.Mathlib.Nat.{mul-le-mul, le_antisymm, lt_of_not-le}
use native.Mathlib.Decide.{dec_le}
use native.Mathlib.Omega.{arith}
use lib.Dec.{leb, leb→le, nleb→lt}
use Rattle.integer.proofs.Cases.{cond_cases}
use Rattle.cosine.specs.Root.{IsRoot, with_digit, root}

-- ---- the definition
digit-meets : (x r : ℕ) → IsRoot (x / 4) r → IsRoot x (with_digit x r)
digit-meets x r w =
    let l = w.low in
    let h = w.high in
    cond_cases (leb ((2 * r + 1) * (2 * r + 1)) x) (2 * r + 1) (2 * r) (λ s. IsRoot x s)
    (λ t. record { low = leb→le ((2 * r + 1) * (2 * r + 1)) x t; high = omega arith })
    (λ t. record { low = omega arith; high = nleb→lt ((2 * r + 1) * (2 * r + 1)) x t })

pub root-meets : (k x : ℕ) → x < 4 ^ k → IsRoot x (root k x)
unfolding root
root-meets zero x h = record { low = omega arith; high = omega arith }
root-meets (suc k) x h = digit-meets x (root k (x / 4)) (root-meets k (x / 4) (omega arith))

not-less : (x r s : ℕ) → IsRoot x r → IsRoot x s → r < s → ⊥
not-less x r s v w l = omega (arith, v.high, w.low, mul-le-mul l l)

pub root-unique : (x r s : ℕ) → IsRoot x r → IsRoot x s → r ≡ s
root-unique x r s v w = by (dec_le r s) (dec_le s r)
  where
    by : Dec (r ≤ s) → Dec (s ≤ r) → r ≡ s
    by (yes a) (yes b) = le_antisymm a b
    by (no a) b = absurd (not-less x s r w v (lt_of_not-le a))
    by (yes a) (no b) = absurd (not-less x r s v w (lt_of_not-le b))
