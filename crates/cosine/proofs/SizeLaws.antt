-- The sizes of what goes into a weight: R, the divisor n R, and the numerators.
use mathlib.Core.Path.{◌≡◌, refl, subst}
use mathlib.Core.Bool.{true, ◌&&◌}
use Prim.Native.Nat.{ℕ, ◌+◌, ◌-◌, ◌*◌, ◌^◌, ◌≤◌, ◌<◌, min}
use native.Mathlib.Nat.{mul-le-mul}
use native.Mathlib.Omega.{arith}
use lib.Dec.{leb, ltb}
use lib.IntN.{pos, nat_abs, ◌+ℤ◌}
use borrow.Author.Tests.{leb-true, ltb-true}
use Rattle.integer.proofs.Laws.{abs-+}
use Rattle.finite.specs.Fold.{fold_below, all_below}
use Rattle.finite.proofs.AnyAll.{and-true, all_true}
use Rattle.cosine.specs.Cosine.{cosines, cosine}
use Rattle.cosine.specs.Root.{IsRoot, root}
use Rattle.cosine.specs.Weight.{multiple_cosine, half_cosine, radicand, hypotenuse, divisor}
use Rattle.cosine.proofs.CosineLaws.{cosine-size}
use Rattle.cosine.proofs.ChainLaws.{chain-size}
use Rattle.cosine.proofs.RootLaws.{root-meets, root-unique}

-- ---- R and its divisor, which is 37,371,936 at most
pub half-size : (n : ℕ) → n ≤ 16 → nat_abs (half_cosine n) ≤ 2 ^ 20
half-size n l = cosine-size (2 * n) (omega arith)

pub radicand-size : (h : ℕ) → h ≤ 2 ^ 20 → 2 ^ 42 + h * h < 2 ^ 44
radicand-size h l = omega (arith, mul-le-mul l l)

-- R is the whole part of the root, and what the code finds is R
pub hypotenuse-meets : (n : ℕ) → n ≤ 16 → IsRoot (radicand n) (hypotenuse n)
unfolding hypotenuse
hypotenuse-meets n l = root-meets _ (radicand n) (omega (arith, radicand-size (nat_abs (half_cosine n)) (half-size n l)))

pub hypotenuse-is : (n h r : ℕ) → n ≤ 16 → h ≡ nat_abs (half_cosine n) → IsRoot (2 ^ 42 + h * h) r → r ≡ hypotenuse n
hypotenuse-is n h r l e w = root-unique (radicand n) r (hypotenuse n) (subst (λ (k : ℕ). IsRoot (2 ^ 42 + k * k) r) e w) (hypotenuse-meets n l)

hypotenuses : all_below (λ n. leb (2 ^ 21) (hypotenuse n) && ltb (hypotenuse n) (2 ^ 22)) 17 ≡ true
unfolding fold_below cosines cosine root hypotenuse
hypotenuses = refl

pub hypotenuse-size : (n : ℕ) → n ≤ 16 → (2 ^ 21 ≤ hypotenuse n) × (hypotenuse n < 2 ^ 22)
hypotenuse-size n l =
    let w = and-true _ _ (all_true (λ n. leb (2 ^ 21) (hypotenuse n) && ltb (hypotenuse n) (2 ^ 22)) 17 hypotenuses n (omega arith)) in
    (leb-true _ _ w.0, ltb-true _ _ w.1)

pub divisor-size : (n : ℕ) → 3 ≤ n → n ≤ 16 → (3 * 2 ^ 21 ≤ divisor n) × (divisor n ≤ 2 ^ 26)
divisor-size n a b =
    let w = hypotenuse-size n b in
    let h : hypotenuse n ≤ 2 ^ 22 = omega (arith, w.1) in
    (mul-le-mul a w.0, mul-le-mul b h)

-- ---- the factors of the numerators, which are 3.53e12 at most
pub multiple-size : (m i : ℕ) → m ≤ 32 → i ≤ m → nat_abs (multiple_cosine m i) ≤ 2 ^ 21
unfolding multiple_cosine
multiple-size m i h l = chain-size m (min i (m - i)) h (omega arith)

pub sum-size : (n : ℕ) → n ≤ 16 → nat_abs (pos (hypotenuse n) +ℤ half_cosine n) ≤ 2 ^ 23
sum-size n l = omega (arith, abs-+ (pos (hypotenuse n)) (half_cosine n), (hypotenuse-size n l).1, half-size n l)
