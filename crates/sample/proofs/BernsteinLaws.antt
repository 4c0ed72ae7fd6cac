-- The weights of a place a from 0 to n: they are the same from the other end, they sum to n^3, they are small, and at 0 only the first counts.
use mathlib.Core.Path.{◌≡◌, refl, sym, subst}
use Prim.Native.Nat.{ℕ, zero, suc, ◌+◌, ◌-◌, ◌*◌, ◌^◌, ◌<◌, ◌≤◌}
use native.Mathlib.Nat.{pow-suc, pow-zero, mul-le-mul, sub-zero}
use native.Mathlib.Omega.{arith}
use lib.Pow.{pow-add}
use Rattle.finite.specs.Fold.{fold_below, sum_below}
use Rattle.finite.proofs.Counting.{term-le-sum}
use Rattle.sample.specs.Bernstein.{bernstein}

pub pow-3 : (n : ℕ) → n ^ 3 ≡ n * n * n
pow-3 n = rw (pow-suc n 2, pow-suc n 1, pow-suc n 0, pow-zero n) (omega arith)

pub cube-small : (n : ℕ) → n ≤ 32 → n ^ 3 ≤ 32 ^ 3
cube-small n s = rw pow-3 (mul-le-mul (mul-le-mul s s) s)

pub sixth-small : (n : ℕ) → n ≤ 32 → n ^ 6 ≤ 32 ^ 6
sixth-small n s = rw (pow-add n 3 3) (mul-le-mul (cube-small n s) (cube-small n s))

module _ (n a : ℕ) (h : a ≤ n) where
  pub bernstein-flip : (i : ℕ) → i < 4 → bernstein n (n - a) i ≡ bernstein n a (3 - i)
  unfolding bernstein
  bernstein-flip i l = go i l
    where
      back : n - (n - a) ≡ a
      back = omega arith

      go : (i : ℕ) → i < 4 → bernstein n (n - a) i ≡ bernstein n a (3 - i)
      go zero l = rw back
      go (suc zero) l = rw back (omega arith)
      go (suc (suc zero)) l = rw back (omega arith)
      go (suc (suc (suc zero))) l = refl
      go (suc (suc (suc (suc i)))) l = absurd (omega arith)

  pub bernstein-sum : bernstein n a 0 + bernstein n a 1 + bernstein n a 2 + bernstein n a 3 ≡ n ^ 3
  unfolding bernstein
  bernstein-sum =
      let b : ℕ = n - a in
      let e : n ≡ a + b = omega arith in
      rw pow-3 (subst (λ (m : ℕ). b * b * b + 3 * a * b * b + 3 * a * a * b + a * a * a ≡ m * m * m) (sym e) (omega arith))

  pub bernstein-sum_below : sum_below (bernstein n a) 4 ≡ n ^ 3
  unfolding fold_below
  bernstein-sum_below = omega (arith, bernstein-sum)

  pub bernstein-le : (i : ℕ) → i < 4 → bernstein n a i ≤ n ^ 3
  bernstein-le i l = rw bernstein-sum_below at (term-le-sum (bernstein n a) 4 i l)

  pub bernstein-small : n ≤ 32 → (i : ℕ) → i < 4 → bernstein n a i ≤ 32768
  bernstein-small s i l = omega (arith, bernstein-le i l, cube-small n s)

-- ---- at 0
pub bernstein-first : (n : ℕ) → bernstein n 0 0 ≡ n ^ 3
unfolding bernstein
bernstein-first n = rw (sub-zero, pow-3)

pub bernstein-first-others : (n i : ℕ) → 0 < i → bernstein n 0 i ≡ 0
unfolding bernstein
bernstein-first-others n zero l = absurd (omega arith)
bernstein-first-others n (suc zero) l = omega arith
bernstein-first-others n (suc (suc zero)) l = omega arith
bernstein-first-others n (suc (suc (suc i))) l = refl
