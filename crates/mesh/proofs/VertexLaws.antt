-- What holds of some corner at a vertex, what holds of every one, and how many there are.
use mathlib.Core.Path.{◌≡◌, refl}
use mathlib.Core.Bool.{Bool, true, false, cond, false≢true}
use Prim.Native.Nat.{ℕ, ◌<◌}
use lib.Dec.{eqb}
use borrow.Author.Tests.{eq-eqb, eqb-true}
use Rattle.finite.specs.Fold.{count_below}
use Rattle.finite.proofs.FoldLaws.{bool_cases}
use Rattle.finite.proofs.AnyAll.{any-true, any_false, any-hit, any_none, all_true, all-hit}
use Rattle.finite.proofs.Gather.{gather-count}
use Rattle.mesh.specs.Fan.{any_at, all_at, valence}

pub valence-count : (at : ℕ → ℕ) (n p : ℕ) → valence at n p ≡ count_below (λ c. eqb (at c) p) n
unfolding valence
valence-count at n p = gather-count at n p

cond-true : (x y : Bool) → cond x y false ≡ true → (x ≡ true) × (y ≡ true)
cond-true true y e = (refl, e)
cond-true false y e = absurd (false≢true e)

module _ (at : ℕ → ℕ) (n p : ℕ) (t : ℕ → Bool) where
  pub any-at-true : any_at at n p t ≡ true → (c : ℕ) × (c < n) × (at c ≡ p) × (t c ≡ true)
  any-at-true h =
      let w = any-true (λ c. cond (eqb (at c) p) (t c) false) n h in
      let b = cond-true (eqb (at w.0) p) (t w.0) w.2 in
      (w.0, w.1, eqb-true (at w.0) p b.0, b.1)

  pub any-at-hit : (c : ℕ) → c < n → at c ≡ p → t c ≡ true → any_at at n p t ≡ true
  any-at-hit c l e h = any-hit (λ c. cond (eqb (at c) p) (t c) false) n c l (rw (eq-eqb (at c) p e) h)

  pub any-at-false : any_at at n p t ≡ false → (c : ℕ) → c < n → at c ≡ p → t c ≡ false
  any-at-false h c l e = rw (eq-eqb (at c) p e) at (any_false (λ c. cond (eqb (at c) p) (t c) false) n h c l)

  pub any-at-none : ((c : ℕ) → c < n → at c ≡ p → t c ≡ false) → any_at at n p t ≡ false
  any-at-none h =
      any_none (λ c. cond (eqb (at c) p) (t c) false) n (λ c l.
      bool_cases (eqb (at c) p) (λ e. rw e (h c l (eqb-true (at c) p e))) (λ e. rw e))

  pub all-at-true : all_at at n p t ≡ true → (c : ℕ) → c < n → at c ≡ p → t c ≡ true
  all-at-true h c l e = rw (eq-eqb (at c) p e) at (all_true (λ c. cond (eqb (at c) p) (t c) true) n h c l)

  pub all-at-hit : ((c : ℕ) → c < n → at c ≡ p → t c ≡ true) → all_at at n p t ≡ true
  all-at-hit h =
      all-hit (λ c. cond (eqb (at c) p) (t c) true) n (λ c l.
      bool_cases (eqb (at c) p) (λ e. rw e (h c l (eqb-true (at c) p e))) (λ e. rw e))
