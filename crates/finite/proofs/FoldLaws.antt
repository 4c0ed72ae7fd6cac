-- The laws of a fold over the numbers below n, in any commutative monoid:
-- two folds change places, one term is selected, a permutation changes nothing.
use mathlib.Core.Path.{◌≡◌, refl, sym, ap, ap₂, ◌∙◌}
use mathlib.Core.Bool.{Bool, true, false, cond}
use mathlib.Core.Logic.{⊎_elim}
use mathlib.Mathlib.Data.Bool.Basic.{eq-false_of_not-eq-true}
use Prim.Native.Nat.{ℕ, zero, suc, ◌+◌, ◌<◌}
use native.Mathlib.Nat.{not-suc-le-zero, le_of_suc-le-suc, eq-or-lt_of_le}
use native.Mathlib.Numerals.{add-one}
use native.Mathlib.Omega.{arith}
use lib.Dec.{eqb}
use borrow.Author.Tests.{eq-eqb, ne_eqb, eqb-true, eqb-false}
use Rattle.finite.specs.Fold.{fold_below}
use Rattle.finite.specs.Permutation.{Permutation}

pub record Monoid {A : Type 0} (z : A) (op : A → A → A) : Type 0 where
  pub idl : (x : A) → op z x ≡ x
  pub assoc : (x y w : A) → op (op x y) w ≡ op x (op y w)
  pub comm : (x y : A) → op x y ≡ op y x

-- a proof by cases of a test
pub bool_cases : {C : Type 0} (b : Bool) → (b ≡ true → C) → (b ≡ false → C) → C
bool_cases true f g = f refl
bool_cases false f g = g refl

-- a number below n + 1 is n, or below n
pub lt-suc-cases : {C : Type 0} {k n : ℕ} → k < suc n → (k ≡ n → C) → (k < n → C) → C
lt-suc-cases l f g = ⊎_elim f g (eq-or-lt_of_le (le_of_suc-le-suc l))

module _ {A : Type 0} (z : A) (op : A → A → A) where
  pub fold-zero : (f : ℕ → A) → fold_below z op f 0 ≡ z
  unfolding fold_below
  fold-zero f = refl

  pub fold-suc : (f : ℕ → A) (n : ℕ) → fold_below z op f (suc n) ≡ op (fold_below z op f n) (f n)
  unfolding fold_below
  fold-suc f n = refl

  pub fold_step : (f : ℕ → A) (n : ℕ) → fold_below z op f (n + 1) ≡ op (fold_below z op f n) (f n)
  fold_step f n = rw add-one (fold-suc f n)

  pub fold-ext : {f g : ℕ → A} (n : ℕ) → ((k : ℕ) → k < n → f k ≡ g k) → fold_below z op f n ≡ fold_below z op g n
  unfolding fold_below
  fold-ext zero h = refl
  fold-ext (suc n) h = ap₂ op (fold-ext n (λ k l. h k (omega arith))) (h n (omega arith))

module _ {A : Type 0} {z : A} {op : A → A → A} (m : Monoid z op) where
  pub fold-unit : {f : ℕ → A} (n : ℕ) → ((k : ℕ) → k < n → f k ≡ z) → fold_below z op f n ≡ z
  unfolding fold_below
  fold-unit zero h = refl
  fold-unit (suc n) h = ap₂ op (fold-unit n (λ k l. h k (omega arith))) (h n (omega arith)) ∙ m.idl z

  left_comm : (a b c : A) → op a (op b c) ≡ op b (op a c)
  left_comm a b c = sym (m.assoc a b c) ∙ ap (λ (t : A). op t c) (m.comm a b) ∙ m.assoc b a c

  pub fold-op : (f g : ℕ → A) (n : ℕ) → fold_below z op (λ k. op (f k) (g k)) n ≡ op (fold_below z op f n) (fold_below z op g n)
  unfolding fold_below
  fold-op f g zero = sym (m.idl z)
  fold-op f g (suc n) = rw (fold-op f g n) (simp (m.assoc, left_comm))

  -- two folds change places
  pub fold-swap : (f : ℕ → ℕ → A) (n k : ℕ)
      → fold_below z op (λ i. fold_below z op (λ j. f i j) k) n ≡ fold_below z op (λ j. fold_below z op (λ i. f i j) n) k
  unfolding fold_below
  fold-swap f zero k = sym (fold-unit k (λ j l. refl))
  fold-swap f (suc n) k = rw (fold-swap f n k) (sym (fold-op (λ j. fold_below z op (λ i. f i j) n) (f n) k))

  -- of the terms that a test of one index only keeps, that index's is left
  pub fold-only : (p : ℕ → Bool) (f : ℕ → A) (n i : ℕ) → i < n → p i ≡ true → ((k : ℕ) → k < n → p k ≡ true → k ≡ i)
      → fold_below z op (λ k. cond (p k) (f k) z) n ≡ f i
  unfolding fold_below
  fold-only p f zero i l h only = absurd (not-suc-le-zero l)
  fold-only p f (suc n) i l h only =
      let other : (k : ℕ) → k < suc n → (k ≡ i → ⊥) → p k ≡ false = λ k b r. eq-false_of_not-eq-true (λ t. r (only k b t)) in
      lt-suc-cases l
      (λ e. rw (← e, h, fold-unit {f = λ k. cond (p k) (f k) z} i (λ k q. rw (other k (omega arith) (λ r. omega arith)))) (m.idl (f i)))
      (λ q. rw (other n (omega arith) (λ r. omega arith), fold-only p f n i q h (λ k b. only k (omega arith)), m.comm) (m.idl (f i)))

  pub fold-select : (f : ℕ → A) (n i : ℕ) → i < n → fold_below z op (λ k. cond (eqb i k) (f k) z) n ≡ f i
  fold-select f n i l = fold-only (eqb i) f n i l (eq-eqb i i refl) (λ k _ e. sym (eqb-true i k e))

pub eqb_same : (a b c d : ℕ) → (a ≡ b → c ≡ d) → (c ≡ d → a ≡ b) → eqb a b ≡ eqb c d
eqb_same a b c d f g =
    bool_cases (eqb a b)
    (λ e. e ∙ sym (eq-eqb c d (f (eqb-true a b e))))
    (λ e. e ∙ sym (ne_eqb c d (λ q. eqb-false a b e (g q))))

module _ {A : Type 0} {z : A} {op : A → A → A} (m : Monoid z op) {n : ℕ} (r : Permutation n) where
  -- a permutation of the terms leaves the fold as it is
  pub fold-reindex : (f : ℕ → A) → fold_below z op (λ k. f (r.to k)) n ≡ fold_below z op f n
  fold-reindex f =
      fold-ext z op n (λ k l. sym (fold-select m f n (r.to k) (r.to_below k l)))
      ∙ fold-swap m (λ k d. cond (eqb (r.to k) d) (f d) z) n n
      ∙ fold-ext z op n (λ d l.
      fold-only m (λ k. eqb (r.to k) d) (λ _. f d) n (r.from d) (r.from-below d l) (eq-eqb (r.to (r.from d)) d (r.to-from d l))
      (λ k q e. sym (r.from-to k q) ∙ ap r.from (eqb-true (r.to k) d e)))
