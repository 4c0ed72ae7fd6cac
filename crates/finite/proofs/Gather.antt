-- What is gathered by key: an array into which a pass adds f c at the place key c, turn by turn;
-- the same along a list of the numbers with the key; and how many these are.
use mathlib.Core.Path.{◌≡◌, sym, ap, ◌∙◌}
use mathlib.Core.Bool.{true, cond}
use mathlib.Core.List.{List}
use Prim.Native.Nat.{ℕ, ◌+◌, ◌<◌}
use lib.Dec.{eqb}
use lib.ListN.{length, get_or, set}
use lib.Seq.{get_or-set_same, get_or-set_other}
use borrow.Author.Tests.{eq-eqb, ne_eqb, eqb-true, eqb-false}
use Rattle.finite.specs.Fold.{fold_below, count_below, gather}
use Rattle.finite.proofs.FoldLaws.{Monoid, fold-zero, fold_step, fold-ext, fold-unit, fold-swap, fold-only, fold-select, bool_cases}

-- each place below k of the array xs has what is gathered of its key, over the numbers below n
abbrev pub Gathered : {A : Type 0} → A → (A → A → A) → (ℕ → ℕ) → (ℕ → A) → ℕ → ℕ → List A → Type 0
Gathered z op key f n k xs = (p : ℕ) → p < k → get_or xs p z ≡ gather z op key f n p

pub gathered_none : {A : Type 0} (z : A) (op : A → A → A) (key : ℕ → ℕ) (f : ℕ → A) (k : ℕ) (xs : List A)
    → ((p : ℕ) → p < k → get_or xs p z ≡ z) → Gathered z op key f 0 k xs
gathered_none z op key f k xs h p l = h p l ∙ sym (fold-zero z op (λ c. cond (eqb (key c) p) (f c) z))

module _ {A : Type 0} {z : A} {op : A → A → A} (m : Monoid z op) (key : ℕ → ℕ) (f : ℕ → A) where
  -- one turn of the pass: v is stored at the place a
  pub gathered-more : (k i a : ℕ) (v : A) (xs : List A) → a < length xs → a ≡ key i → v ≡ op (get_or xs a z) (f i)
      → Gathered z op key f i k xs → Gathered z op key f (i + 1) k (set xs a v)
  gathered-more k i a v xs l e q h p b =
      bool_cases (eqb (key i) p)
      (λ t.
      let same : p ≡ a = cc (eqb-true (key i) p t) in
      rw (fold_step, t, ← (h p b), same, get_or-set_same) q)
      (λ t. rw (fold_step, t, m.comm, m.idl, get_or-set_other xs a p v z (λ s. eqb-false (key i) p t (cc))) (h p b))

pub gather-count : (key : ℕ → ℕ) (n p : ℕ) → gather 0 ◌+◌ key (λ c. 1) n p ≡ count_below (λ c. eqb (key c) p) n
gather-count key n p = fold-ext 0 ◌+◌ n (λ c _. bool_cases (eqb (key c) p) (λ t. rw t) (λ t. rw t))

-- m different numbers below n, which are those with key p: to gather by the key is to fold along them
module _ {A : Type 0} {z : A} {op : A → A → A} (o : Monoid z op) (n m : ℕ) (key e : ℕ → ℕ) (p : ℕ)
    (below : (i : ℕ) → i < m → e i < n) (here : (i : ℕ) → i < m → key (e i) ≡ p) (apart : (i j : ℕ) → i < m → j < m → e i ≡ e j → i ≡ j)
    (covers : (d : ℕ) → d < n → key d ≡ p → (i : ℕ) × (i < m) × (e i ≡ d)) where
  pub gather-along : (f : ℕ → A) → gather z op key f n p ≡ fold_below z op (λ i. f (e i)) m
  gather-along f =
      fold-ext z op n (λ d l.
      bool_cases (eqb (key d) p)
      (λ t.
      let w = covers d l (eqb-true (key d) p t) in
      let one : (i : ℕ) → i < m → eqb (e i) d ≡ true → i ≡ w.0 = λ i k r. apart i w.0 k w.1 (eqb-true (e i) d r ∙ sym w.2) in
      rw t (sym (fold-only o (λ i. eqb (e i) d) (λ _. f d) m w.0 w.1 (eq-eqb (e w.0) d w.2) one)))
      (λ t. rw t (sym (fold-unit o m (λ i k. rw (ne_eqb (e i) d (λ r. eqb-false (key d) p t (ap key (sym r) ∙ here i k))))))))
      ∙ fold-swap o (λ d i. cond (eqb (e i) d) (f d) z) n m
      ∙ fold-ext z op m (λ i l. fold-select o f n (e i) (below i l))
