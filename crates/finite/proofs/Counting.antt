-- Sums and counts of naturals: their order, and counting by a list of places, whether it names different numbers or covers them all.
use mathlib.Core.Path.{◌≡◌, refl, sym, ap, ap₂, ◌∙◌, subst}
use mathlib.Core.Bool.{Bool, true, false, cond, not, ◌&&◌, false≢true}
use Prim.Native.Nat.{ℕ, zero, suc, ◌+◌, ◌≤◌, ◌<◌, zero-le}
use native.Mathlib.Nat.{zero-add, add_assoc, add_comm, add-le-add, le_refl, le_antisymm, not-suc-le-zero}
use native.Mathlib.Numerals.{add-one}
use native.Mathlib.Omega.{arith}
use lib.Dec.{eqb, ltb}
use borrow.Author.Tests.{ne_eqb, eqb-true, lt-ltb, ltb-true}
use Rattle.finite.specs.Fold.{fold_below, any_below, sum_below, indicator, count_below}
use Rattle.finite.proofs.FoldLaws.{Monoid, fold-zero, fold_step, fold-ext, fold-op, fold-select, bool_cases, lt-suc-cases}
use Rattle.finite.proofs.AnyAll.{any-true, any_false, and-true}

pub sum-monoid : Monoid 0 ◌+◌
sum-monoid = record { idl = zero-add; assoc = add_assoc; comm = add_comm }

pub sum-le : (f g : ℕ → ℕ) (n : ℕ) → ((k : ℕ) → k < n → f k ≤ g k) → sum_below f n ≤ sum_below g n
unfolding fold_below
sum-le f g zero h = le_refl 0
sum-le f g (suc n) h = add-le-add (sum-le f g n (λ k l. h k (omega arith))) (h n (omega arith))

pub sum_ones : (n : ℕ) → sum_below (λ k. 1) n ≡ n
unfolding fold_below
sum_ones zero = refl
sum_ones (suc n) = rw (sum_ones n) (add-one n)

pub term-le-sum : (f : ℕ → ℕ) (n k : ℕ) → k < n → f k ≤ sum_below f n
unfolding fold_below
term-le-sum f zero k l = absurd (not-suc-le-zero l)
term-le-sum f (suc n) k l =
    lt-suc-cases l (λ e. omega (arith, ap f e)) (λ q. omega (arith, term-le-sum f n k q))

pub indicator-le : (b : Bool) → indicator b ≤ 1
indicator-le true = le_refl 1
indicator-le false = zero-le

pub count-le : (p : ℕ → Bool) (n : ℕ) → count_below p n ≤ n
count-le p n = rw sum_ones at (sum-le (λ k. indicator (p k)) (λ k. 1) n (λ k l. indicator-le (p k)))

indicator-split : (b c : Bool) → indicator b ≡ indicator (b && not c) + cond c (indicator b) 0
indicator-split true true = refl
indicator-split true false = refl
indicator-split false true = refl
indicator-split false false = refl

-- the count with one number left out
pub count-without : (p : ℕ → Bool) (n x : ℕ) → x < n → count_below p n ≡ count_below (λ k. p k && not (eqb x k)) n + indicator (p x)
count-without p n x l =
    fold-ext 0 ◌+◌ n (λ k _. indicator-split (p k) (eqb x k))
    ∙ fold-op sum-monoid (λ k. indicator (p k && not (eqb x k))) (λ k. cond (eqb x k) (indicator (p k)) 0) n
    ∙ ap (λ (t : ℕ). count_below (λ k. p k && not (eqb x k)) n + t) (fold-select sum-monoid (λ k. indicator (p k)) n x l)

-- each number below n with p has a place below m with w, and no two have the same
pub count-match : (R : ℕ → ℕ → Type 0) (p : ℕ → Bool) (n : ℕ) (w : ℕ → Bool) (m : ℕ)
    → ((k : ℕ) → k < n → p k ≡ true → (j : ℕ) × (j < m) × (w j ≡ true) × R j k)
    → ((j k l : ℕ) → k < n → l < n → R j k → R j l → k ≡ l) → count_below p n ≤ count_below w m
unfolding fold_below
count-match R p zero w m place one = zero-le
count-match R p (suc n) w m place one =
    bool_cases (p n)
    (λ b.
    let c = place n (omega arith) b in
    let rest =
    count-match R p n (λ j. w j && not (eqb c.0 j)) m
    (λ k l h.
    let d = place k (omega arith) h in
    let same : c.0 ≡ d.0 → k ≡ n = λ q. one d.0 k n (omega arith) (omega arith) d.3 (subst (λ (j : ℕ). R j n) q c.3) in
    (d.0, d.1, rw (d.2, ne_eqb c.0 d.0 (λ q. omega (arith, same q))), d.3))
    (λ j k l a b. one j k l (omega arith) (omega arith)) in
    omega (arith, rest, count-without w m c.0 c.1, ap indicator b, ap indicator c.2))
    (λ b.
    let rest = count-match R p n w m (λ k l. place k (omega arith)) (λ j k l a b. one j k l (omega arith) (omega arith)) in
    omega (arith, rest, ap indicator b))

-- m different numbers below n that have p
module _ (p : ℕ → Bool) (n m : ℕ) (e : ℕ → ℕ) (below : (j : ℕ) → j < m → e j < n) (has : (j : ℕ) → j < m → p (e j) ≡ true)
    (apart : (i j : ℕ) → i < m → j < m → e i ≡ e j → i ≡ j) where
  among : (w : ℕ → Bool) → ((j : ℕ) → j < m → w (e j) ≡ true) → m ≤ count_below w n
  among w h =
      rw sum_ones at
      (count-match (λ i j. e j ≡ i) (λ j. true) m w n (λ j l _. (e j, below j l, h j l, refl)) (λ i j k a b q r. apart j k a b (q ∙ sym r)))

  pub at_least : m ≤ count_below p n
  at_least = among p has

  -- where exactly m have it, they are these
  pub pigeons : count_below p n ≡ m → (k : ℕ) → k < n → p k ≡ true → (j : ℕ) × (j < m) × (e j ≡ k)
  pigeons exact k l h =
      bool_cases (any_below (λ j. eqb k (e j)) m)
      (λ t. let w = any-true (λ j. eqb k (e j)) m t in (w.0, w.1, sym (eqb-true k (e w.0) w.2)))
      (λ t.
      let other = any_false (λ j. eqb k (e j)) m t in
      absurd (omega (arith, among (λ i. p i && not (eqb k i)) (λ j b. rw (has j b, other j b)), count-without p n k l, ap indicator h)))

-- m places that name every number below n with p
pub at_most : (p : ℕ → Bool) (n m : ℕ) (e : ℕ → ℕ) → ((k : ℕ) → k < n → p k ≡ true → (j : ℕ) × (j < m) × (e j ≡ k)) → count_below p n ≤ m
at_most p n m e covers =
    rw sum_ones at
    (count-match (λ j k. e j ≡ k) p n (λ j. true) m (λ k l h. let c = covers k l h in (c.0, c.1, refl, c.2)) (λ j k l _ _ q r. sym q ∙ r))

-- and no fewer than m have p: each place names another number, and one with p
module _ (p : ℕ → Bool) (n m : ℕ) (e : ℕ → ℕ)
    (covers : (k : ℕ) → k < n → p k ≡ true → (j : ℕ) × (j < m) × (e j ≡ k)) (exact : m ≤ count_below p n) where
  needed : (i : ℕ) → i < m → ((k : ℕ) → k < n → p k ≡ true → (j : ℕ) × (j < m) × (not (eqb i j) ≡ true) × (e j ≡ k)) → ⊥
  needed i l others =
      let few = count-match (λ j k. e j ≡ k) p n (λ j. not (eqb i j)) m others (λ j k l _ _ q r. sym q ∙ r) in
      omega (arith, few, count-without (λ j. true) m i l, sum_ones m)

  pub cover-apart : (i j : ℕ) → i < m → j < m → e i ≡ e j → i ≡ j
  cover-apart i j a b q =
      bool_cases (eqb i j) (eqb-true i j) (λ t.
      absurd (needed i a (λ k l h.
      let c = covers k l h in
      bool_cases (eqb i c.0)
      (λ u. (j, b, ap not t, sym q ∙ ap e (eqb-true i c.0 u) ∙ c.2))
      (λ u. (c.0, c.1, ap not u, c.2)))))

  pub cover-inside : (i : ℕ) → i < m → (e i < n) × (p (e i) ≡ true)
  cover-inside i a =
      bool_cases (ltb (e i) n && p (e i))
      (λ t. let w = and-true (ltb (e i) n) (p (e i)) t in (ltb-true (e i) n w.0, w.1))
      (λ t.
      absurd (needed i a (λ k l h.
      let c = covers k l h in
      (c.0, c.1, ap not (ne_eqb i c.0 (λ r. false≢true (sym t ∙ rw (ap e r ∙ c.2, lt-ltb k n l, h)))), c.2))))

-- What a counting loop shows, in the shape that a need has: each is a lemma for `search`. The flag b is the test of number i.
pub count-start : (p : ℕ → Bool) → 0 ≡ count_below p 0
count-start p = sym (fold-zero 0 ◌+◌ (λ k. indicator (p k)))

-- a turn that adds the indicator x of the test
pub count-bit : (p : ℕ → Bool) (i c x : ℕ) (b : Bool) → c ≡ count_below p i → b ≡ p i → x ≡ indicator b → c + x ≡ count_below p (i + 1)
count-bit p i c x b h e q = sym (fold_step 0 ◌+◌ (λ k. indicator (p k)) i ∙ ap₂ ◌+◌ (sym h) (ap indicator (sym e) ∙ sym q))

pub count-all : (p : ℕ → Bool) (n i c : ℕ) → i ≤ n → n ≤ i → c ≡ count_below p i → c ≡ count_below p n
count-all p n i c a b h = h ∙ ap (count_below p) (le_antisymm a b)
