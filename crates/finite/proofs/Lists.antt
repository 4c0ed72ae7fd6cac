-- A fold over the places of a list is the library's fold of its entries.
use Rattle.std.specs.Prelude.{◌≡◌, Bool, false, true, ◌||◌, ◌&&◌, ℕ, zero, suc, List, [], ◌∷◌, ◌+◌, ◌++◌, count_by, drop, length, get_or, refl}
use Rattle.std.specs.List.{list_any, list_all, range_with_len}
use Rattle.std.proofs.Common.{sym, ◌∙◌, ap, cond, arith, zero-add}
use Rattle.std.proofs.lemmas.List.Recursion.{is_count_by}
use Rattle.finite.specs.Fold.{any_below, all_below, indicator, count_below, fold_below}
use Rattle.finite.specs.Filled.{list_below, filled}
use Rattle.finite.proofs.FoldLaws.{Monoid, fold-ext}
use Rattle.finite.proofs.AnyAll.{any-monoid, all-monoid}
use Rattle.finite.proofs.Counting.{sum-monoid}

module _ {A : Type 0} {z : A} {op : A → A → A} (m : Monoid z op) where
  -- the first term by itself
  pub fold-first : (f : ℕ → A) (n : ℕ) → fold_below z op f (suc n) ≡ op (f 0) (fold_below z op (λ i. f (suc i)) n)
  unfolding fold_below
  fold-first f zero = m.comm z (f 0)
  fold-first f (suc n) = ap (λ (t : A). op t (f (suc n))) (fold-first f n) ∙ m.assoc (f 0) (fold_below z op (λ i. f (suc i)) n) (f (suc n))

pub any-of-list : {A : Type 0} (p : A → Bool) (xs : List A) (d : A) → list_any p xs ≡ any_below (λ i. p (get_or xs i d)) (length xs)
unfolding fold_below
any-of-list p [] d = refl
any-of-list p (x ∷ xs) d =
    ap (λ (t : Bool). p x || t) (any-of-list p xs d) ∙ sym (fold-first any-monoid (λ i. p (get_or (x ∷ xs) i d)) (length xs))

pub all-of-list : {A : Type 0} (p : A → Bool) (xs : List A) (d : A) → list_all p xs ≡ all_below (λ i. p (get_or xs i d)) (length xs)
unfolding fold_below
all-of-list p [] d = refl
all-of-list p (x ∷ xs) d =
    ap (λ (t : Bool). p x && t) (all-of-list p xs d) ∙ sym (fold-first all-monoid (λ i. p (get_or (x ∷ xs) i d)) (length xs))

pub count-of-list : {A : Type 0} (p : A → Bool) (xs : List A) (d : A) → count_by p xs ≡ count_below (λ i. p (get_or xs i d)) (length xs)
unfolding fold_below
count-of-list {A} p xs d = sym (is_count_by (λ (ys : List A). count_below (λ i. p (get_or ys i d)) (length ys)) p none-yet one-more xs)
  where
    none-yet : count_below (λ i. p (get_or [] i d)) (length {A = A} []) ≡ 0
    none-yet = refl

    one-if : (b : Bool) (n : ℕ) → indicator b + n ≡ cond b (1 + n) n
    one-if true n = refl
    one-if false n = omega arith

    one-more : (x : A) (ys : List A)
        → count_below (λ i. p (get_or (x ∷ ys) i d)) (length (x ∷ ys))
        ≡ cond (p x) (1 + count_below (λ i. p (get_or ys i d)) (length ys)) (count_below (λ i. p (get_or ys i d)) (length ys))
    one-more x ys = fold-first sum-monoid (λ i. indicator (p (get_or (x ∷ ys) i d))) (length ys) ∙ one-if (p x) (count_below (λ i. p (get_or ys i d)) (length ys))

-- a list is written by its entries
pub first-below : {A : Type 0} (f : ℕ → A) (n : ℕ) → list_below f (suc n) ≡ f 0 ∷ list_below (λ i. f (suc i)) n
unfolding list_below
first-below f zero = refl
first-below f (suc n) = ap (λ t. t ++ (f (suc n) ∷ [])) (first-below f n)

pub below-of-list : {A : Type 0} (xs : List A) (d : A) → list_below (λ i. get_or xs i d) (length xs) ≡ xs
unfolding list_below
below-of-list [] d = refl
below-of-list (x ∷ xs) d = first-below (λ i. get_or (x ∷ xs) i d) (length xs) ∙ ap (λ t. x ∷ t) (below-of-list xs d)

pub filled-of-list : {A : Type 0} (xs d : List A) (z : A) → filled (λ i. get_or xs i z) (length xs) d ≡ xs ++ drop (length xs) d
unfolding filled
filled-of-list xs d z = ap (λ t. t ++ drop (length xs) d) (below-of-list xs z)

-- ---- a range
any-from : (p : ℕ → Bool) (a n : ℕ) → list_any p (range_with_len a n) ≡ any_below (λ k. p (a + k)) n
unfolding fold_below
any-from p a zero = refl
any-from p a (suc n) =
    ap (λ (t : Bool). p a || t) (any-from p (a + 1) n ∙ fold-ext false ◌||◌ n (λ k l. ap p (omega arith)))
    ∙ sym (fold-first any-monoid (λ k. p (a + k)) n ∙ ap (λ (x : ℕ). p x || any_below (λ k. p (a + suc k)) n) (omega arith))

-- the numbers below n, as a range has them
pub any-range : (p : ℕ → Bool) (n : ℕ) → list_any p (range_with_len 0 n) ≡ any_below p n
any-range p n = any-from p 0 n ∙ fold-ext false ◌||◌ n (λ k l. ap p (zero-add k))
