-- Some number below n has p, every number below n has p: what this says of each number, and what a search loop shows of it turn by turn.
use mathlib.Core.Path.{◌≡◌, refl, sym, ap, ap₂, ◌∙◌}
use mathlib.Core.Bool.{Bool, true, false, not, ◌&&◌, ◌||◌, and_assoc, and_comm, or_assoc, or_comm, true≢false, false≢true}
use Prim.Native.Nat.{ℕ, zero, suc, ◌+◌, ◌≤◌, ◌<◌}
use native.Mathlib.Nat.{not-suc-le-zero}
use native.Mathlib.Omega.{arith}
use Rattle.finite.specs.Fold.{fold_below, any_below, all_below}
use Rattle.finite.proofs.FoldLaws.{Monoid, fold-zero, fold_step, fold-unit, bool_cases, lt-suc-cases}

pub any-monoid : Monoid false ◌||◌
any-monoid = record { idl = λ x. refl; assoc = or_assoc; comm = or_comm }

pub all-monoid : Monoid true ◌&&◌
all-monoid = record { idl = λ x. refl; assoc = and_assoc; comm = and_comm }

-- the tests of a disjunction that fails, and of a conjunction that holds
pub or-false : (x y : Bool) → (x || y) ≡ false → (x ≡ false) × (y ≡ false)
or-false true y e = absurd (true≢false e)
or-false false y e = (refl, e)

pub and-true : (x y : Bool) → (x && y) ≡ true → (x ≡ true) × (y ≡ true)
and-true true y e = (refl, e)
and-true false y e = absurd (false≢true e)

-- two tests of which each gives the other
pub same_test : (x y : Bool) → (x ≡ true → y ≡ true) → (y ≡ true → x ≡ true) → x ≡ y
same_test true y f g = sym (f refl)
same_test false true f g = g refl
same_test false false f g = refl

pub any_none : (p : ℕ → Bool) (n : ℕ) → ((k : ℕ) → k < n → p k ≡ false) → any_below p n ≡ false
any_none p n h = fold-unit any-monoid n h

pub any_false : (p : ℕ → Bool) (n : ℕ) → any_below p n ≡ false → (k : ℕ) → k < n → p k ≡ false
unfolding fold_below
any_false p zero e k l = absurd (not-suc-le-zero l)
any_false p (suc n) e k l =
    let b = or-false (any_below p n) (p n) e in
    lt-suc-cases l (λ q. ap p q ∙ b.1) (any_false p n b.0 k)

pub any-hit : (p : ℕ → Bool) (n k : ℕ) → k < n → p k ≡ true → any_below p n ≡ true
any-hit p n k l h = bool_cases (any_below p n) (λ e. e) (λ e. let miss = any_false p n e k l in cc)

-- one that has it can be pointed at
pub any-true : (p : ℕ → Bool) (n : ℕ) → any_below p n ≡ true → (k : ℕ) × (k < n) × (p k ≡ true)
unfolding fold_below
any-true p zero e = absurd (false≢true e)
any-true p (suc n) e =
    bool_cases (p n)
    (λ q. (n, omega arith, q))
    (λ q. let r = any-true p n (cc (or_comm (any_below p n) (p n))) in (r.0, omega arith, r.2))

pub all-hit : (p : ℕ → Bool) (n : ℕ) → ((k : ℕ) → k < n → p k ≡ true) → all_below p n ≡ true
all-hit p n h = fold-unit all-monoid n h

pub all_true : (p : ℕ → Bool) (n : ℕ) → all_below p n ≡ true → (k : ℕ) → k < n → p k ≡ true
unfolding fold_below
all_true p zero e k l = absurd (not-suc-le-zero l)
all_true p (suc n) e k l =
    let b = and-true (all_below p n) (p n) e in
    lt-suc-cases l (λ q. ap p q ∙ b.1) (all_true p n b.0 k)

-- What a search loop shows, in the shape that a need has: each is a lemma for `search`. The flag b is the test of number i.
pub any-start : (p : ℕ → Bool) → any_below p 0 ≡ false
any-start p = fold-zero false ◌||◌ p

-- a turn in which the test failed
pub any-more : (p : ℕ → Bool) (i : ℕ) (b : Bool) → any_below p i ≡ false → b ≡ p i → b ≡ false → any_below p (i + 1) ≡ false
any-more p i b h e q = fold_step false ◌||◌ p i ∙ ap₂ ◌||◌ h (sym e ∙ q)

pub any_found : (p : ℕ → Bool) (n i : ℕ) (b : Bool) → i < n → b ≡ p i → b ≡ true → true ≡ any_below p n
any_found p n i b l e q = sym (any-hit p n i l (sym e ∙ q))

pub any-not : (p : ℕ → Bool) (n i : ℕ) → any_below p i ≡ false → n ≤ i → false ≡ any_below p n
any-not p n i h l = sym (any_none p n (λ k q. any_false p i h k (omega arith)))

-- the answer of a test in two steps, x and then y
pub or_yes : (x y : Bool) → x ≡ true → true ≡ (x || y)
or_yes x y e = rw e

pub or_no : (x y w : Bool) → x ≡ false → w ≡ y → w ≡ (x || y)
or_no x y w e q = rw e q

pub and_yes : (x y w : Bool) → x ≡ true → w ≡ y → w ≡ (x && y)
and_yes x y w e q = rw e q

pub and_no : (x y : Bool) → x ≡ false → false ≡ (x && y)
and_no x y e = rw e

pub not_yes : (x : Bool) → x ≡ true → false ≡ not x
not_yes x e = rw e

pub not-no : (x : Bool) → x ≡ false → true ≡ not x
not-no x e = rw e
