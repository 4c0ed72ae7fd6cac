-- The ring normaliser of ℤ: `ring ρ e f refl` proves the equation that the polynomials e and f spell over the integers of the list ρ, where
-- both have one normal form.
-- A polynomial is written with `var i` (the integer at place i of ρ), `con c`, :+, :-, :* and `neg`.
-- A normal form is a list of terms in the order of their monomials, each a coefficient other than 0 and a monomial: the sorted list of its variables.
use mathlib.Core.Path.{◌≡◌, refl, sym, ap, ap₂, ◌∙◌}
use mathlib.Core.Bool.{cond}
use mathlib.Core.List.{List, [], ◌∷◌}
use Prim.Native.Nat.{ℕ, zero, suc, compare, Ordering}
use native.Mathlib.Omega.{arith}
use lib.Dec.{T, leb, compare_is_eq, eqb→eq}
use lib.IntN.{ℤ, pos, negsuc, neg_ℤ, ◌+ℤ◌, ◌-ℤ◌, ◌*ℤ◌, +ℤ_idl, +ℤ_assoc, zero-*ℤ}
use Rattle.integer.proofs.Cases.{cond_cases}
use Rattle.integer.proofs.Difference.{int, nat, ~, ◌⊕◌, ◌⊛◌, prove-eq}
use Rattle.integer.proofs.Laws.{*ℤ-assoc, *ℤ-+ℤ, +ℤ-*ℤ}

infixl 6 ◌:+◌
infixl 6 ◌:-◌
infixl 7 ◌:*◌
pub data Polynomial : Type 0 where
  var : ℕ → Polynomial
  con : ℤ → Polynomial
  ◌:+◌ : Polynomial → Polynomial → Polynomial
  ◌:-◌ : Polynomial → Polynomial → Polynomial
  ◌:*◌ : Polynomial → Polynomial → Polynomial
  neg : Polynomial → Polynomial

abbrev pub lookup : List ℤ → ℕ → ℤ
lookup [] i = pos 0
lookup (a ∷ ρ) zero = a
lookup (a ∷ ρ) (suc i) = lookup ρ i

abbrev pub value : List ℤ → Polynomial → ℤ
value ρ (var i) = lookup ρ i
value ρ (con c) = c
value ρ (e :+ f) = value ρ e +ℤ value ρ f
value ρ (e :- f) = value ρ e -ℤ value ρ f
value ρ (e :* f) = value ρ e *ℤ value ρ f
value ρ (neg e) = neg_ℤ (value ρ e)

-- ---- normal forms
abbrev pub Monomial : Type 0
Monomial = List ℕ

pub data Normal : Type 0 where
  none : Normal
  term : ℤ → Monomial → Normal → Normal

abbrev pub insert : ℕ → Monomial → Monomial
insert i [] = i ∷ []
insert i (j ∷ m) = cond (leb i j) (i ∷ (j ∷ m)) (j ∷ insert i m)

abbrev pub mul-monomials : Monomial → Monomial → Monomial
mul-monomials [] m = m
mul-monomials (i ∷ l) m = insert i (mul-monomials l m)

-- the first comparison decides, and the second where that finds no difference
abbrev pub and_then : Ordering → Ordering → Ordering
and_then Ordering.lt o = Ordering.lt
and_then Ordering.eq o = o
and_then Ordering.gt o = Ordering.gt

abbrev pub compare-monomials : Monomial → Monomial → Ordering
compare-monomials [] [] = Ordering.eq
compare-monomials [] (j ∷ m) = Ordering.lt
compare-monomials (i ∷ l) [] = Ordering.gt
compare-monomials (i ∷ l) (j ∷ m) = and_then (compare i j) (compare-monomials l m)

-- a term whose coefficient is 0 is left out
abbrev pub term-unless-0 : ℤ → Monomial → Normal → Normal
term-unless-0 (pos zero) m s = s
term-unless-0 (pos (suc a)) m s = term (pos (suc a)) m s
term-unless-0 (negsuc a) m s = term (negsuc a) m s

-- the term c m before, with, or after the term d l of the sum (d l + s); `after` is the sum of c m and s
abbrev pub place : Ordering → ℤ → Monomial → ℤ → Monomial → Normal → Normal → Normal
place Ordering.lt c m d l s after = term c m (term d l s)
place Ordering.eq c m d l s after = term-unless-0 (c +ℤ d) m s
place Ordering.gt c m d l s after = term d l after

abbrev pub add_term : ℤ → Monomial → Normal → Normal
add_term c m none = term-unless-0 c m none
add_term c m (term d l s) = place (compare-monomials m l) c m d l s (add_term c m s)

abbrev pub add : Normal → Normal → Normal
add none s = s
add (term c m r) s = add_term c m (add r s)

abbrev pub mul-term : ℤ → Monomial → Normal → Normal
mul-term c m none = none
mul-term c m (term d l s) = add_term (c *ℤ d) (mul-monomials m l) (mul-term c m s)

abbrev pub mul : Normal → Normal → Normal
mul none s = none
mul (term c m r) s = add (mul-term c m s) (mul r s)

abbrev pub negate : Normal → Normal
negate s = mul-term (negsuc 0) [] s

abbrev pub normal : Polynomial → Normal
normal (var i) = term (pos 1) (i ∷ []) none
normal (con c) = term-unless-0 c [] none
normal (e :+ f) = add (normal e) (normal f)
normal (e :- f) = add (normal e) (negate (normal f))
normal (e :* f) = mul (normal e) (normal f)
normal (neg e) = negate (normal e)

-- ---- a normal form has the value of its polynomial
swap-factors : (a b c : ℤ) → a *ℤ (b *ℤ c) ≡ b *ℤ (a *ℤ c)
swap-factors a b c = prove-eq (int a ⊛ (int b ⊛ int c)) (int b ⊛ (int a ⊛ int c)) (omega arith)

swap_inner : (a b c d : ℤ) → (a *ℤ b) *ℤ (c *ℤ d) ≡ (a *ℤ c) *ℤ (b *ℤ d)
swap_inner a b c d = *ℤ-assoc a b (c *ℤ d) ∙ ap (λ t. a *ℤ t) (swap-factors b c d) ∙ sym (*ℤ-assoc a c (b *ℤ d))

both-eq : (o p : Ordering) → T (compare_is_eq (and_then o p)) → T (compare_is_eq o) × T (compare_is_eq p)
both-eq Ordering.lt p t = absurd t
both-eq Ordering.eq p t = (tt, t)
both-eq Ordering.gt p t = absurd t

same-monomial : (l m : Monomial) → T (compare_is_eq (compare-monomials l m)) → l ≡ m
same-monomial [] [] t = refl
same-monomial [] (j ∷ m) t = absurd t
same-monomial (i ∷ l) [] t = absurd t
same-monomial (i ∷ l) (j ∷ m) t =
    let b = both-eq (compare i j) (compare-monomials l m) t in
    ap (λ n. n ∷ l) (eqb→eq i j b.0) ∙ ap (λ n. j ∷ n) (same-monomial l m b.1)

module _ (ρ : List ℤ) where
  abbrev product : Monomial → ℤ
  product [] = pos 1
  product (i ∷ m) = lookup ρ i *ℤ product m

  abbrev sum : Normal → ℤ
  sum none = pos 0
  sum (term c m s) = c *ℤ product m +ℤ sum s

  product-insert : (i : ℕ) (m : Monomial) → product (insert i m) ≡ lookup ρ i *ℤ product m
  product-insert i [] = refl
  product-insert i (j ∷ m) =
      cond_cases (leb i j) (i ∷ (j ∷ m)) (j ∷ insert i m) (λ l. product l ≡ lookup ρ i *ℤ (lookup ρ j *ℤ product m)) (λ t. refl)
      (λ t. ap (λ t. lookup ρ j *ℤ t) (product-insert i m) ∙ swap-factors (lookup ρ j) (lookup ρ i) (product m))

  product-mul : (l m : Monomial) → product (mul-monomials l m) ≡ product l *ℤ product m
  product-mul [] m = prove-eq (int (product m)) (nat 1 ⊛ int (product m)) (omega arith)
  product-mul (i ∷ l) m =
      product-insert i (mul-monomials l m) ∙ ap (λ t. lookup ρ i *ℤ t) (product-mul l m) ∙ sym (*ℤ-assoc (lookup ρ i) (product l) (product m))

  sum-term-unless-0 : (c : ℤ) (m : Monomial) (s : Normal) → sum (term-unless-0 c m s) ≡ c *ℤ product m +ℤ sum s
  sum-term-unless-0 (pos zero) m s = prove-eq (int (sum s)) (nat 0 ⊛ int (product m) ⊕ int (sum s)) (omega arith)
  sum-term-unless-0 (pos (suc a)) m s = refl
  sum-term-unless-0 (negsuc a) m s = refl

  sum-place : (o : Ordering) (c : ℤ) (m : Monomial) (d : ℤ) (l : Monomial) (s after : Normal) → (T (compare_is_eq o) → m ≡ l) → sum after ≡ c *ℤ product m +ℤ sum s
      → sum (place o c m d l s after) ≡ c *ℤ product m +ℤ (d *ℤ product l +ℤ sum s)
  sum-place Ordering.lt c m d l s after e f = refl
  sum-place Ordering.eq c m d l s after e f =
      sum-term-unless-0 (c +ℤ d) m s
      ∙ prove-eq ((int c ⊕ int d) ⊛ int (product m) ⊕ int (sum s)) (int c ⊛ int (product m) ⊕ (int d ⊛ int (product m) ⊕ int (sum s))) (omega arith)
      ∙ ap (λ n. c *ℤ product m +ℤ (d *ℤ product n +ℤ sum s)) (e tt)
  sum-place Ordering.gt c m d l s after e f =
      ap (λ t. d *ℤ product l +ℤ t) f
      ∙ prove-eq (int (d *ℤ product l) ⊕ (int (c *ℤ product m) ⊕ int (sum s))) (int (c *ℤ product m) ⊕ (int (d *ℤ product l) ⊕ int (sum s))) (omega arith)

  sum-add-term : (c : ℤ) (m : Monomial) (s : Normal) → sum (add_term c m s) ≡ c *ℤ product m +ℤ sum s
  sum-add-term c m none = sum-term-unless-0 c m none
  sum-add-term c m (term d l s) = sum-place (compare-monomials m l) c m d l s (add_term c m s) (same-monomial m l) (sum-add-term c m s)

  sum-add : (r s : Normal) → sum (add r s) ≡ sum r +ℤ sum s
  sum-add none s = sym (+ℤ_idl (sum s))
  sum-add (term c m r) s =
      sum-add-term c m (add r s) ∙ ap (λ t. c *ℤ product m +ℤ t) (sum-add r s) ∙ sym (+ℤ_assoc (c *ℤ product m) (sum r) (sum s))

  sum-mul-term : (c : ℤ) (m : Monomial) (s : Normal) → sum (mul-term c m s) ≡ (c *ℤ product m) *ℤ sum s
  sum-mul-term c m none = prove-eq (nat 0) (int (c *ℤ product m) ⊛ nat 0) (omega arith)
  sum-mul-term c m (term d l s) =
      sum-add-term (c *ℤ d) (mul-monomials m l) (mul-term c m s)
      ∙ ap (λ t. (c *ℤ d) *ℤ t +ℤ sum (mul-term c m s)) (product-mul m l)
      ∙ ap (λ t. (c *ℤ d) *ℤ (product m *ℤ product l) +ℤ t) (sum-mul-term c m s)
      ∙ ap (λ t. t +ℤ (c *ℤ product m) *ℤ sum s) (swap_inner c d (product m) (product l))
      ∙ sym (*ℤ-+ℤ (c *ℤ product m) (d *ℤ product l) (sum s))

  sum-mul : (r s : Normal) → sum (mul r s) ≡ sum r *ℤ sum s
  sum-mul none s = sym (zero-*ℤ (sum s))
  sum-mul (term c m r) s =
      sum-add (mul-term c m s) (mul r s)
      ∙ ap (λ t. t +ℤ sum (mul r s)) (sum-mul-term c m s)
      ∙ ap (λ t. (c *ℤ product m) *ℤ sum s +ℤ t) (sum-mul r s)
      ∙ sym (+ℤ-*ℤ (c *ℤ product m) (sum r) (sum s))

  sum-negate : (s : Normal) → sum (negate s) ≡ neg_ℤ (sum s)
  sum-negate s = sum-mul-term (negsuc 0) [] s ∙ prove-eq (~ (nat 1) ⊛ int (sum s)) (~ (int (sum s))) (omega arith)

  sum-normal : (e : Polynomial) → sum (normal e) ≡ value ρ e
  sum-normal (var i) = prove-eq (nat 1 ⊛ (int (lookup ρ i) ⊛ nat 1) ⊕ nat 0) (int (lookup ρ i)) (omega arith)
  sum-normal (con c) = sum-term-unless-0 c [] none ∙ prove-eq (int c ⊛ nat 1 ⊕ nat 0) (int c) (omega arith)
  sum-normal (e :+ f) = sum-add (normal e) (normal f) ∙ ap₂ ◌+ℤ◌ (sum-normal e) (sum-normal f)
  sum-normal (e :- f) =
      sum-add (normal e) (negate (normal f)) ∙ ap₂ ◌+ℤ◌ (sum-normal e) (sum-negate (normal f) ∙ ap neg_ℤ (sum-normal f))
  sum-normal (e :* f) = sum-mul (normal e) (normal f) ∙ ap₂ ◌*ℤ◌ (sum-normal e) (sum-normal f)
  sum-normal (neg e) = sum-negate (normal e) ∙ ap neg_ℤ (sum-normal e)

pub ring : (ρ : List ℤ) (e f : Polynomial) → normal e ≡ normal f → value ρ e ≡ value ρ f
ring ρ e f h = sym (sum-normal ρ e) ∙ ap (sum ρ) h ∙ sum-normal ρ f

-- as an example, the square of a sum
square-of-sum : (a b : ℤ) → (a +ℤ b) *ℤ (a +ℤ b) ≡ a *ℤ a +ℤ pos 2 *ℤ (a *ℤ b) +ℤ b *ℤ b
square-of-sum a b =
    ring (a ∷ (b ∷ [])) ((var 0 :+ var 1) :* (var 0 :+ var 1)) (var 0 :* var 0 :+ con (pos 2) :* (var 0 :* var 1) :+ var 1 :* var 1) refl
