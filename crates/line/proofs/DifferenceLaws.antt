-- The sum along a curve as a cubic: its differences, one place further, and its values where they are samples.
use mathlib.Core.Path.{◌≡◌, sym, ap, ap₂, ◌∙◌}
use Prim.Native.Nat.{ℕ, ◌+◌, ◌-◌, ◌*◌, ◌^◌, ◌≤◌, ◌<◌}
use native.Mathlib.Nat.{mul-le-mul}
use native.Mathlib.Omega.{arith}
use lib.IntN.{ℤ, pos, nat_abs, ◌+ℤ◌, ◌-ℤ◌, ◌*ℤ◌}
use Rattle.integer.proofs.Difference.{Expr, int, nat, ◌⊕◌, ◌⊝◌, ◌⊛◌, prove-eq}
use Rattle.integer.proofs.Laws.{abs-+, abs--, abs-*-≤}
use Rattle.finite.specs.Fold.{fold_below, sum_below_ℤ}
use Rattle.sample.specs.Bernstein.{bernstein}
use Rattle.sample.specs.Refusal.{max_steps}
use Rattle.line.specs.declared.model.Differences.{Differences}
use Rattle.line.specs.Differences.{forward, forward₂, forward₃, differences_at, next_of, Tame, cubic}

-- ---- by their parts
pub same-differences : {w x y z w' x' y' z' : ℤ} → w ≡ w' → x ≡ x' → y ≡ y' → z ≡ z'
    → ◌≡◌ {A = Differences} (record { value = w; first = x; second = y; third = z }) (record { value = w'; first = x'; second = y'; third = z' })
same-differences e f g h = cc

-- ---- one place further, where the third difference stays
grown : (x y : ℤ) → x +ℤ (y -ℤ x) ≡ y
grown x y = prove-eq (int x ⊕ (int y ⊝ int x)) (int y) (omega arith)

next-is : (f : ℕ → ℤ) (a : ℕ) → forward₃ f a ≡ forward₃ f (a + 1)
    → next_of (differences_at f a) ≡ differences_at f (a + 1)
next-is f a e =
    same-differences
    (grown (f a) (f (a + 1)))
    (grown (forward f a) (forward f (a + 1)))
    (grown (forward₂ f a) (forward₂ f (a + 1)))
    e

-- ---- the third difference, by the first and the last value
pub third-is : (h : ℕ → ℤ) → (h 3 -ℤ h 0) -ℤ pos 3 *ℤ forward h 1 ≡ forward₃ h 0
third-is h =
    let p : Expr = int (h 1) ⊝ int (h 0) in
    let q : Expr = int (h 2) ⊝ int (h 1) in
    let r : Expr = int (h 3) ⊝ int (h 2) in
    prove-eq ((int (h 3) ⊝ int (h 0)) ⊝ nat 3 ⊛ q) ((r ⊝ q) ⊝ (q ⊝ p)) (omega arith)

-- ---- the size of differences
module _ (h : ℕ → ℤ) (B : ℕ) (fine : (i : ℕ) → i < 4 → nat_abs (h i) ≤ B) where
  pub first-size : (i : ℕ) → i < 3 → nat_abs (forward h i) ≤ 2 * B
  first-size i l = omega (arith, abs-- (h (i + 1)) (h i), fine (i + 1) (omega arith), fine i (omega arith))

  pub second-size : (i : ℕ) → i < 2 → nat_abs (forward₂ h i) ≤ 4 * B
  second-size i l = omega (arith, abs-- (forward h (i + 1)) (forward h i), first-size (i + 1) (omega arith), first-size i (omega arith))

  pub third-size : nat_abs (forward₃ h 0) ≤ 8 * B
  third-size = omega (arith, abs-- (forward₂ h 1) (forward₂ h 0), second-size 1 (omega arith), second-size 0 (omega arith))

-- ---- the differences of the cubic
module _ (h : ℕ → ℤ) where
  -- h 0 and its three differences, by four weights
  abbrev combined : ℕ → ℕ → ℕ → ℕ → ℤ
  combined k l m o = pos k *ℤ h 0 +ℤ pos l *ℤ forward h 0 +ℤ pos m *ℤ forward₂ h 0 +ℤ pos o *ℤ forward₃ h 0

  abbrev combined-expr : ℕ → ℕ → ℕ → ℕ → Expr
  combined-expr k l m o =
      nat k ⊛ int (h 0) ⊕ nat l ⊛ int (forward h 0) ⊕ nat m ⊛ int (forward₂ h 0) ⊕ nat o ⊛ int (forward₃ h 0)

  -- where the weights of a grow by k', l', m', o', so does the sum
  combined-difference : (k l m o k' l' m' o' : ℕ → ℕ) (a : ℕ)
      → k (a + 1) ≡ k a + k' a → l (a + 1) ≡ l a + l' a → m (a + 1) ≡ m a + m' a → o (a + 1) ≡ o a + o' a
      → forward (λ a. combined (k a) (l a) (m a) (o a)) a ≡ combined (k' a) (l' a) (m' a) (o' a)
  combined-difference k l m o k' l' m' o' a d e f g =
      rw (d, e, f, g)
      (prove-eq (combined-expr (k a + k' a) (l a + l' a) (m a + m' a) (o a + o' a) ⊝ combined-expr (k a) (l a) (m a) (o a))
      (combined-expr (k' a) (l' a) (m' a) (o' a)) (omega arith))

  combined-size : (B : ℕ) → ((i : ℕ) → i < 4 → nat_abs (h i) ≤ B) → (k l m o : ℕ) → nat_abs (combined k l m o) ≤ k * B + l * (2 * B) + m * (4 * B) + o * (8 * B)
  combined-size B fine k l m o =
      let x : ℤ = pos k *ℤ h 0 in
      let y : ℤ = pos l *ℤ forward h 0 in
      let z : ℤ = pos m *ℤ forward₂ h 0 in
      let w : ℤ = pos o *ℤ forward₃ h 0 in
      omega (
        arith,
        abs-+ (x +ℤ y +ℤ z) w,
        abs-+ (x +ℤ y) z,
        abs-+ x y,
        abs-*-≤ (pos k) (h 0) {A = k} (omega arith) (fine 0 (omega arith)),
        abs-*-≤ (pos l) (forward h 0) {A = l} (omega arith) (first-size h B fine 0 (omega arith)),
        abs-*-≤ (pos m) (forward₂ h 0) {A = m} (omega arith) (second-size h B fine 0 (omega arith)),
        abs-*-≤ (pos o) (forward₃ h 0) {A = o} (omega arith) (third-size h B fine),
      )

  module _ (n : ℕ) where
    cubic-first : (a : ℕ) → forward (cubic n h) a ≡ combined 0 (3 * n * n) (3 * n * (2 * a + 1)) (3 * a * a + 3 * a + 1)
    unfolding cubic
    cubic-first a =
        combined-difference (λ _. n * n * n) (λ a. 3 * n * n * a) (λ a. 3 * n * a * a) (λ a. a * a * a)
        (λ _. 0) (λ _. 3 * n * n) (λ a. 3 * n * (2 * a + 1)) (λ a. 3 * a * a + 3 * a + 1) a (omega arith) (omega arith) (omega arith) (omega arith)

    cubic-second : (a : ℕ) → forward₂ (cubic n h) a ≡ combined 0 0 (6 * n) (6 * (a + 1))
    cubic-second a =
        ap₂ ◌-ℤ◌ (cubic-first (a + 1)) (cubic-first a)
        ∙ combined-difference (λ _. 0) (λ _. 3 * n * n) (λ a. 3 * n * (2 * a + 1)) (λ a. 3 * a * a + 3 * a + 1)
        (λ _. 0) (λ _. 0) (λ _. 6 * n) (λ a. 6 * (a + 1)) a (omega arith) (omega arith) (omega arith) (omega arith)

    cubic-third : (a : ℕ) → forward₃ (cubic n h) a ≡ combined 0 0 0 6
    cubic-third a =
        ap₂ ◌-ℤ◌ (cubic-second (a + 1)) (cubic-second a)
        ∙ combined-difference (λ _. 0) (λ _. 0) (λ _. 6 * n) (λ a. 6 * (a + 1))
        (λ _. 0) (λ _. 0) (λ _. 0) (λ _. 6) a (omega arith) (omega arith) (omega arith) (omega arith)

    -- at a = 0
    pub cubic-start : (let half = pos 0 +ℤ pos (3 * n) *ℤ forward₂ h 0 in
        differences_at (cubic n h) 0 ≡ record {
          value = pos 0 +ℤ pos (n * n * n) *ℤ h 0;
          first = half +ℤ forward₃ h 0 +ℤ pos (3 * n * n) *ℤ forward h 0;
          second = pos 0 +ℤ pos 2 *ℤ (half +ℤ pos 3 *ℤ forward₃ h 0);
          third = pos 0 +ℤ pos 6 *ℤ forward₃ h 0;
        })
    unfolding cubic
    cubic-start =
        let half : Expr = nat 0 ⊕ nat (3 * n) ⊛ int (forward₂ h 0) in
        let value = prove-eq (combined-expr (n * n * n) (3 * n * n * 0) (3 * n * 0 * 0) (0 * 0 * 0)) (nat 0 ⊕ nat (n * n * n) ⊛ int (h 0)) (omega arith) in
        let first =
        prove-eq (combined-expr 0 (3 * n * n) (3 * n * (2 * 0 + 1)) (3 * 0 * 0 + 3 * 0 + 1))
        (half ⊕ int (forward₃ h 0) ⊕ nat (3 * n * n) ⊛ int (forward h 0)) (omega arith) in
        let second = prove-eq (combined-expr 0 0 (6 * n) (6 * (0 + 1))) (nat 0 ⊕ nat 2 ⊛ (half ⊕ nat 3 ⊛ int (forward₃ h 0))) (omega arith) in
        let third = prove-eq (combined-expr 0 0 0 6) (nat 0 ⊕ nat 6 ⊛ int (forward₃ h 0)) (omega arith) in
        same-differences value (cubic-first 0 ∙ first) (cubic-second 0 ∙ second) (cubic-third 0 ∙ third)

    pub cubic-next : (a : ℕ) → next_of (differences_at (cubic n h) a) ≡ differences_at (cubic n h) (a + 1)
    cubic-next a = next-is (cubic n h) a (cubic-third a ∙ sym (cubic-third (a + 1)))

-- ---- the size of what is carried from place to place
pub cubic-tame : (h : ℕ → ℤ) → ((i : ℕ) → i < 4 → nat_abs (h i) ≤ 2 ^ 45) → (n a : ℕ) → n ≤ max_steps → a ≤ max_steps → nat_abs (cubic n h a) ≤ 2 ^ 61
    → Tame (differences_at (cubic n h) a)
cubic-tame h fine n a few at small = record {
  value = small;
  first =
      rw (cubic-first h n a)
      (omega (arith, size 0 (3 * n * n) (3 * n * (2 * a + 1)) (3 * a * a + 3 * a + 1), mul-le-mul few few, mul-le-mul few at, mul-le-mul at at));
  second = rw (cubic-second h n a) (omega (arith, size 0 0 (6 * n) (6 * (a + 1))));
  third = rw (cubic-third h n a) (omega (arith, size 0 0 0 6));
}
  where
    size : (k l m o : ℕ) → nat_abs (combined h k l m o) ≤ k * 2 ^ 45 + l * (2 * 2 ^ 45) + m * (4 * 2 ^ 45) + o * (8 * 2 ^ 45)
    size = combined-size h (2 ^ 45) fine

-- ---- its values, by the weights
weighed : (k l m o : ℕ) (w x y z : ℤ)
    → pos (k + l + m + o) *ℤ w +ℤ pos (l + 2 * m + 3 * o) *ℤ (x -ℤ w) +ℤ pos (m + 3 * o) *ℤ ((y -ℤ x) -ℤ (x -ℤ w))
    +ℤ pos o *ℤ (((z -ℤ y) -ℤ (y -ℤ x)) -ℤ ((y -ℤ x) -ℤ (x -ℤ w)))
    ≡ pos 0 +ℤ pos k *ℤ w +ℤ pos l *ℤ x +ℤ pos m *ℤ y +ℤ pos o *ℤ z
weighed k l m o w x y z =
    let p : Expr = int x ⊝ int w in
    let q : Expr = int y ⊝ int x in
    let r : Expr = int z ⊝ int y in
    prove-eq (nat (k + l + m + o) ⊛ int w ⊕ nat (l + 2 * m + 3 * o) ⊛ p ⊕ nat (m + 3 * o) ⊛ (q ⊝ p) ⊕ nat o ⊛ ((r ⊝ q) ⊝ (q ⊝ p)))
    (nat 0 ⊕ nat k ⊛ int w ⊕ nat l ⊛ int x ⊕ nat m ⊛ int y ⊕ nat o ⊛ int z) (omega arith)

cubic-of-sum : (a b : ℕ) (h : ℕ → ℤ)
    → cubic (a + b) h a ≡ pos 0 +ℤ pos (b * b * b) *ℤ h 0 +ℤ pos (3 * a * b * b) *ℤ h 1 +ℤ pos (3 * a * a * b) *ℤ h 2 +ℤ pos (a * a * a) *ℤ h 3
unfolding cubic
cubic-of-sum a b h =
    let n : ℕ = a + b in
    let cube : n * n * n ≡ b * b * b + 3 * a * b * b + 3 * a * a * b + a * a * a = omega arith in
    let square : 3 * n * n * a ≡ 3 * a * b * b + 2 * (3 * a * a * b) + 3 * (a * a * a) = omega arith in
    let once : 3 * n * a * a ≡ 3 * a * a * b + 3 * (a * a * a) = omega arith in
    rw (cube, square, once) (weighed (b * b * b) (3 * a * b * b) (3 * a * a * b) (a * a * a) (h 0) (h 1) (h 2) (h 3))

pub cubic-weighed : (n a : ℕ) → a ≤ n → (h : ℕ → ℤ) → cubic n h a ≡ sum_below_ℤ (λ i. pos (bernstein n a i) *ℤ h i) 4
unfolding bernstein fold_below
cubic-weighed n a l h = let e : n ≡ a + (n - a) = omega arith in ap (λ (m : ℕ). cubic m h a) e ∙ cubic-of-sum a (n - a) h
