-- What is said of all the numbers below n at once. Everything here is one fold, so every law is said once (proofs/FoldLaws.antt).
--
--   fold_below z op f n   f 0, f 1, .., f (n - 1) joined by op; z where n is 0
--   any_below p n         some number below n has p
--   all_below p n         every number below n has p
--   sum_below f n         f 0 + .. + f (n - 1), of naturals; sum_below_ℤ of integers
--   count_below p n       how many numbers below n have p
--   least_below p n       the least number below n that has p, if one has
--   gather z op key f n p   the values f c, joined, of the numbers c below n whose key is p
use Rattle.std.specs.Prelude.{Bool, true, false, cond, ◌&&◌, ◌||◌, ℕ, zero, suc, ◌+◌, min, eqb, ℤ, pos, ◌+ℤ◌}
use Rattle.std.proofs.Math.Option.{Option, none, some}

unfoldable pub fold_below : {A : Type 0} → A → (A → A → A) → (ℕ → A) → ℕ → A
fold_below z op f zero = z
fold_below z op f (suc n) = op (fold_below z op f n) (f n)

abbrev pub any_below : (ℕ → Bool) → ℕ → Bool
any_below p n = fold_below false ◌||◌ p n

abbrev pub all_below : (ℕ → Bool) → ℕ → Bool
all_below p n = fold_below true ◌&&◌ p n

abbrev pub sum_below : (ℕ → ℕ) → ℕ → ℕ
sum_below f n = fold_below 0 ◌+◌ f n

abbrev pub sum_below_ℤ : (ℕ → ℤ) → ℕ → ℤ
sum_below_ℤ f n = fold_below (pos 0) ◌+ℤ◌ f n

-- 1 for true, 0 for false
abbrev pub indicator : Bool → ℕ
indicator true = 1
indicator false = 0

abbrev pub count_below : (ℕ → Bool) → ℕ → ℕ
count_below p n = sum_below (λ k. indicator (p k)) n

-- the smaller of two numbers, where either may be missing
abbrev pub lesser : Option ℕ → Option ℕ → Option ℕ
lesser none y = y
lesser (some a) none = some a
lesser (some a) (some b) = some (min a b)

abbrev pub least_below : (ℕ → Bool) → ℕ → Option ℕ
least_below p n = fold_below none lesser (λ k. cond (p k) (some k) none) n

abbrev pub gather : {A : Type 0} → A → (A → A → A) → (ℕ → ℕ) → (ℕ → A) → ℕ → ℕ → A
gather z op key f n p = fold_below z op (λ c. cond (eqb (key c) p) (f c) z) n
