-- A permutation of the numbers below n: it keeps different numbers different, and what holds of each number that it leads to holds of all.
use mathlib.Core.Path.{◌≡◌, refl, sym, ap, ◌∙◌, subst}
use Prim.Native.Nat.{ℕ, ◌<◌}
use lib.Dec.{eqb}
use Rattle.finite.specs.Permutation.{Permutation}
use Rattle.finite.proofs.FoldLaws.{eqb_same}

-- the numbers as they are
unfoldable pub same_numbers : (n : ℕ) → Permutation n
same_numbers n = record { to = λ k. k; from = λ k. k; to_below = λ k l. l; from-below = λ k l. l; from-to = λ k l. refl; to-from = λ k l. refl }

module _ {n : ℕ} (r : Permutation n) where
  pub to-injective : (j k : ℕ) → j < n → k < n → r.to j ≡ r.to k → j ≡ k
  to-injective j k a b e = sym (r.from-to j a) ∙ ap r.from e ∙ r.from-to k b

  pub to_same : (j k : ℕ) → j < n → k < n → eqb (r.to j) (r.to k) ≡ eqb j k
  to_same j k a b = eqb_same (r.to j) (r.to k) j k (to-injective j k a b) (ap r.to)

  pub to-every : (P : ℕ → Type 0) → ((k : ℕ) → k < n → P (r.to k)) → (k : ℕ) → k < n → P k
  to-every P h k l = subst P (r.to-from k l) (h (r.from k) (r.from-below k l))
