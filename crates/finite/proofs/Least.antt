-- The least number below n that has p: where it is found, where there is none, and that one of the two holds.
use mathlib.Core.Path.{◌≡◌, refl, ap, ◌∙◌}
use mathlib.Core.Bool.{Bool, true, false}
use mathlib.Core.Logic.{◌⊎◌, inl, inr, ⊎_elim}
use mathlib.Core.Option.{Option, none, some}
use Prim.Native.Nat.{ℕ, zero, suc, ◌<◌}
use native.Mathlib.Nat.{not-suc-le-zero, min_comm}
use native.Mathlib.Omega.{arith}
use Rattle.finite.specs.Fold.{fold_below, lesser, least_below}
use Rattle.finite.proofs.FoldLaws.{Monoid, fold-unit, bool_cases, lt-suc-cases}

lesser-assoc : (x y w : Option ℕ) → lesser (lesser x y) w ≡ lesser x (lesser y w)
lesser-assoc none y w = refl
lesser-assoc (some a) none w = refl
lesser-assoc (some a) (some b) none = refl
lesser-assoc (some a) (some b) (some c) = ap some (omega arith)

lesser-comm : (x y : Option ℕ) → lesser x y ≡ lesser y x
lesser-comm none none = refl
lesser-comm none (some b) = refl
lesser-comm (some a) none = refl
lesser-comm (some a) (some b) = ap some (min_comm a b)

pub least-monoid : Monoid none lesser
least-monoid = record { idl = λ x. refl; assoc = lesser-assoc; comm = lesser-comm }

pub least-miss : (p : ℕ → Bool) (n : ℕ) → ((k : ℕ) → k < n → p k ≡ false) → least_below p n ≡ none
least-miss p n h = fold-unit least-monoid n (λ k l. rw (h k l))

pub least-hit : (p : ℕ → Bool) (n i : ℕ) → i < n → p i ≡ true → ((k : ℕ) → k < i → p k ≡ false) → least_below p n ≡ some i
unfolding fold_below
least-hit p zero i l e h = absurd (not-suc-le-zero l)
least-hit p (suc n) i l e h =
    lt-suc-cases l
    (λ q. rw (least-miss p n (λ k b. h k (omega arith)), ← q, e))
    (λ q. rw (least-hit p n i q e h) (bool_cases (p n) (λ b. rw b (ap some (omega arith))) (λ b. rw b)))

-- the least is one that has p, or there is none
pub least-cases : (p : ℕ → Bool) (n : ℕ)
    → ((k : ℕ) × (least_below p n ≡ some k) × (k < n) × (p k ≡ true)) ⊎ ((least_below p n ≡ none) × ((k : ℕ) → k < n → p k ≡ false))
unfolding fold_below
least-cases p zero = inr (refl, λ k l. absurd (not-suc-le-zero l))
least-cases p (suc n) =
    ⊎_elim
    (λ w. inl (w.0, rw w.1 (bool_cases (p n) (λ b. rw b (ap some (omega arith))) (λ b. rw b)), omega arith, w.3))
    (λ w.
    bool_cases (p n)
    (λ b. inl (n, rw (w.0, b), omega arith, b))
    (λ b. inr (rw (w.0, b), λ k l. lt-suc-cases l (λ q. ap p q ∙ b) (w.1 k))))
    (least-cases p n)
