-- The rule of the cosines over the whole table: one test that is computed, and the law that turns it into the rule at each entry.
use mathlib.Core.Path.{◌≡◌, refl, subst}
use mathlib.Core.Bool.{Bool, true, not, ◌&&◌}
use Prim.Native.Nat.{ℕ, zero, suc, ◌+◌, ◌-◌, ◌^◌, ◌≤◌, ◌<◌}
use native.Mathlib.Decide.{dec_lt}
use native.Mathlib.Omega.{arith}
use lib.Dec.{ltb, leb}
use lib.IntN.{ℤ, pos, nat_abs, ◌+ℤ◌, ◌-ℤ◌, ◌*ℤ◌}
use borrow.Author.Tests.{ltb-true, leb-true, not-true}
use Rattle.finite.specs.Fold.{fold_below, all_below}
use Rattle.finite.proofs.AnyAll.{and-true, all_true}
use Rattle.finite.proofs.FilledLaws.{get_d_past}
use Rattle.cosine.specs.Cosine.{cosines, cosine, term, above, IsCosine, Entry}

-- the rule of entry e for m as a test
unfoldable is_cosine : ℕ → ℤ → Bool
is_cosine m e =
    ltb (nat_abs (pos 2 *ℤ e +ℤ pos 1)) (2 ^ 21) && (above (pos 2 *ℤ e +ℤ pos 1) m
    && (ltb (nat_abs (pos 2 *ℤ e -ℤ pos 1)) (2 ^ 21) && not (above (pos 2 *ℤ e -ℤ pos 1) m)))

all-cosines : all_below (λ i. is_cosine (3 + i) (cosine (3 + i))) 30 ≡ true
unfolding is_cosine cosine cosines term above fold_below
all-cosines = refl

rule-by : (m : ℕ) (e : ℤ) → is_cosine m e ≡ true → IsCosine m e
unfolding is_cosine
rule-by m e h =
    let a = and-true _ _ h in
    let b = and-true _ _ a.1 in
    let d = and-true _ _ b.1 in
    record { high-inside = ltb-true _ _ a.0; high-above = b.0; low-inside = ltb-true _ _ d.0; low-not-above = not-true _ d.1 }

pub cosine-rule : (m : ℕ) → 3 ≤ m → m ≤ 32 → IsCosine m (cosine m)
cosine-rule m l h =
    let e : 3 + (m - 3) ≡ m = omega arith in
    subst (λ (k : ℕ). IsCosine k (cosine k)) e
    (rule-by (3 + (m - 3)) (cosine (3 + (m - 3))) (all_true _ 30 all-cosines (m - 3) (omega arith)))

-- ---- off the range
cosine-before : (m : ℕ) → m ≤ 2 → cosine m ≡ pos 0
unfolding cosine cosines
cosine-before zero l = refl
cosine-before (suc zero) l = refl
cosine-before (suc (suc zero)) l = refl
cosine-before (suc (suc (suc m))) l = absurd (omega arith)

pub cosine-past : (m : ℕ) → 33 ≤ m → cosine m ≡ pos 0
unfolding cosine cosines
cosine-past m l = get_d_past cosines m (pos 0) l

cosine-off : (m : ℕ) → (3 ≤ m → m ≤ 32 → ⊥) → cosine m ≡ pos 0
cosine-off m h = by (dec_lt m 3) (dec_lt 32 m)
  where
    by : Dec (m < 3) → Dec (32 < m) → cosine m ≡ pos 0
    by (yes a) b = cosine-before m (omega arith)
    by (no a) (yes b) = cosine-past m (omega arith)
    by (no a) (no b) = absurd (h (omega arith) (omega arith))

pub cosine-entry : (m : ℕ) → Entry m (cosine m)
cosine-entry m = record { rule = cosine-rule m; off = cosine-off m }

-- ---- the size of a cosine
cosines-small : all_below (λ m. leb (nat_abs (cosine m)) (2 ^ 20)) 33 ≡ true
unfolding fold_below cosines cosine
cosines-small = refl

pub cosine-size : (m : ℕ) → m ≤ 32 → nat_abs (cosine m) ≤ 2 ^ 20
cosine-size m h = leb-true (nat_abs (cosine m)) (2 ^ 20) (all_true (λ m. leb (nat_abs (cosine m)) (2 ^ 20)) 33 cosines-small m (omega arith))
