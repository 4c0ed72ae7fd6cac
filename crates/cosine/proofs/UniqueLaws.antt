-- The rule names one number: what is above the cosine stays above when it grows, so no two entries meet the rule for one m.
use mathlib.Core.Path.{◌≡◌, refl, sym, ◌∙◌, subst}
use mathlib.Core.Bool.{true, true≢false}
use mathlib.Core.List.{[], ◌∷◌}
use Prim.Native.Nat.{ℕ, zero, suc, ◌+◌, ◌-◌, ◌*◌, ◌/◌, ◌%◌, ◌^◌, ◌≤◌, ◌<◌}
use native.Mathlib.Nat.{mul-pos, zero-lt-suc, lt_of_not-le}
use native.Mathlib.Decide.{dec_le}
use native.Mathlib.Omega.{arith}
use lib.Dec.{T, lt→ltb}
use lib.IntN.{ℤ, pos, negsuc, ◌+ℤ◌, ◌-ℤ◌, ◌*ℤ◌}
use lib.Signed.{◌≤ℤ◌, ◌<ℤ◌, lt_z}
use borrow.Author.Tests.{lt-ltb}
use Rattle.integer.proofs.Difference.{int, nat, ◌⊕◌, ◌⊝◌, ◌⊛◌, prove_le, read-le, lt-is, lt_by, eq-by, pos_part, neg_part}
use Rattle.integer.proofs.Laws.{order, ≤ℤ-+ℤ, *ℤ-nonneg}
use Rattle.integer.proofs.Ring.{var, ◌:+◌, ◌:-◌, ◌:*◌, ring}
use Rattle.finite.proofs.AnyAll.{all-hit, all_true}
use Rattle.cosine.specs.Cosine.{cosine, term, above, IsCosine, Entry}
use Rattle.cosine.proofs.CosineLaws.{cosine-entry}

-- ---- numbers above 0, and their products
positive-by : (z : ℤ) → lt_z (pos 0) z ≡ true → pos 0 <ℤ z
positive-by z e = record { lt = subst T (sym e) tt }

positive-is : (z : ℤ) → pos 0 <ℤ z → lt_z (pos 0) z ≡ true
positive-is (pos a) h = lt-ltb 0 a (omega (arith, order))
positive-is (negsuc a) h = absurd h.lt

positive-product : (y z : ℤ) → pos 0 <ℤ y → pos 0 <ℤ z → pos 0 <ℤ (y *ℤ z)
positive-product (pos zero) z h g = absurd h.lt
positive-product (pos (suc a)) (pos zero) h g = absurd g.lt
positive-product (pos (suc a)) (pos (suc b)) h g = record { lt = lt→ltb 0 (suc a * suc b) (mul-pos (zero-lt-suc a) (zero-lt-suc b)) }
positive-product (pos (suc a)) (negsuc b) h g = absurd g.lt
positive-product (negsuc a) z h g = absurd h.lt

-- a factor, where the product and the other factor are above 0
positive-factor : (y z : ℤ) → pos 0 <ℤ y → pos 0 <ℤ (z *ℤ y) → pos 0 <ℤ z
positive-factor (pos a) (pos zero) h g = absurd (omega (arith, lt-is (pos 0) (pos 0 *ℤ pos a) g))
positive-factor (pos a) (pos (suc b)) h g = record { lt = lt→ltb 0 (suc b) (zero-lt-suc b) }
positive-factor (pos zero) (negsuc b) h g = absurd h.lt
positive-factor (pos (suc a)) (negsuc b) h g =
    let e : (negsuc b *ℤ pos (suc a)) ≤ℤ pos 0 = prove_le (int (negsuc b) ⊛ nat (suc a)) (nat 0) (omega arith) in
    absurd (omega (arith, order))
positive-factor (negsuc a) z h g = absurd h.lt

-- ---- the terms at t and at a t' that is no smaller
-- a and b are two terms in a row at t, a' and b' those at t': b' / a' is no smaller than b / a
record Ahead (a b a' b' : ℤ) : Type 0 where
  first : pos 0 <ℤ a'
  next : pos 0 <ℤ b'
  grows : pos 0 ≤ℤ (b' *ℤ a -ℤ b *ℤ a')

-- then it is so of the next two; q is the number that the term before the last is multiplied by
module _ (k k' a b a' b' q : ℤ) (h : k ≤ℤ k') (r : pos 0 ≤ℤ q) (p : pos 0 <ℤ b) (w : Ahead a b a' b') where
  abbrev d : ℤ
  d = k *ℤ b -ℤ q *ℤ a

  abbrev d' : ℤ
  d' = k' *ℤ b' -ℤ q *ℤ a'

  next_grows : pos 0 ≤ℤ (d' *ℤ b -ℤ d *ℤ b')
  next_grows =
      let e : d' *ℤ b -ℤ d *ℤ b' ≡ (k' -ℤ k) *ℤ (b *ℤ b') +ℤ q *ℤ (b' *ℤ a -ℤ b *ℤ a') =
      ring (k ∷ (k' ∷ (a ∷ (b ∷ (a' ∷ (b' ∷ (q ∷ [])))))))
      ((var 1 :* var 5 :- var 6 :* var 4) :* var 3 :- (var 0 :* var 3 :- var 6 :* var 2) :* var 5)
      ((var 1 :- var 0) :* (var 3 :* var 5) :+ var 6 :* (var 5 :* var 2 :- var 3 :* var 4)) refl in
      let u : pos 0 ≤ℤ (k' -ℤ k) = prove_le (nat 0) (int k' ⊝ int k) (omega (arith, order)) in
      let n : pos 0 ≤ℤ (b *ℤ b') = prove_le (nat 0) (int (b *ℤ b')) (omega (arith, order, positive-product b b' p w.next)) in
      subst (λ (z : ℤ). pos 0 ≤ℤ z) (sym e)
      (≤ℤ-+ℤ (pos 0) ((k' -ℤ k) *ℤ (b *ℤ b')) (pos 0) (q *ℤ (b' *ℤ a -ℤ b *ℤ a'))
      (*ℤ-nonneg (k' -ℤ k) (b *ℤ b') u n) (*ℤ-nonneg q _ r w.grows))

  ahead-next : pos 0 <ℤ d → Ahead b d b' d'
  ahead-next g =
      let v : pos 0 <ℤ (d' *ℤ b) =
      omega (arith, order, read-le (nat 0) (int (d' *ℤ b) ⊝ int (d *ℤ b')) next_grows, positive-product d b' g w.next) in
      record { first = w.next; next = positive-factor b d' p v; grows = next_grows }

shift-positive : (k k' : ℤ) (o : ℕ) → k ≤ℤ k' → pos 0 <ℤ (k +ℤ pos o) → pos 0 <ℤ (k' +ℤ pos o)
shift-positive k k' o h p =
    let e : (k +ℤ pos o) ≤ℤ (k' +ℤ pos o) = prove_le (int k ⊕ nat o) (int k' ⊕ nat o) (omega (arith, order)) in
    omega (arith, order)

module _ (k k' : ℤ) (m : ℕ) (h : k ≤ℤ k') (L : ℕ) (all : (j : ℕ) → j ≤ L → lt_z (pos 0) (term k m j) ≡ true) where
  abbrev o : ℕ
  o = m % 2 * 2 ^ 20

  ahead-all : (j : ℕ) → j < L → Ahead (term k m j) (term k m (suc j)) (term k' m j) (term k' m (suc j))
  unfolding term
  ahead-all zero l =
      record {
        first = record { lt = tt };
        next = shift-positive k k' o h (positive-by (k +ℤ pos o) (all 1 l));
        grows = prove_le (nat 0) ((int k' ⊕ nat o) ⊛ nat 1 ⊝ (int k ⊕ nat o) ⊛ nat 1) (omega (arith, order));
      }
  ahead-all (suc j) l =
      ahead-next k k' (term k m j) (term k m (suc j)) (term k' m j) (term k' m (suc j)) (pos (2 ^ 40)) h (record { le = tt })
      (positive-by (term k m (suc j)) (all (suc j) (omega arith))) (ahead-all j (omega arith))
      (positive-by (term k m (suc (suc j))) (all (suc (suc j)) l))

  positive-all : (j : ℕ) → j ≤ L → lt_z (pos 0) (term k' m j) ≡ true
  unfolding term
  positive-all zero l = refl
  positive-all (suc j) l = positive-is (term k' m (suc j)) (ahead-all j l).next

pub above-grows : (k k' : ℤ) (m : ℕ) → k ≤ℤ k' → above k m ≡ true → above k' m ≡ true
unfolding above
above-grows k k' m h e =
    let L = (m - 1) / 2 in
    all-hit (λ j. lt_z (pos 0) (term k' m j)) (suc L) (λ j l.
    positive-all k k' m h L (λ i b. all_true (λ j. lt_z (pos 0) (term k m j)) (suc L) e i (omega arith)) j (omega arith))

-- ---- one number
not-below : (m : ℕ) (e f : ℤ) → IsCosine m e → IsCosine m f → e <ℤ f → ⊥
not-below m e f w v h =
    true≢false (sym (above-grows (pos 2 *ℤ e +ℤ pos 1) (pos 2 *ℤ f -ℤ pos 1) m
    (prove_le (nat 2 ⊛ int e ⊕ nat 1) (nat 2 ⊛ int f ⊝ nat 1) (omega (arith, order))) w.high-above) ∙ v.low-not-above)

pub cosine-unique : (m : ℕ) (e f : ℤ) → IsCosine m e → IsCosine m f → e ≡ f
cosine-unique m e f w v =
    eq-by e f
    (by (dec_le (pos_part e + neg_part f) (pos_part f + neg_part e)) (dec_le (pos_part f + neg_part e) (pos_part e + neg_part f)))
  where
    by : Dec (pos_part e + neg_part f ≤ pos_part f + neg_part e) → Dec (pos_part f + neg_part e ≤ pos_part e + neg_part f)
        → pos_part e + neg_part f ≡ pos_part f + neg_part e
    by (yes a) (yes b) = omega arith
    by (no a) b = absurd (not-below m f e v w (lt_by f e (lt_of_not-le a)))
    by (yes a) (no b) = absurd (not-below m e f w v (lt_by e f (lt_of_not-le b)))

-- what the call returns is the table's entry
pub entry-is : (m : ℕ) (r : ℤ) → Entry m r → r ≡ cosine m
entry-is m r w = by (cosine-entry m) (dec_le 3 m) (dec_le m 32)
  where
    by : Entry m (cosine m) → Dec (3 ≤ m) → Dec (m ≤ 32) → r ≡ cosine m
    by v (yes a) (yes b) = cosine-unique m r (cosine m) (w.rule a b) (v.rule a b)
    by v (no a) b = w.off (λ c d. a c) ∙ sym (v.off (λ c d. a c))
    by v (yes a) (no b) = w.off (λ c d. b d) ∙ sym (v.off (λ c d. b d))
