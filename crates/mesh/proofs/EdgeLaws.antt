-- Edges and boundary half-edges: each edge has one half-edge that comes before its twin, and 4F + B = 2E (rule T8).
use mathlib.Core.Path.{◌≡◌, refl, sym, ap, ◌∙◌}
use mathlib.Core.Bool.{Bool, true, cond, ◌&&◌, and-false, or-true}
use mathlib.Core.Logic.{◌⊎◌, inl, inr, ⊎_elim}
use Prim.Native.Nat.{ℕ, ◌+◌, ◌*◌, ◌<◌, min, max}
use native.Mathlib.Omega.{arith}
use lib.Dec.{eqb, ltb}
use borrow.Author.Tests.{eq-eqb, ne_eqb, eqb-false, lt-ltb, le-ltb, ltb-true, ltb-false}
use Rattle.finite.specs.Fold.{any_below, sum_below, count_below, indicator}
use Rattle.finite.specs.Permutation.{Permutation}
use Rattle.finite.proofs.FoldLaws.{fold-ext, fold-unit, fold-op, fold-swap, fold-select, fold-reindex, bool_cases}
use Rattle.finite.proofs.AnyAll.{and-true, any-true, any_false}
use Rattle.finite.proofs.Counting.{sum-monoid, sum_ones}
use Rattle.limits.specs.Limits.{no_twin}
use Rattle.corner.specs.Corner.{next}
use Rattle.mesh.specs.HalfEdge.{runs, twin, boundary, joins, edges, boundaries, Simple}
use Rattle.mesh.proofs.CornerLaws.{next-below, not_none}
use Rattle.mesh.proofs.TwinLaws.{runs-ends, runs_so, twin-cases, twin-is, twin-twin, twin-paired}
use Rattle.mesh.specs.Tables.{Corners}
use Rattle.mesh.specs.Circulation.{Paired}

-- of a sum in which only the term at i may be other than 0, that term is left
sum-only : (f : ℕ → ℕ) (n i : ℕ) → i < n → ((k : ℕ) → k < n → (k ≡ i → ⊥) → f k ≡ 0) → sum_below f n ≡ f i
sum-only f n i l others =
    fold-ext 0 ◌+◌ n (λ k b. bool_cases (eqb i k) (λ t. rw t) (λ t. rw t (others k b (λ q. eqb-false i k t (sym q)))))
    ∙ fold-select sum-monoid f n i l

-- ---- the half-edges that join two vertices
module _ (at : ℕ → ℕ) (p q c : ℕ) where
  joins-cases : joins at p q c ≡ true → ((at c ≡ p) × (at (next c) ≡ q)) ⊎ ((at c ≡ q) × (at (next c) ≡ p))
  unfolding joins
  joins-cases e =
      bool_cases (runs at p q c) (λ t. inl (runs-ends at p q c t)) (λ t. inr (runs-ends at q p c (rw t at e)))

  joins-on : at c ≡ p → at (next c) ≡ q → joins at p q c ≡ true
  unfolding joins
  joins-on a b = rw (runs_so at p q c a b)

  joins-back : at c ≡ q → at (next c) ≡ p → joins at p q c ≡ true
  unfolding joins
  joins-back a b = rw (runs_so at q p c a b) (or-true (runs at p q c))

-- two that join the same vertices run the same way, or opposite ways
joins-both : (at : ℕ → ℕ) (p q c d : ℕ) → joins at p q c ≡ true → joins at p q d ≡ true
    → ((at c ≡ at d) × (at (next c) ≡ at (next d))) ⊎ ((at d ≡ at (next c)) × (at (next d) ≡ at c))
joins-both at p q c d e f =
    ⊎_elim
    (λ u. ⊎_elim (λ w. inl ((cc), (cc))) (λ w. inr ((cc), (cc))) (joins-cases at p q d f))
    (λ u. ⊎_elim (λ w. inr ((cc), (cc))) (λ w. inl ((cc), (cc))) (joins-cases at p q d f))
    (joins-cases at p q c e)

-- with twins tw, half-edge c comes before its twin, as one without a twin does
abbrev lead : (ℕ → ℕ) → ℕ → Bool
lead tw c = ltb c (tw c)

-- of the half-edges that join p and q, c comes first
abbrev leads : (ℕ → ℕ) → ℕ → ℕ → ℕ → ℕ → Bool
leads at n p q c = lead (twin at n) c && joins at p q c

-- a half-edge with two ends is not its own twin
pub twin-other : {n : ℕ} (at : ℕ → ℕ) → Corners n → ((c : ℕ) → c < n → at (next c) ≡ at c → ⊥) → (c : ℕ) → c < n → twin at n c ≡ c → ⊥
twin-other {n} at k ends c l e = ⊎_elim (λ w. ends c l (sym w.1 ∙ ap at e)) (λ w. not_none k c l (sym e ∙ w.0)) (twin-cases at n c)

module _ {n : ℕ} (at : ℕ → ℕ) (k : Corners n) (simple : Simple at n) (ends : (c : ℕ) → c < n → at (next c) ≡ at c → ⊥) (p q : ℕ) where
  -- no two of the half-edges that join p and q come first
  leads_one : (c d : ℕ) → c < n → d < n → leads at n p q c ≡ true → leads at n p q d ≡ true → c ≡ d
  leads_one c d lc ld e f =
      let x = and-true (lead (twin at n) c) (joins at p q c) e in
      let y = and-true (lead (twin at n) d) (joins at p q d) f in
      let before = ltb-true c (twin at n c) x.0 in
      let after = ltb-true d (twin at n d) y.0 in
      ⊎_elim
      (λ w. simple c d lc ld w.0 w.1)
      (λ w. absurd (omega (arith, twin-is at simple c d ld w.0 w.1, twin-is at simple d c lc (sym w.1) (sym w.0))))
      (joins-both at p q c d x.1 y.1)

  -- a half-edge that joins p and q, or its twin, comes first
  leads-some : (c : ℕ) → c < n → joins at p q c ≡ true → (d : ℕ) × (d < n) × (leads at n p q d ≡ true)
  leads-some c l e =
      bool_cases (lead (twin at n) c)
      (λ t. (c, l, rw (t, e)))
      (λ t.
      let d = twin at n c in
      let before = ltb-false c d t in
      ⊎_elim
      (λ w.
      let first : lead (twin at n) d ≡ true = lt-ltb d (twin at n d) (omega (arith, twin-twin at k simple c l w.0, twin-other at k ends c l)) in
      let back = ⊎_elim (λ u. joins-back at p q d (cc) (cc)) (λ u. joins-on at p q d (cc) (cc)) (joins-cases at p q c e) in
      (d, w.0, rw (first, back)))
      (λ w. absurd (omega arith))
      (twin-cases at n c))

  -- so one comes first where p and q are joined, and none where they are not
  edge_leads : indicator (any_below (joins at p q) n) ≡ count_below (leads at n p q) n
  edge_leads =
      bool_cases (any_below (joins at p q) n)
      (λ t.
      let x = any-true (joins at p q) n t in
      let d = leads-some x.0 x.1 x.2 in
      let miss : (c : ℕ) → c < n → (c ≡ d.0 → ⊥) → indicator (leads at n p q c) ≡ 0 = λ c l r.
      bool_cases (leads at n p q c) (λ u. absurd (r (leads_one c d.0 l d.1 u d.2))) (ap indicator) in
      ap indicator t ∙ sym (sum-only (λ c. indicator (leads at n p q c)) n d.0 d.1 miss ∙ ap indicator d.2))
      (λ t. ap indicator t ∙ sym (fold-unit sum-monoid n (λ c l. rw (any_false (joins at p q) n t c l, and-false))))

-- the smaller and the larger vertex of half-edge c
abbrev low : (ℕ → ℕ) → ℕ → ℕ
low at c = min (at c) (at (next c))

abbrev high : (ℕ → ℕ) → ℕ → ℕ
high at c = max (at c) (at (next c))

module _ (at : ℕ → ℕ) (c : ℕ) where
  joins-own : joins at (low at c) (high at c) c ≡ true
  joins-own =
      bool_cases (ltb (at c) (at (next c)))
      (λ t. let l = ltb-true (at c) (at (next c)) t in joins-on at (low at c) (high at c) c (omega arith) (omega arith))
      (λ t. let l = ltb-false (at c) (at (next c)) t in joins-back at (low at c) (high at c) c (omega arith) (omega arith))

  joins-other : (p q : ℕ) → p < q → ((p ≡ low at c) × (q ≡ high at c) → ⊥) → indicator (joins at p q c) ≡ 0
  joins-other p q l other =
      bool_cases (joins at p q c)
      (λ e. absurd (other (⊎_elim (λ w. omega arith) (λ w. omega arith) (joins-cases at p q c e))))
      (ap indicator)

  -- a half-edge with two ends below v joins one pair of vertices
  joins-once : (v : ℕ) → at c < v → at (next c) < v → (at (next c) ≡ at c → ⊥) → sum_below (λ q. count_below (λ p. joins at p q c) q) v ≡ 1
  joins-once v a b two =
      sum-only (λ q. count_below (λ p. joins at p q c) q) v (high at c) (omega arith)
      (λ q l r. fold-unit sum-monoid q (λ p b. joins-other p q b (λ w. r w.1)))
      ∙ sum-only (λ p. indicator (joins at p (high at c) c)) (high at c) (low at c) (omega arith)
      (λ p l r. joins-other p (high at c) l (λ w. r w.0))
      ∙ ap indicator joins-own

-- ---- half-edges and boundary half-edges
either-before : (c d : ℕ) → (d ≡ c → ⊥) → 1 ≡ indicator (ltb c d) + indicator (ltb d c)
either-before c d other =
    bool_cases (ltb c d)
    (λ t. let l = ltb-true c d t in rw (t, le-ltb d c (omega arith)))
    (λ t. let l = ltb-false c d t in rw (t, lt-ltb d c (omega arith)))

-- the twin of a half-edge; a boundary half-edge itself
abbrev flip : (ℕ → ℕ) → ℕ → ℕ
flip tw c = cond (eqb (tw c) no_twin) c (tw c)

module _ {n : ℕ} {tw : ℕ → ℕ} (k : Corners n) (p : Paired tw n) where
  flip-cases : (c : ℕ) → c < n → (flip tw c ≡ c) ⊎ ((tw c < n) × (tw (tw c) ≡ c) × (flip tw c ≡ tw c))
  flip-cases c l =
      ⊎_elim
      (λ e. inl (rw (eq-eqb (tw c) no_twin e)))
      (λ w. inr (w.0, w.1, rw (ne_eqb (tw c) no_twin (not_none k (tw c) w.0))))
      (p.pairs c l)

  flip-below : (c : ℕ) → c < n → flip tw c < n
  flip-below c l = ⊎_elim (λ e. rw e l) (λ w. rw w.2 w.0) (flip-cases c l)

  flip-flip : (c : ℕ) → c < n → flip tw (flip tw c) ≡ c
  flip-flip c l =
      ⊎_elim
      (λ e. ap (flip tw) e ∙ e)
      (λ w. ap (flip tw) w.2 ∙ rw (w.1, ne_eqb c no_twin (not_none k c l)))
      (flip-cases c l)

  abbrev flipped : Permutation n
  flipped = record {
    to = flip tw;
    from = flip tw;
    to_below = flip-below;
    from-below = flip-below;
    from-to = flip-flip;
    to-from = flip-flip;
  }

  -- a boundary half-edge comes before its twin, and of two twins one does
  lead-flip : ((c : ℕ) → c < n → tw c ≡ c → ⊥) → (c : ℕ) → c < n
      → 1 + indicator (eqb (tw c) no_twin) ≡ indicator (lead tw c) + indicator (lead tw (flip tw c))
  lead-flip other c l =
      ⊎_elim
      (λ e. rw (eq-eqb (tw c) no_twin e, lt-ltb c (tw c) (omega arith)))
      (λ w. rw (ne_eqb (tw c) no_twin (not_none k (tw c) w.0), w.1) (either-before c (tw c) (other c l)))
      (p.pairs c l)

  -- half-edges and boundary half-edges together are twice those that come before their twins
  pub paired-twice : ((c : ℕ) → c < n → tw c ≡ c → ⊥)
      → n + count_below (λ c. eqb (tw c) no_twin) n ≡ 2 * count_below (λ c. ltb c (tw c)) n
  paired-twice other =
      omega (
        arith,
        sum_ones n,
        fold-op sum-monoid (λ c. 1) (λ c. indicator (eqb (tw c) no_twin)) n,
        fold-ext 0 ◌+◌ n (lead-flip other),
        fold-op sum-monoid (λ c. indicator (lead tw c)) (λ c. indicator (lead tw (flip tw c))) n,
        fold-reindex sum-monoid flipped (λ c. indicator (lead tw c)),
      )

pub boundaries-are : (at : ℕ → ℕ) (n : ℕ) → boundaries at n ≡ count_below (λ c. eqb (twin at n c) no_twin) n
unfolding boundaries boundary
boundaries-are at n = refl

-- ---- edges
module _ {n v : ℕ} (at : ℕ → ℕ) (k : Corners n) (simple : Simple at n) (named : (c : ℕ) → c < n → at c < v)
    (ends : (c : ℕ) → c < n → at (next c) ≡ at c → ⊥) where
  -- E is the number of half-edges that come before their twins
  pub edges-lead : edges at n v ≡ count_below (λ c. ltb c (twin at n c)) n
  unfolding edges
  edges-lead =
      fold-ext 0 ◌+◌ v (λ q _.
      fold-ext 0 ◌+◌ q (λ p _. edge_leads at k simple ends p q)
      ∙ fold-swap sum-monoid (λ p c. indicator (leads at n p q c)) q n)
      ∙ fold-swap sum-monoid (λ q c. count_below (λ p. leads at n p q c) q) v n
      ∙ fold-ext 0 ◌+◌ n (λ c l.
      bool_cases (lead (twin at n) c)
      (λ t. rw t (joins-once at c v (named c l) (named (next c) (next-below k c l)) (ends c l)))
      (λ t. rw t (fold-unit sum-monoid v (λ q _. fold-unit sum-monoid q (λ p _. refl)))))

  -- 4F + B = 2E
  pub edges-twice : n + boundaries at n ≡ 2 * edges at n v
  edges-twice = rw (boundaries-are, edges-lead) (paired-twice k (twin-paired at k simple) (twin-other at k ends))
