-- Corners chained by vertex: the latest number with a property, what a walk along a chain has seen, and the two tables.
use mathlib.Core.Path.{◌≡◌, refl, sym, ap, ap₂, ◌∙◌}
use mathlib.Core.Bool.{Bool, true, false, not, ◌&&◌}
use mathlib.Core.List.{List}
use mathlib.Core.Logic.{⊎_elim}
use mathlib.Core.Option as Math
use Prim.Native.Nat.{ℕ, zero, suc, ◌+◌, ◌≤◌, ◌<◌, zero-le}
use native.Mathlib.Nat.{not-suc-le-zero, le_refl, eq-or-lt_of_le}
use native.Mathlib.Numerals.{add-one}
use native.Mathlib.Omega.{arith}
use lib.Dec.{eqb, ltb}
use lib.ListN.{length, get_or, set}
use lib.Seq.{get_or-set_same, get_or-set_other}
use borrow.Author.Tests.{eq-eqb, ne_eqb, eqb-true, eqb-false, ltb-true, ltb-false, not-true}
use Rattle.std.specs.Prelude.{Option, None, Some}
use Rattle.std.specs.Option.{is_some, unwrap_or}
use Rattle.finite.specs.Fold.{any_below}
use Rattle.finite.proofs.FoldLaws.{bool_cases, lt-suc-cases}
use Rattle.finite.proofs.AnyAll.{any_none, any-hit, any-true, and-true, same_test}
use Rattle.finite.proofs.Least.{least-miss}
use Rattle.limits.specs.Limits.{max_vertices, no_twin}
use Rattle.corner.specs.Corner.{next}
use Rattle.mesh.specs.HalfEdge.{runs, is_twin, twin, boundary, same_way, doubled, Simple}
use Rattle.mesh.specs.Fan.{any_at, all_at, valence, on_boundary, around, iterate, fan_by, fan}
use Rattle.mesh.proofs.TwinLaws.{runs-ends, runs_so, twin-is}
use Rattle.mesh.proofs.VertexLaws.{any-at-none}
use Rattle.mesh.specs.Tables.{corner_in, HoldsCorners, latest, Chained}

-- ---- the latest number below n with p
-- where the numbers after it begin: 0 for none
abbrev pub past : Option ℕ → ℕ
past None = 0
past (Some k) = suc k

pub latest-le : (p : ℕ → Bool) (n : ℕ) → past (latest p n) ≤ n
unfolding latest
latest-le p zero = zero-le
latest-le p (suc n) = bool_cases (p n) (λ e. rw e (le_refl (suc n))) (λ e. rw e (let h = latest-le p n in omega arith))

-- past the latest none has it
pub latest-past : (p : ℕ → Bool) (n k : ℕ) → past (latest p n) ≤ k → k < n → p k ≡ false
unfolding latest
latest-past p zero k h l = absurd (not-suc-le-zero l)
latest-past p (suc n) k h l =
    bool_cases (p n)
    (λ e. absurd (let g : suc n ≤ k = rw e at h in let bad : ⊥ = omega arith in bad))
    (λ e. lt-suc-cases l (λ q. ap p q ∙ e) (latest-past p n k (rw e at h)))

-- the latest has it, and is below n
pub latest-has : (p : ℕ → Bool) (n k : ℕ) → latest p n ≡ Some k → (k < n) × (p k ≡ true)
unfolding latest
latest-has p zero k e = cc
latest-has p (suc n) k e =
    bool_cases (p n)
    (λ q. let g = rw q at e in let s : n ≡ k = cc in (omega arith, ap p (sym s) ∙ q))
    (λ q. let h = latest-has p n k (rw q at e) in (omega arith, h.1))

-- a number that has it, with none after it, is the latest; and without any there is none
pub latest-is : (p : ℕ → Bool) (n k : ℕ) → k < n → p k ≡ true → ((j : ℕ) → k < j → j < n → p j ≡ false) → latest p n ≡ Some k
unfolding latest
latest-is p zero k l e h = absurd (not-suc-le-zero l)
latest-is p (suc n) k l e h =
    lt-suc-cases l
    (λ q. rw (ap p (sym q) ∙ e) (ap Some (sym q)))
    (λ q. rw (h n q (le_refl (suc n))) (latest-is p n k q e (λ j a b. h j a (let c : j < suc n = omega arith in c))))

pub latest-none : (p : ℕ → Bool) (n : ℕ) → ((j : ℕ) → j < n → p j ≡ false) → latest p n ≡ None
unfolding latest
latest-none p zero h = refl
latest-none p (suc n) h = rw (h n (le_refl (suc n))) (latest-none p n (λ j l. h j (let c : j < suc n = omega arith in c)))

pub latest-nowhere : (p : ℕ → Bool) (n : ℕ) → latest p n ≡ None → (k : ℕ) → k < n → p k ≡ false
latest-nowhere p n e k l = latest-past p n k (rw e zero-le) l

pub latest-any : (p : ℕ → Bool) (n : ℕ) → is_some (latest p n) ≡ any_below p n
latest-any p n = go (latest p n) refl
  where
    go : (u : Option ℕ) → latest p n ≡ u → is_some (latest p n) ≡ any_below p n
    go None e = ap is_some e ∙ sym (any_none p n (latest-nowhere p n e))
    go (Some k) e = let h = latest-has p n k e in ap is_some e ∙ sym (any-hit p n k h.0 h.1)

-- ---- a walk along the chain of p's corners below c, at corner u of it: what it has passed does not run from p to q
pub record Walked (at : ℕ → ℕ) (p q c : ℕ) (u : Option ℕ) : Type 0 where
  pub low : past u ≤ c
  pub here : (k : ℕ) → u ≡ Some k → at k ≡ p
  pub passed : (k : ℕ) → past u ≤ k → k < c → runs at p q k ≡ false

module _ (at : ℕ → ℕ) (p q c : ℕ) (u : Option ℕ) where
  pub walked_start : u ≡ latest (λ d. eqb (at d) p) c → Walked at p q c u
  walked_start e = record {
    low = rw e (latest-le (λ d. eqb (at d) p) c);
    here = λ k s. eqb-true (at k) p (latest-has (λ d. eqb (at d) p) c k (sym e ∙ s)).1;
    passed = λ k a b. ap (λ (t : Bool). t && eqb (at (next k)) q) (latest-past (λ d. eqb (at d) p) c k (rw e at a) b);
  }

  pub walked-below : Walked at p q c u → (e : ℕ) → u ≡ Some e → e < c
  walked-below w e s = let l = w.low in let h : past u ≡ suc e = ap past s in omega arith

  pub walked-found : Walked at p q c u → (e : ℕ) → u ≡ Some e → at (next e) ≡ q → u ≡ latest (runs at p q) c
  walked-found w e s t =
      s ∙ sym (latest-is (runs at p q) c e (walked-below w e s) (runs_so at p q e (w.here e s) t) (λ j a b. w.passed j (rw s a) b))

  pub walked_none : Walked at p q c u → u ≡ None → None ≡ latest (runs at p q) c
  walked_none w z = sym (latest-none (runs at p q) c (λ k l. w.passed k (rw z zero-le) l))

-- one corner further back along the chain
pub walked_more : (at : ℕ → ℕ) (p q c : ℕ) (u : Option ℕ) (e : ℕ) (u' : Option ℕ) → Walked at p q c u → u ≡ Some e → (at (next e) ≡ q → ⊥)
    → u' ≡ latest (λ d. eqb (at d) (at e)) e → Walked at p q c u'
walked_more at p q c u e u' w s t h =
    let r : Walked at p q e u' = walked_start at p q e u' (h ∙ ap (λ (x : ℕ). latest (λ d. eqb (at d) x) e) (w.here e s)) in
    let below = walked-below at p q c u w e s in
    record {
      low = omega (arith, r.low);
      here = r.here;
      passed = λ k a b.
          bool_cases (ltb k e)
          (λ l. r.passed k a (ltb-true k e l))
          (λ l. ⊎_elim
          (λ z. ap (runs at p q) (sym z) ∙ ap₂ ◌&&◌ (eq-eqb (at e) p (w.here e s)) (ne_eqb (at (next e)) q t))
          (λ z. w.passed k (rw s z) b)
          (eq-or-lt_of_le (ltb-false k e l)));
    }

-- it falls with each turn
pub walked-less : (at : ℕ → ℕ) (u : Option ℕ) (e : ℕ) (u' : Option ℕ) → u ≡ Some e → u' ≡ latest (λ d. eqb (at d) (at e)) e → past u' < past u
walked-less at u e u' s h =
    let l = latest-le (λ d. eqb (at d) (at e)) e in
    let a : past u ≡ suc e = ap past s in
    let b : past u' ≡ past (latest (λ d. eqb (at d) (at e)) e) = ap past h in
    omega arith

-- ---- the tables
pub chained-start : (at : ℕ → ℕ) (head link : List ℕ) → HoldsCorners head max_vertices (λ p. None) → Chained at 0 head link
unfolding latest
chained-start at head link h = record { heads = h; links = λ e l. absurd (not-suc-le-zero l) }

module _ (at : ℕ → ℕ) (c p : ℕ) (head link : List ℕ) (k : Chained at c head link) (e : p ≡ at c) where
  heads-more : p < length head → HoldsCorners (set head p (suc c)) max_vertices (λ r. latest (λ d. eqb (at d) r) (suc c))
  unfolding latest
  heads-more l r b =
      bool_cases (eqb (at c) r)
      (λ t. rw (t, ← (e ∙ eqb-true (at c) r t)) (ap corner_in (get_or-set_same head p (suc c) 0 l)))
      (λ t. rw t (ap corner_in (get_or-set_other head p r (suc c) 0 (λ s. eqb-false (at c) r t (sym e ∙ sym s))) ∙ k.heads r b))

  links-more : (u : ℕ) → u ≡ get_or head p 0 → p < max_vertices → c < length link
      → HoldsCorners (set link c u) (suc c) (λ j. latest (λ d. eqb (at d) (at j)) j)
  links-more u q b l j a =
      lt-suc-cases a
      (λ z. rw z (ap corner_in (get_or-set_same link c u 0 l ∙ q) ∙ k.heads p b ∙ ap (λ (x : ℕ). latest (λ d. eqb (at d) x) c) e))
      (λ z. ap corner_in (get_or-set_other link c j u 0 (λ s. omega arith)) ∙ k.links j z)

  -- corner c, at p, is chained before the earlier ones
  pub chained_more : (u : ℕ) → u ≡ get_or head p 0 → p < max_vertices → p < length head → c < length link
      → Chained at (c + 1) (set head p (c + 1)) (set link c u)
  chained_more u q b lh ll = rw add-one (record { heads = heads-more lh; links = links-more u q b ll })

-- ---- half-edges that occur twice: one of them has an earlier one that runs the same way
pub doubled-earlier : (at : ℕ → ℕ) (n : ℕ) → doubled at n ≡ any_below (λ c. any_below (runs at (at c) (at (next c))) c) n
unfolding doubled same_way
doubled-earlier at n = same_test (doubled at n) (any_below (λ c. any_below (same c) c) n) to from
  where
    same : ℕ → ℕ → Bool
    same c d = runs at (at c) (at (next c)) d

    turned : (c d : ℕ) → same c d ≡ true → same d c ≡ true
    turned c d h =
        let w = runs-ends at (at c) (at (next c)) d h in
        runs_so at (at d) (at (next d)) c (sym w.0) (sym w.1)

    hit : (c d : ℕ) → c < n → d < c → same c d ≡ true → any_below (λ c. any_below (same c) c) n ≡ true
    hit c d l k h = any-hit (λ c. any_below (same c) c) n c l (any-hit (same c) c d k h)

    to : doubled at n ≡ true → any_below (λ c. any_below (same c) c) n ≡ true
    to h =
        let w = any-true (λ c. any_below (λ d. not (eqb d c) && same c d) n) n h in
        let c = w.0 in
        let x = any-true (λ d. not (eqb d c) && same c d) n w.2 in
        let d = x.0 in
        let b = and-true (not (eqb d c)) (same c d) x.2 in
        bool_cases (ltb d c)
        (λ t. hit c d w.1 (ltb-true d c t) b.1)
        (λ t. ⊎_elim
        (λ z. absurd (eqb-false d c (not-true (eqb d c) b.0) (sym z)))
        (λ z. hit d c x.1 z (turned c d b.1))
        (eq-or-lt_of_le (ltb-false d c t)))

    from : any_below (λ c. any_below (same c) c) n ≡ true → doubled at n ≡ true
    from h =
        let w = any-true (λ c. any_below (same c) c) n h in
        let x = any-true (same w.0) w.0 w.2 in
        let l = w.1 in
        let k = x.1 in
        any-hit (λ c. any_below (λ d. not (eqb d c) && same c d) n) n w.0 l
        (any-hit (λ d. not (eqb d w.0) && same w.0 d) n x.0 (omega arith)
        (ap₂ ◌&&◌ (ap not (ne_eqb x.0 w.0 (λ e. omega arith))) x.2))

-- ---- the twin from the latest half-edge that runs the other way
pub twin-latest : (at : ℕ → ℕ) (n c : ℕ) (u : Option ℕ) → Simple at n → u ≡ latest (runs at (at (next c)) (at c)) n → unwrap_or u no_twin ≡ twin at n c
unfolding twin is_twin
twin-latest at n c None h e =
    sym (ap (λ (o : Math.Option ℕ). Math.get_or o no_twin) (least-miss (is_twin at c) n (latest-nowhere (is_twin at c) n (sym e))))
twin-latest at n c (Some d) h e =
    let l = latest-has (runs at (at (next c)) (at c)) n d (sym e) in
    let b = runs-ends at (at (next c)) (at c) d l.1 in
    sym (twin-is at h c d l.0 b.0 b.1)

-- ---- the last corner at a vertex, where one is there
pub latest-corner : (at : ℕ → ℕ) (n p c : ℕ) → Some c ≡ latest (λ d. eqb (at d) p) n → (c < n) × (at c ≡ p)
latest-corner at n p c e = let h = latest-has (λ d. eqb (at d) p) n c (sym e) in (h.0, eqb-true (at c) p h.1)

-- where there is none, no corner is at the vertex
module _ (at : ℕ → ℕ) (n p : ℕ) (e : None ≡ latest (λ d. eqb (at d) p) n) where
  pub nowhere : (t : ℕ → Bool) → any_at at n p t ≡ false
  nowhere t =
      any-at-none at n p t (λ c l h.
      let miss = latest-nowhere (λ d. eqb (at d) p) n (sym e) c l in
      let hit = eq-eqb (at c) p h in
      cc)

  pub no-fan : true ≡ not (fan at n p)
  unfolding fan fan_by
  no-fan = ap not (sym (nowhere (λ c. all_at at n p (λ d. any_below (λ i. eqb (iterate (around (twin at n) n) i c) d) (valence at n p)))))

  pub no-boundary : false ≡ on_boundary at n p
  unfolding on_boundary
  no-boundary = sym (nowhere (boundary at n))
