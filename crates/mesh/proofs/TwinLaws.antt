-- Twins of half-edges: where no half-edge occurs twice the same way round there is at most one, and it has the half-edge for its own twin.
use mathlib.Core.Path.{◌≡◌, sym, ap, ap₂, ◌∙◌}
use mathlib.Core.Bool.{Bool, true, false, not, ◌&&◌, and-false, true≢false}
use mathlib.Core.Logic.{◌⊎◌, inl, inr, ⊎_elim}
use Prim.Native.Nat.{ℕ, ◌<◌}
use lib.Dec.{eqb}
use borrow.Author.Tests.{eq-eqb, eqb-true}
use Rattle.finite.specs.Fold.{any_below}
use Rattle.finite.proofs.FoldLaws.{bool_cases}
use Rattle.finite.proofs.AnyAll.{and-true, any_false, any_none}
use Rattle.finite.proofs.Least.{least-cases}
use Rattle.limits.specs.Limits.{no_twin}
use Rattle.corner.specs.Corner.{next}
use Rattle.mesh.specs.HalfEdge.{runs, is_twin, twin, same_way, doubled, Simple}
use Rattle.mesh.proofs.CornerLaws.{not_none}
use Rattle.mesh.specs.Tables.{Corners}
use Rattle.mesh.specs.Circulation.{Paired}

-- a twin starts where its half-edge ends
abbrev pub Joins : (ℕ → ℕ) → (ℕ → ℕ) → ℕ → Type 0
Joins tw at n = (c : ℕ) → c < n → tw c < n → at (tw c) ≡ at (next c)

-- from which vertex to which a half-edge runs
module _ (at : ℕ → ℕ) (p q c : ℕ) where
  pub runs-ends : runs at p q c ≡ true → (at c ≡ p) × (at (next c) ≡ q)
  runs-ends e = let w = and-true (eqb (at c) p) (eqb (at (next c)) q) e in (eqb-true (at c) p w.0, eqb-true (at (next c)) q w.1)

  pub runs_so : at c ≡ p → at (next c) ≡ q → runs at p q c ≡ true
  runs_so a b = ap₂ ◌&&◌ (eq-eqb (at c) p a) (eq-eqb (at (next c)) q b)

module _ (at : ℕ → ℕ) (n c : ℕ) where
  -- a half-edge has a twin, which joins its vertices the other way, or no half-edge does
  pub twin-cases : ((twin at n c < n) × (at (twin at n c) ≡ at (next c)) × (at (next (twin at n c)) ≡ at c))
      ⊎ ((twin at n c ≡ no_twin) × ((d : ℕ) → d < n → at d ≡ at (next c) → at (next d) ≡ at c → ⊥))
  unfolding twin is_twin
  twin-cases =
      ⊎_elim
      (λ w.
      let p = runs-ends at (at (next c)) (at c) w.0 w.3 in
      inl (rw w.1 w.2, rw w.1 p.0, rw w.1 p.1))
      (λ w. inr (rw w.0, λ d l p q. true≢false (sym (runs_so at (at (next c)) (at c) d p q) ∙ w.1 d l)))
      (least-cases (is_twin at c) n)

  pub twin-ends : Corners n → twin at n c < n → (at (twin at n c) ≡ at (next c)) × (at (next (twin at n c)) ≡ at c)
  twin-ends k l = ⊎_elim (λ w. (w.1, w.2)) (λ w. absurd (not_none k (twin at n c) l w.0)) twin-cases

pub twin-joins : {n : ℕ} (at : ℕ → ℕ) → Corners n → Joins (twin at n) at n
twin-joins {n} at k c l t = (twin-ends at n c k t).0

-- what joins the vertices of c the other way is its twin
pub twin-is : {n : ℕ} (at : ℕ → ℕ) → Simple at n → (c d : ℕ) → d < n → at d ≡ at (next c) → at (next d) ≡ at c → twin at n c ≡ d
twin-is {n} at simple c d l p q =
    ⊎_elim
    (λ w. simple (twin at n c) d w.0 l (w.1 ∙ sym p) (w.2 ∙ sym q))
    (λ w. absurd (w.1 d l p q))
    (twin-cases at n c)

module _ {n : ℕ} (at : ℕ → ℕ) (k : Corners n) (simple : Simple at n) where
  pub twin-twin : (c : ℕ) → c < n → twin at n c < n → twin at n (twin at n c) ≡ c
  twin-twin c l t = let e = twin-ends at n c k t in twin-is at simple (twin at n c) c l (sym e.1) (sym e.0)

  pub twin-paired : Paired (twin at n) n
  twin-paired = record { pairs = λ c l. ⊎_elim (λ w. inr (w.0, twin-twin c l w.0)) (λ w. inl w.0) (twin-cases at n c) }

-- a table of twins that come in pairs
pub paired-ext : {n : ℕ} (tw : ℕ → ℕ) {tw' : ℕ → ℕ} → ((c : ℕ) → c < n → tw c ≡ tw' c) → Paired tw' n → Paired tw n
paired-ext tw same p = record {
  pairs = λ c l.
      ⊎_elim
      (λ e. inl (same c l ∙ e))
      (λ w. inr (rw (same c l) w.0, ap tw (same c l) ∙ same _ w.0 ∙ w.1))
      (p.pairs c l);
}

-- half-edge d occurs the same way round as c, and is another one
abbrev again : (ℕ → ℕ) → ℕ → ℕ → Bool
again at c d = not (eqb d c) && same_way at c d

pub doubled-simple : (at : ℕ → ℕ) (n : ℕ) → doubled at n ≡ false → Simple at n
unfolding doubled same_way
doubled-simple at n e c d lc ld p q =
    bool_cases (eqb d c)
    (λ t. sym (eqb-true d c t))
    (λ t.
    let miss = any_false (again at c) n (any_false (λ c. any_below (again at c) n) n e c lc) d ld in
    let hit = ap₂ ◌&&◌ (ap not t) (runs_so at (at c) (at (next c)) d (sym p) (sym q)) in
    absurd (true≢false (sym hit ∙ miss)))

pub simple-doubled : (at : ℕ → ℕ) (n : ℕ) → Simple at n → doubled at n ≡ false
unfolding doubled same_way
simple-doubled at n simple =
    any_none (λ c. any_below (again at c) n) n (λ c lc.
    any_none (again at c) n (λ d ld.
    bool_cases (same_way at c d)
    (λ t. let w = runs-ends at (at c) (at (next c)) d t in rw (eq-eqb d c (simple d c ld lc w.0 w.1)))
    (λ t. rw t (and-false (not (eqb d c))))))
