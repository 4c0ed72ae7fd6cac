-- Steps about a vertex: `around` and `back_around` undo each other, so they are a partial permutation of the corners with its inverse;
-- and what follows for any such steps.
--
--   Turning s b n    s and b are steps on and back among the corners below n, `no_twin` for none, and undo each other
--   Keeps s at n     a step s stays at the vertex
use mathlib.Core.Path.{◌≡◌, refl, sym, ap, ◌∙◌, subst, fun_ext}
use mathlib.Core.Logic.{◌⊎◌, inl, inr, ⊎_elim}
use Prim.Native.Nat.{ℕ, zero, suc, ◌+◌, ◌≤◌, ◌<◌}
use native.Mathlib.Nat.{suc-add, zero-add}
use native.Mathlib.Omega.{arith}
use lib.Dec.{ltb}
use borrow.Author.Tests.{eq-eqb, ne_eqb, lt-ltb, le-ltb, ltb-true}
use Rattle.finite.proofs.FoldLaws.{bool_cases}
use Rattle.limits.specs.Limits.{no_twin}
use Rattle.corner.specs.Corner.{next, prev}
use Rattle.mesh.specs.Fan.{around, iterate}
use Rattle.mesh.proofs.CornerLaws.{next-below, prev-below, next-prev, prev-next, not_none}
use Rattle.mesh.proofs.TwinLaws.{Joins}
use Rattle.mesh.specs.Tables.{Corners}
use Rattle.mesh.specs.Circulation.{Paired, back_around, Turn, Circulated}

-- ---- one step
module _ (tw : ℕ → ℕ) (n c : ℕ) where
  pub around-in : c < n → around tw n c ≡ tw (prev c)
  unfolding around
  around-in l = rw (lt-ltb c n l)

  pub around-out : n ≤ c → around tw n c ≡ no_twin
  unfolding around
  around-out l = rw (le-ltb c n l)

  pub back_none : c < n → tw c ≡ no_twin → back_around tw n c ≡ no_twin
  unfolding back_around
  back_none l e = rw (lt-ltb c n l, eq-eqb (tw c) no_twin e)

  pub back_some : c < n → (tw c ≡ no_twin → ⊥) → back_around tw n c ≡ next (tw c)
  unfolding back_around
  back_some l e = rw (lt-ltb c n l, ne_eqb (tw c) no_twin e)

  pub back-out : n ≤ c → back_around tw n c ≡ no_twin
  unfolding back_around
  back-out l = rw (le-ltb c n l)

pub record Turning (s b : ℕ → ℕ) (n : ℕ) : Type 0 where
  pub few : n ≤ no_twin
  pub stop : s no_twin ≡ no_twin
  pub stop-back : b no_twin ≡ no_twin
  pub on : (c : ℕ) → c < n → (s c ≡ no_twin) ⊎ (s c < n)
  pub off : (c : ℕ) → c < n → (b c ≡ no_twin) ⊎ (b c < n)
  pub back : (c : ℕ) → c < n → s c < n → b (s c) ≡ c
  pub forth : (c : ℕ) → c < n → b c < n → s (b c) ≡ c

abbrev pub Keeps : (ℕ → ℕ) → (ℕ → ℕ) → ℕ → Type 0
Keeps s at n = (c : ℕ) → c < n → s c < n → at (s c) ≡ at c

-- the steps that twins give
module _ {n : ℕ} {tw : ℕ → ℕ} (k : Corners n) (p : Paired tw n) where
  pub back-around : (c : ℕ) → c < n → around tw n c < n → back_around tw n (around tw n c) ≡ c
  back-around c l q =
      let t : tw (prev c) < n = rw around-in at q in
      ⊎_elim
      (λ r. absurd (not_none k (tw (prev c)) t r))
      (λ w.
      let some : tw (tw (prev c)) ≡ no_twin → ⊥ = λ r. not_none k (prev c) (prev-below k c l) (sym w.1 ∙ r) in
      rw (around-in, back_some tw n (tw (prev c)) t some, w.1) (next-prev c))
      (p.pairs (prev c) (prev-below k c l))

  pub around-back : (c : ℕ) → c < n → back_around tw n c < n → around tw n (back_around tw n c) ≡ c
  around-back c l q =
      ⊎_elim
      (λ r. absurd (not_none k (back_around tw n c) q (back_none tw n c l r)))
      (λ w.
      let e = back_some tw n c l (not_none k (tw c) w.0) in
      around-in tw n (back_around tw n c) q ∙ ap (λ (d : ℕ). tw (prev d)) e ∙ ap tw (prev-next (tw c)) ∙ w.1)
      (p.pairs c l)

  pub turning : Turning (around tw n) (back_around tw n) n
  turning = record {
    few = omega arith;
    stop = around-out tw n no_twin (omega arith);
    stop-back = back-out tw n no_twin (omega arith);
    on = λ c l.
        ⊎_elim (λ e. inl (around-in tw n c l ∙ e)) (λ w. inr (rw (around-in tw n c l) w.0)) (p.pairs (prev c) (prev-below k c l));
    off = λ c l.
        ⊎_elim
        (λ e. inl (back_none tw n c l e))
        (λ w. inr (rw (back_some tw n c l (not_none k (tw c) w.0)) (next-below k (tw c) w.0)))
        (p.pairs c l);
    back = back-around;
    forth = around-back;
  }

  pub keeps : (at : ℕ → ℕ) → Joins tw at n → Keeps (around tw n) at n
  keeps at j c l q =
      let e = around-in tw n c l in
      let t : tw (prev c) < n = rw e at q in
      ap at e ∙ j (prev c) (prev-below k c l) t ∙ ap at (next-prev c)

-- ---- many steps
pub iterate-in : (s : ℕ → ℕ) (i c : ℕ) → iterate s (suc i) c ≡ iterate s i (s c)
unfolding iterate
iterate-in s zero c = refl
iterate-in s (suc i) c = ap s (iterate-in s i c)

pub iterate-add : (s : ℕ → ℕ) (i j c : ℕ) → iterate s (i + j) c ≡ iterate s i (iterate s j c)
unfolding iterate
iterate-add s zero j c = rw zero-add
iterate-add s (suc i) j c = rw suc-add (ap s (iterate-add s i j c))

module _ {n : ℕ} {s b : ℕ → ℕ} (g : Turning s b n) where
  -- a number of steps leads to a corner or to none
  pub reach : (i c : ℕ) → c < n → (iterate s i c ≡ no_twin) ⊎ (iterate s i c < n)
  unfolding iterate
  reach zero c l = inr l
  reach (suc i) c l = ⊎_elim (λ e. inl (ap s e ∙ g.stop)) (λ q. g.on (iterate s i c) q) (reach i c l)

  -- what steps to a corner is one
  pub before : (i c : ℕ) → c < n → iterate s (suc i) c < n → iterate s i c < n
  unfolding iterate
  before i c l h = ⊎_elim (λ e. absurd (omega (arith, ap s e ∙ g.stop))) (λ q. q) (reach i c l)

  -- no two corners step to one
  pub step-injective : (c d : ℕ) → c < n → d < n → s c ≡ s d → s c < n → c ≡ d
  step-injective c d a q e h = sym (g.back c a h) ∙ ap b e ∙ g.back d q (rw e at h)

-- steps among the corners stay at the vertex
pub steps-keep : {s at : ℕ → ℕ} {n : ℕ} → Keeps s at n → (o i : ℕ) → ((j : ℕ) → j ≤ i → iterate s j o < n) → at (iterate s i o) ≡ at o
unfolding iterate
steps-keep keeps o zero inside = refl
steps-keep {s} keeps o (suc i) inside =
    keeps (iterate s i o) (inside i (omega arith)) (inside (suc i) (omega arith)) ∙ steps-keep keeps o i (λ j l. inside j (omega arith))

-- ---- twins that are the same for each corner
module _ {n : ℕ} (k : Corners n) {tw tw' : ℕ → ℕ} (same : (c : ℕ) → c < n → tw c ≡ tw' c) where
  pub around-ext : around tw n ≡ around tw' n
  unfolding around
  around-ext = fun_ext (λ c. bool_cases (ltb c n) (λ t. rw t (same (prev c) (prev-below k c (ltb-true c n t)))) (λ t. rw t))

  pub back-ext : back_around tw n ≡ back_around tw' n
  unfolding back_around
  back-ext = fun_ext (λ c. bool_cases (ltb c n) (λ t. rw (same c (ltb-true c n t))) (λ t. rw t))

  pub circulated-ext : (c m : ℕ) → Circulated tw n c m → Circulated tw' n c m
  circulated-ext c m w = record {
    first = w.first;
    turn = subst (λ (s : ℕ → ℕ). Turn s (back_around tw' n) n w.first m) around-ext
        (subst (λ (b : ℕ → ℕ). Turn (around tw n) b n w.first m) back-ext w.turn);
    steps = w.steps;
    few = w.few;
    through = ap (λ (s : ℕ → ℕ). iterate s w.steps w.first) (sym around-ext) ∙ w.through;
  }
