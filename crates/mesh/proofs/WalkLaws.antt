-- What circulating about a vertex has met: on from its start while it neither ends nor is back there, and then back from the start.
--
--   Walk s n o m            m corners from o on, of which none after the first is o again
--   Chain s n start o m     m corners from o on, the last with no step on, and start among them
--   Onward tw n start met on       the loop on from start: a walk of met corners, and `on` the one after them
--   Backward tw n start met back   the loop back from start: a chain of met corners, and `back` the one before them
use mathlib.Core.Path.{◌≡◌, refl, sym, ap, ◌∙◌}
use mathlib.Core.Bool.{true}
use mathlib.Core.Logic.{◌⊎◌, inl, inr, ⊎_elim}
use Prim.Native.Nat.{ℕ, zero, suc, ◌+◌, ◌-◌, ◌≤◌, ◌<◌}
use native.Mathlib.Nat.{zero-add, suc-add}
use native.Mathlib.Numerals.{add-one}
use native.Mathlib.Omega.{arith}
use lib.Dec.{eqb, ltb}
use borrow.Author.Tests.{eq-eqb, ne_eqb, eqb-true, eqb-false, ltb-true, ltb-false}
use Rattle.std.specs.Prelude.{Option, None, Some}
use Rattle.std.specs.Option.{option_map}
use Rattle.finite.proofs.FoldLaws.{bool_cases, lt-suc-cases}
use Rattle.finite.proofs.Counting.{at_least, sum_ones}
use Rattle.limits.specs.Limits.{no_twin}
use Rattle.corner.specs.Corner.{next, prev}
use Rattle.mesh.specs.Fan.{around, iterate}
use Rattle.mesh.proofs.CirculationLaws.{Turning, around-in, back_none, back_some, iterate-in, iterate-add, reach, step-injective, turning}
use Rattle.mesh.proofs.CornerLaws.{next-below, not_none}
use Rattle.mesh.proofs.TurnLaws.{On}
use Rattle.mesh.specs.Tables.{Corners}
use Rattle.mesh.specs.Walk.{corner_of}
use Rattle.mesh.specs.Circulation.{Paired, back_around, Turn, Run, Circulated}

pub record Walk (s : ℕ → ℕ) (n o m : ℕ) : Type 0 where
  pub some : 0 < m
  pub inside : (i : ℕ) → i < m → iterate s i o < n
  pub away : (i : ℕ) → suc i < m → iterate s (suc i) o ≡ o → ⊥

pub record Chain (s : ℕ → ℕ) (n start o m : ℕ) : Type 0 where
  pub some : 0 < m
  pub inside : (i : ℕ) → i < m → iterate s i o < n
  pub over : iterate s m o ≡ no_twin
  pub through : On s o m start

-- values of which no two in order are the same are different
ordered : (m : ℕ) (e : ℕ → ℕ) → ((i d : ℕ) → i + suc d < m → e i ≡ e (i + suc d) → ⊥) → (i j : ℕ) → i < m → j < m → e i ≡ e j → i ≡ j
ordered m e never i j a k q =
    bool_cases (ltb i j)
    (λ t.
    let h = ltb-true i j t in
    let w : j ≡ i + suc (j - suc i) = omega arith in
    absurd (never i (j - suc i) (omega arith) (q ∙ ap e w)))
    (λ t. bool_cases (ltb j i)
    (λ u.
    let h = ltb-true j i u in
    let w : i ≡ j + suc (i - suc j) = omega arith in
    absurd (never j (i - suc j) (omega arith) (sym q ∙ ap e w)))
    (λ u. omega (arith, ltb-false i j t, ltb-false j i u)))

-- different corners are at most n
short : (n m : ℕ) (e : ℕ → ℕ) → ((i : ℕ) → i < m → e i < n) → ((i j : ℕ) → i < m → j < m → e i ≡ e j → i ≡ j) → m ≤ n
short n m e below apart = rw sum_ones at (at_least (λ d. true) n m e below (λ i l. refl) apart)

module _ {n : ℕ} {s b : ℕ → ℕ} (g : Turning s b n) where
  -- ---- on
  walk_start : (o : ℕ) → o < n → Walk s n o 1
  unfolding iterate
  walk_start o l = record {
    some = omega arith;
    inside = λ i k. lt-suc-cases k (λ e. rw e l) (λ q. absurd (omega arith));
    away = λ i k. absurd (omega arith);
  }

  walk_more : (o m : ℕ) → Walk s n o m → iterate s m o < n → (iterate s m o ≡ o → ⊥) → Walk s n o (suc m)
  walk_more o m w l a = record {
    some = omega arith;
    inside = λ i k. lt-suc-cases k (λ e. rw e l) (w.inside i);
    away = λ i k. lt-suc-cases k (λ e q. a (ap (λ (j : ℕ). iterate s j o) (sym e) ∙ q)) (w.away i);
  }

  -- the first corner that a walk meets again is its start
  walk-away : (o m : ℕ) → Walk s n o m → (i d : ℕ) → i + suc d < m → iterate s i o ≡ iterate s (i + suc d) o → ⊥
  unfolding iterate
  walk-away o m w zero d l e = w.away d (omega arith) (rw zero-add at (sym e))
  walk-away o m w (suc i) d l e =
      walk-away o m w i d (omega arith)
      (step-injective g (iterate s i o) (iterate s (i + suc d) o) (w.inside i (omega arith)) (w.inside (i + suc d) (omega arith))
      (rw suc-add at e) (w.inside (suc i) (omega arith)))

  walk-apart : (o m : ℕ) → Walk s n o m → (i j : ℕ) → i < m → j < m → iterate s i o ≡ iterate s j o → i ≡ j
  walk-apart o m w = ordered m (λ i. iterate s i o) (walk-away o m w)

  walk-short : (o m : ℕ) → Walk s n o m → m ≤ n
  walk-short o m w = short n m (λ i. iterate s i o) w.inside (walk-apart o m w)

  walk-run : (o m z : ℕ) → Walk s n o m → iterate s m o ≡ z → Run s n o m z
  walk-run o m z w e = record { corners = record { some = w.some; inside = w.inside; apart = walk-apart o m w }; ends = e }

  -- ---- back
  chain_more : (start o m : ℕ) → Chain s n start o m → b o < n → Chain s n start (b o) (suc m)
  unfolding iterate
  chain_more start o m c l =
      let w = c.through in
      record { some = omega arith; inside = inside; over = shift m ∙ c.over; through = (suc w.0, omega (arith, w.1), shift w.0 ∙ w.2) }
    where
      shift : (i : ℕ) → iterate s (suc i) (b o) ≡ iterate s i o
      shift i = iterate-in s i (b o) ∙ ap (iterate s i) (g.forth o (c.inside 0 c.some) l)

      inside : (i : ℕ) → i < suc m → iterate s i (b o) < n
      inside zero k = l
      inside (suc i) k = rw (shift i) (c.inside i (omega arith))

  -- a chain that met a corner again would never end
  chain-away : (start o m : ℕ) → Chain s n start o m → (i d : ℕ) → i + suc d < m → iterate s i o ≡ iterate s (i + suc d) o → ⊥
  chain-away start o m c i d l e =
      let r = m - (i + suc d) in
      let sum : r + (i + suc d) ≡ m = omega arith in
      let late : iterate s (r + (i + suc d)) o ≡ no_twin = rw sum c.over in
      let early : iterate s (r + i) o ≡ no_twin = iterate-add s r i o ∙ ap (iterate s r) e ∙ sym (iterate-add s r (i + suc d) o) ∙ late in
      omega (arith, c.inside (r + i) (omega arith), early, g.few)

  chain-apart : (start o m : ℕ) → Chain s n start o m → (i j : ℕ) → i < m → j < m → iterate s i o ≡ iterate s j o → i ≡ j
  chain-apart start o m c = ordered m (λ i. iterate s i o) (chain-away start o m c)

  chain-short : (start o m : ℕ) → Chain s n start o m → m ≤ n
  chain-short start o m c = short n m (λ i. iterate s i o) c.inside (chain-apart start o m c)

  chain-turn : (start o m : ℕ) → Chain s n start o m → b o ≡ no_twin → Turn s b n o m
  chain-turn start o m c e =
      record { corners = record { some = c.some; inside = c.inside; apart = chain-apart start o m c }; ends = inr (c.over, e) }

-- ---- a corner from its number
pub corner-none : (x : ℕ) → x ≡ no_twin → None ≡ corner_of x
unfolding corner_of
corner-none x e = rw (eq-eqb x no_twin e)

pub corner-some : (x : ℕ) → (x ≡ no_twin → ⊥) → Some x ≡ corner_of x
unfolding corner_of
corner-some x e = rw (ne_eqb x no_twin e)

corner-cases : (x : ℕ) → ((x ≡ no_twin) × (corner_of x ≡ None)) ⊎ ((x ≡ no_twin → ⊥) × (corner_of x ≡ Some x))
corner-cases x =
    bool_cases (eqb x no_twin)
    (λ t. let e = eqb-true x no_twin t in inl (e, sym (corner-none x e)))
    (λ t. let e = eqb-false x no_twin t in inr (e, sym (corner-some x e)))

-- a corner that is there is the one of its number
pub corner-there : (x c : ℕ) → corner_of x ≡ Some c → (x ≡ no_twin → ⊥) × (x ≡ c)
corner-there x c e = ⊎_elim (λ w. let f = w.1 in cc) (λ w. let f = w.1 in (w.0, cc)) (corner-cases x)

pub corner-missing : (x : ℕ) → corner_of x ≡ None → x ≡ no_twin
corner-missing x e = ⊎_elim (λ w. w.0) (λ w. let f = w.1 in cc) (corner-cases x)

-- the corner after c as the code reads it, in the shape that a need has
pub around-corner : (tw : ℕ → ℕ) (n c h : ℕ) (r : Option ℕ) → c < n → h ≡ prev c → r ≡ corner_of (tw h) → r ≡ corner_of (around tw n c)
around-corner tw n c h r l e q = q ∙ ap (λ (x : ℕ). corner_of (tw x)) e ∙ ap corner_of (sym (around-in tw n c l))

module _ {n : ℕ} {tw : ℕ → ℕ} (k : Corners n) (p : Paired tw n) where
  pub back-corner : (c : ℕ) (o : Option ℕ) → c < n → o ≡ corner_of (tw c) → option_map next o ≡ corner_of (back_around tw n c)
  back-corner c o l e =
      ⊎_elim
      (λ q. ap (option_map next) (e ∙ sym (corner-none (tw c) q)) ∙ corner-none (back_around tw n c) (back_none tw n c l q))
      (λ w.
      let some = not_none k (tw c) w.0 in
      let s = back_some tw n c l some in
      let here : back_around tw n c ≡ no_twin → ⊥ = λ q. not_none k (next (tw c)) (next-below k (tw c) w.0) (sym s ∙ q) in
      ap (option_map next) (e ∙ sym (corner-some (tw c) some)) ∙ ap Some (sym s) ∙ corner-some (back_around tw n c) here)
      (p.pairs c l)

-- ---- the two loops
pub record Onward (tw : ℕ → ℕ) (n start met : ℕ) (on : Option ℕ) : Type 0 where
  pub walk : Walk (around tw n) n start met
  pub here : on ≡ corner_of (iterate (around tw n) met start)
  pub short : met ≤ n

pub record Backward (tw : ℕ → ℕ) (n start met : ℕ) (back : Option ℕ) : Type 0 where
  pub first : ℕ
  pub chain : Chain (around tw n) n start first met
  pub here : back ≡ corner_of (back_around tw n first)
  pub short : met ≤ n

module _ {n : ℕ} {tw : ℕ → ℕ} (k : Corners n) (p : Paired tw n) (start : ℕ) (l : start < n) where
  pub onward-start : (on : Option ℕ) → on ≡ corner_of (around tw n start) → Onward tw n start 1 on
  unfolding iterate
  onward-start on e = record { walk = walk_start (turning k p) start l; here = e; short = omega arith }

  module _ (met : ℕ) (on : Option ℕ) (c : ℕ) (w : Onward tw n start met on) (some : on ≡ Some c) where
    onward-at : iterate (around tw n) met start ≡ c
    onward-at = (corner-there _ c (sym w.here ∙ some)).1

    pub onward-in : c < n
    onward-in =
        let t = corner-there _ c (sym w.here ∙ some) in
        ⊎_elim (λ e. absurd (t.0 e)) (λ q. rw t.1 at q) (reach (turning k p) met start l)

    pub onward-more : (on' : Option ℕ) → (c ≡ start → ⊥) → on' ≡ corner_of (around tw n c) → Onward tw n start (met + 1) on'
    unfolding iterate
    onward-more on' a e =
        let more = walk_more (turning k p) start met w.walk (rw onward-at onward-in) (λ q. a (sym onward-at ∙ q)) in
        rw add-one (record {
          walk = more;
          here = e ∙ ap (λ (x : ℕ). corner_of (around tw n x)) (sym onward-at);
          short = walk-short (turning k p) start (suc met) more;
        })

    pub onward-less : (c ≡ start → ⊥) → n - (met + 1) < n - met
    onward-less a = omega (arith, (onward-more (corner_of (around tw n c)) a refl).short)

    -- back at its start
    pub onward-closed : c ≡ start → Run (around tw n) n start met start
    onward-closed e = walk-run (turning k p) start met start w.walk (onward-at ∙ e)

  -- at the boundary
  pub onward-open : (met : ℕ) (on : Option ℕ) → Onward tw n start met on → on ≡ None → Run (around tw n) n start met no_twin
  onward-open met on w e = walk-run (turning k p) start met no_twin w.walk (corner-missing _ (sym w.here ∙ e))

  -- back at its start: a closed turn
  pub run-closed : (met : ℕ) → Run (around tw n) n start met start → Circulated tw n start met
  unfolding iterate
  run-closed met r = record {
    first = start;
    turn = record { corners = r.corners; ends = inl r.ends };
    steps = 0;
    few = r.corners.some;
    through = refl;
  }

  pub backward-start : (met : ℕ) (back : Option ℕ) → Run (around tw n) n start met no_twin → back ≡ corner_of (back_around tw n start)
      → Backward tw n start met back
  unfolding iterate
  backward-start met back r e =
      let c = r.corners in
      record {
        first = start;
        chain = record { some = c.some; inside = c.inside; over = r.ends; through = (0, c.some, refl) };
        here = e;
        short = short n met (λ i. iterate (around tw n) i start) c.inside c.apart;
      }

  module _ (met : ℕ) (back : Option ℕ) (c : ℕ) (w : Backward tw n start met back) (some : back ≡ Some c) where
    backward-at : back_around tw n w.first ≡ c
    backward-at = (corner-there _ c (sym w.here ∙ some)).1

    pub backward-in : c < n
    unfolding iterate
    backward-in =
        let t = corner-there _ c (sym w.here ∙ some) in
        ⊎_elim (λ e. absurd (t.0 e)) (λ q. rw t.1 at q) ((turning k p).off w.first (w.chain.inside 0 w.chain.some))

    pub backward-more : (back' : Option ℕ) → back' ≡ corner_of (back_around tw n c) → Backward tw n start (met + 1) back'
    backward-more back' e =
        let more = chain_more (turning k p) start w.first met w.chain (rw backward-at backward-in) in
        rw add-one (record {
          first = back_around tw n w.first;
          chain = more;
          here = e ∙ ap (λ (x : ℕ). corner_of (back_around tw n x)) (sym backward-at);
          short = chain-short (turning k p) start (back_around tw n w.first) (suc met) more;
        })

    pub backward-less : n - (met + 1) < n - met
    backward-less = omega (arith, (backward-more (corner_of (back_around tw n c)) refl).short)

  -- nothing is before the first corner
  pub backward-end : (met : ℕ) (back : Option ℕ) → Backward tw n start met back → back ≡ None → Circulated tw n start met
  backward-end met back w e =
      let v = w.chain.through in
      record {
        first = w.first;
        turn = chain-turn (turning k p) start w.first met w.chain (corner-missing _ (sym w.here ∙ e));
        steps = v.0;
        few = v.1;
        through = v.2;
      }
