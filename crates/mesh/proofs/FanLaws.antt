-- What a fan is: one turn, closed or a chain, of all the corners at the vertex; and how counting the corners of any one turn at the vertex tells it.
--
--   OneTurn s b at n p   one turn of all the corners at p
use mathlib.Core.Path.{◌≡◌, refl, sym, ap, ◌∙◌, subst}
use mathlib.Core.Bool.{Bool, true}
use mathlib.Core.Logic.{◌⊎◌, inl, inr, ⊎_elim}
use Prim.Native.Nat.{ℕ, zero, suc, ◌≤◌, ◌<◌}
use native.Mathlib.Nat.{eq-or-lt_of_le, not-suc-le-zero, le_of_eq}
use native.Mathlib.Omega.{arith}
use lib.Dec.{eqb}
use borrow.Author.Tests.{eq-eqb, eqb-true}
use Rattle.finite.specs.Fold.{any_below, count_below}
use Rattle.finite.proofs.AnyAll.{any-true, any-hit, same_test}
use Rattle.finite.proofs.Counting.{cover-apart, cover-inside}
use Rattle.limits.specs.Limits.{no_twin}
use Rattle.mesh.specs.HalfEdge.{twin, Simple}
use Rattle.mesh.specs.Fan.{all_at, valence, around, iterate, fan_by, fan}
use Rattle.mesh.proofs.TwinLaws.{twin-joins, twin-paired}
use Rattle.mesh.proofs.CirculationLaws.{Turning, Keeps, step-injective, turning, keeps, circulated-ext}
use Rattle.mesh.proofs.VertexLaws.{valence-count, any-at-true, any-at-hit, all-at-true, all-at-hit}
use Rattle.mesh.proofs.TurnLaws.{Covers, turn-first, turn_at, turn-covers, turn-full}
use Rattle.mesh.specs.Tables.{Corners}
use Rattle.mesh.specs.Circulation.{back_around, Turn, Circulated}

-- ---- the test, as a statement
module _ (s at : ℕ → ℕ) (n p : ℕ) where
  -- d is fewer steps than p has corners from c
  abbrev reached : ℕ → ℕ → Bool
  reached c d = any_below (λ i. eqb (iterate s i c) d) (valence at n p)

  reached-covers : (c : ℕ) → all_at at n p (reached c) ≡ true → Covers s at n p c (valence at n p)
  reached-covers c h d l e =
      let w = any-true (λ i. eqb (iterate s i c) d) (valence at n p) (all-at-true at n p (reached c) h d l e) in
      (w.0, w.1, eqb-true (iterate s w.0 c) d w.2)

  pub fan-covers : fan_by s at n p ≡ true → (c : ℕ) × (c < n) × (at c ≡ p) × Covers s at n p c (valence at n p)
  unfolding fan_by
  fan-covers h =
      let w = any-at-true at n p (λ c. all_at at n p (reached c)) h in
      (w.0, w.1, w.2, reached-covers w.0 w.3)

  pub covers-fan : (c : ℕ) → c < n → at c ≡ p → Covers s at n p c (valence at n p) → fan_by s at n p ≡ true
  unfolding fan_by
  covers-fan c l e cover =
      any-at-hit at n p (λ c. all_at at n p (reached c)) c l e
      (all-at-hit at n p (reached c) (λ d k q.
      let w = cover d k q in
      any-hit (λ i. eqb (iterate s i c) d) (valence at n p) w.0 w.1 (eq-eqb (iterate s w.0 c) d w.2)))

  -- a fan has corners
  fan_by-some : fan_by s at n p ≡ true → 0 < valence at n p
  fan_by-some h =
      let w = fan-covers h in
      let i = w.3 w.0 w.1 w.2 in
      omega (arith, i.1)

pub fan-some : (at : ℕ → ℕ) (n p : ℕ) → fan at n p ≡ true → 0 < valence at n p
unfolding fan
fan-some at n p = fan_by-some (around (twin at n) n) at n p

pub record OneTurn (s b at : ℕ → ℕ) (n p : ℕ) : Type 0 where
  pub first : ℕ
  pub here : at first ≡ p
  pub turn : Turn s b n first (valence at n p)
  pub covers : Covers s at n p first (valence at n p)

module _ {n : ℕ} {s b : ℕ → ℕ} (g : Turning s b n) (at : ℕ → ℕ) (keeps : Keeps s at n) where
  -- the corners at a turn's vertex form one fan exactly when the turn has as many
  pub fan-turn : (o m : ℕ) → Turn s b n o m → fan_by s at n (at o) ≡ eqb m (valence at n (at o))
  fan-turn o m t =
      same_test (fan_by s at n (at o)) (eqb m (valence at n (at o)))
      (λ f.
      let w = fan-covers s at n (at o) f in
      eq-eqb m (valence at n (at o)) (turn-full g o m t at keeps w.0 (valence at n (at o)) w.1 w.3))
      (λ e.
      let q = eqb-true m (valence at n (at o)) e in
      covers-fan s at n (at o) o (turn-first g o m t) refl (subst (Covers s at n (at o) o) q (turn-covers g o m t at keeps q)))

  -- k + 1 places from o on cover its vertex, which has no fewer corners: they are one turn
  module _ (o k : ℕ) (lo : o < n) (cover : Covers s at n (at o) o (suc k)) (full : suc k ≤ count_below (λ d. eqb (at d) (at o)) n) where
    covered : (d : ℕ) → d < n → eqb (at d) (at o) ≡ true → (i : ℕ) × (i < suc k) × (iterate s i o ≡ d)
    covered d l q = cover d l (eqb-true (at d) (at o) q)

    inside : (i : ℕ) → i < suc k → (iterate s i o < n) × (at (iterate s i o) ≡ at o)
    inside i l =
        let w = cover-inside (λ d. eqb (at d) (at o)) n (suc k) (λ i. iterate s i o) covered full i l in
        (w.0, eqb-true (at (iterate s i o)) (at o) w.1)

    apart : (i j : ℕ) → i < suc k → j < suc k → iterate s i o ≡ iterate s j o → i ≡ j
    apart = cover-apart (λ d. eqb (at d) (at o)) n (suc k) (λ i. iterate s i o) covered full

    -- the step from the last place leads to the first, if to any
    closes : (i : ℕ) → i < suc k → iterate s i o ≡ iterate s (suc k) o → iterate s (suc k) o < n → iterate s (suc k) o ≡ o
    unfolding iterate
    closes zero l e h = sym e
    closes (suc i) l e h =
        let same = step-injective g (iterate s i o) (iterate s k o) (inside i (omega arith)).0 (inside k (omega arith)).0 e (rw e h) in
        absurd (omega (arith, apart i k (omega arith) (omega arith) same))

    -- only the last place can have o after it
    starts : (i : ℕ) → i < suc k → s (iterate s i o) ≡ o → iterate s (suc k) o ≡ o
    unfolding iterate
    starts i l e =
        ⊎_elim
        (λ q. ap (λ (j : ℕ). iterate s j o) (sym q) ∙ e)
        (λ q. absurd (omega (arith, apart (suc i) 0 q (omega arith) e)))
        (eq-or-lt_of_le l)

    ends : (iterate s (suc k) o ≡ o) ⊎ ((iterate s (suc k) o ≡ no_twin) × (b o ≡ no_twin))
    unfolding iterate
    ends =
        ⊎_elim
        (λ e. ⊎_elim
        (λ q. inr (e, q))
        (λ l.
        let sb : s (b o) ≡ o = g.forth o lo l in
        let w = cover (b o) l (sym (keeps (b o) l (rw sb lo)) ∙ ap at sb) in
        inl (starts w.0 w.1 (ap s w.2 ∙ sb)))
        (g.off o lo))
        (λ l.
        let w = cover (iterate s (suc k) o) l (keeps (iterate s k o) (inside k (omega arith)).0 l ∙ (inside k (omega arith)).1) in
        inl (closes w.0 w.1 w.2 l))
        (g.on (iterate s k o) (inside k (omega arith)).0)

    places : Turn s b n o (suc k)
    places = record { corners = record { some = omega arith; inside = λ i l. (inside i l).0; apart = apart }; ends = ends }

  pub covers-turn : (o m : ℕ) → o < n → Covers s at n (at o) o m → m ≡ valence at n (at o) → Turn s b n o m
  covers-turn o zero l cover e = absurd (not-suc-le-zero (cover o l refl).1)
  covers-turn o (suc k) l cover e = places o k l cover (le_of_eq (e ∙ valence-count at n (at o)))

  pub fan_by-means : (p : ℕ) → fan_by s at n p ≡ true → OneTurn s b at n p
  fan_by-means p f =
      let w = fan-covers s at n p f in
      let cover : Covers s at n (at w.0) w.0 (valence at n p) = rw w.2 w.3 in
      record {
        first = w.0;
        here = w.2;
        turn = covers-turn w.0 (valence at n p) w.1 cover (ap (valence at n) (sym w.2));
        covers = w.3;
      }

  pub means-fan_by : (p o : ℕ) → at o ≡ p → Turn s b n o (valence at n p) → fan_by s at n p ≡ true
  means-fan_by p o e t =
      rw e at (fan-turn o (valence at n p) t ∙ eq-eqb (valence at n p) (valence at n (at o)) (ap (valence at n) (sym e)))

-- ---- the fans of a mesh
module _ {n : ℕ} (at : ℕ → ℕ) (k : Corners n) (simple : Simple at n) where
  pub fan-turning : Turning (around (twin at n) n) (back_around (twin at n) n) n
  fan-turning = turning k (twin-paired at k simple)

  pub fan-keeps : Keeps (around (twin at n) n) at n
  fan-keeps = keeps k (twin-paired at k simple) at (twin-joins at k)

  -- it is one closed turn, or one chain from a boundary half-edge to a boundary half-edge, of all the corners at p
  pub fan-means : (p : ℕ) → fan at n p ≡ true → OneTurn (around (twin at n) n) (back_around (twin at n) n) at n p
  unfolding fan
  fan-means p f = fan_by-means fan-turning at fan-keeps p f

  pub means-fan : (p o : ℕ) → at o ≡ p → Turn (around (twin at n) n) (back_around (twin at n) n) n o (valence at n p) → fan at n p ≡ true
  unfolding fan
  means-fan p o e t = means-fan_by fan-turning at fan-keeps p o e t

  pub circulated-fan : (c m : ℕ) → Circulated (twin at n) n c m → fan at n (at c) ≡ eqb m (valence at n (at c))
  unfolding fan
  circulated-fan c m w =
      let here = turn_at fan-turning w.first m w.turn at fan-keeps w.steps w.few in
      let same : at w.first ≡ at c = sym here ∙ ap at w.through in
      rw same at (fan-turn fan-turning at fan-keeps w.first m w.turn)

  -- the same with a table of the twins
  pub table-fan : (tw : ℕ → ℕ) → ((c : ℕ) → c < n → tw c ≡ twin at n c)
      → (c m : ℕ) → Circulated tw n c m → fan at n (at c) ≡ eqb m (valence at n (at c))
  table-fan tw holds c m w = circulated-fan c m (circulated-ext k holds c m w)
