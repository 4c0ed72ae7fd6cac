-- The corners of a turn: they are at one vertex and closed under steps on and back, and a turn of as many corners as its vertex has all of them.
--
--   On s o m d           d is one of the m corners from o on
--   Covers s at n p o m  every corner at p is one of the m corners from o on
use mathlib.Core.Path.{◌≡◌, refl, sym, ap, ◌∙◌, subst}
use mathlib.Core.Bool.{true}
use mathlib.Core.Logic.{⊎_elim}
use Prim.Native.Nat.{ℕ, zero, suc, ◌-◌, ◌≤◌, ◌<◌}
use native.Mathlib.Nat.{eq-or-lt_of_le}
use native.Mathlib.Omega.{arith}
use lib.Dec.{eqb}
use borrow.Author.Tests.{eq-eqb, eqb-true}
use Rattle.finite.proofs.Counting.{at_least, pigeons, at_most}
use Rattle.mesh.specs.Fan.{valence, iterate}
use Rattle.mesh.proofs.CirculationLaws.{Turning, Keeps, before, steps-keep}
use Rattle.mesh.proofs.VertexLaws.{valence-count}
use Rattle.mesh.specs.Circulation.{Turn}

abbrev pub On : (ℕ → ℕ) → ℕ → ℕ → ℕ → Type 0
On s o m d = (i : ℕ) × (i < m) × (iterate s i o ≡ d)

abbrev pub Covers : (ℕ → ℕ) → (ℕ → ℕ) → ℕ → ℕ → ℕ → ℕ → Type 0
Covers s at n p o m = (d : ℕ) → d < n → at d ≡ p → On s o m d

module _ {n : ℕ} {s b : ℕ → ℕ} (g : Turning s b n) (o m : ℕ) (t : Turn s b n o m) where
  pub turn-first : o < n
  unfolding iterate
  turn-first = t.corners.inside 0 t.corners.some

  on-more : (d : ℕ) → On s o m d → s d < n → On s o m (s d)
  unfolding iterate
  on-more d w h =
      ⊎_elim
      (λ last.
      let here : s d ≡ iterate s m o = ap s (sym w.2) ∙ ap (λ (k : ℕ). iterate s k o) last in
      ⊎_elim (λ q. (0, t.corners.some, sym (here ∙ q))) (λ q. absurd (omega (arith, here ∙ q.0))) t.ends)
      (λ l. (suc w.0, l, ap s w.2))
      (eq-or-lt_of_le w.1)

  -- the corner before the first, of a closed turn
  on-last : (k : ℕ) → suc k ≡ m → iterate s m o ≡ o → On s o m (b o)
  unfolding iterate
  on-last k u q =
      let l : k < m = omega arith in
      let r : s (iterate s k o) ≡ o = ap (λ (x : ℕ). iterate s x o) u ∙ q in
      (k, l, sym (g.back (iterate s k o) (t.corners.inside k l) (rw r turn-first)) ∙ ap b r)

  on-less : (i d : ℕ) → i < m → iterate s i o ≡ d → b d < n → On s o m (b d)
  unfolding iterate
  on-less zero d l e h =
      rw (← e) (⊎_elim (on-last (m - 1) (omega arith)) (λ q. absurd (omega (arith, ap b (sym e) ∙ q.1))) t.ends)
  on-less (suc i) d l e h =
      let k : i < m = omega arith in
      (i, k, sym (g.back (iterate s i o) (t.corners.inside i k) (t.corners.inside (suc i) l)) ∙ ap b e)

  pub on-steps : (j d : ℕ) → d < n → On s o m d → iterate s j d < n → On s o m (iterate s j d)
  unfolding iterate
  on-steps zero d l w h = w
  on-steps (suc j) d l w h = on-more (iterate s j d) (on-steps j d l w (before g j d l h)) h

  pub on-from : (j d : ℕ) → d < n → On s o m (iterate s j d) → On s o m d
  unfolding iterate
  on-from zero d l w = w
  on-from (suc j) d l w =
      let h : s (iterate s j d) < n = rw (← w.2) (t.corners.inside w.0 w.1) in
      let k = before g j d l h in
      let r : b (s (iterate s j d)) ≡ iterate s j d = g.back (iterate s j d) k h in
      on-from j d l (subst (On s o m) r (on-less w.0 (s (iterate s j d)) w.1 w.2 (rw r k)))

  module _ (at : ℕ → ℕ) (keeps : Keeps s at n) where
    pub turn_at : (i : ℕ) → i < m → at (iterate s i o) ≡ at o
    turn_at i l = steps-keep keeps o i (λ j h. t.corners.inside j (omega arith))

    has : (i : ℕ) → i < m → eqb (at (iterate s i o)) (at o) ≡ true
    has i l = eq-eqb (at (iterate s i o)) (at o) (turn_at i l)

    pub turn-le : m ≤ valence at n (at o)
    turn-le = rw valence-count (at_least (λ d. eqb (at d) (at o)) n m (λ i. iterate s i o) t.corners.inside has t.corners.apart)

    -- where it has as many, it has them all
    pub turn-covers : m ≡ valence at n (at o) → Covers s at n (at o) o m
    turn-covers e d l q =
        pigeons (λ d. eqb (at d) (at o)) n m (λ i. iterate s i o) t.corners.inside has t.corners.apart
        (sym (e ∙ valence-count at n (at o))) d l (eq-eqb (at d) (at o) q)

    -- where any steps from one corner cover the vertex, the turn has as many
    pub turn-full : (c k : ℕ) → c < n → Covers s at n (at o) c k → m ≡ valence at n (at o)
    unfolding iterate
    turn-full c k lc cover =
        let first = cover o turn-first refl in
        let start = on-from first.0 c lc (0, t.corners.some, sym first.2) in
        let most =
        at_most (λ d. eqb (at d) (at o)) n m (λ i. iterate s i o) (λ d l q.
        let w = cover d l (eqb-true (at d) (at o) q) in
        subst (On s o m) w.2 (on-steps w.0 c lc start (rw w.2 l))) in
        omega (arith, most, turn-le, valence-count at n (at o))
