-- Circulating the other way: the corners at a vertex form one fan by steps on exactly when they form one by steps back.
use mathlib.Core.Path.{◌≡◌, refl, sym, ap, ◌∙◌, subst}
use mathlib.Core.Bool.{true}
use mathlib.Core.Logic.{◌⊎◌, inl, inr, ⊎_elim}
use Prim.Native.Nat.{ℕ, zero, suc, ◌+◌, ◌-◌, ◌<◌}
use native.Mathlib.Nat.{suc-add, not-suc-le-zero}
use native.Mathlib.Omega.{arith}
use Rattle.finite.proofs.AnyAll.{same_test}
use Rattle.limits.specs.Limits.{no_twin}
use Rattle.mesh.specs.HalfEdge.{twin, Simple}
use Rattle.mesh.specs.Fan.{valence, iterate, fan_by, fan}
use Rattle.mesh.proofs.CirculationLaws.{Turning, Keeps, iterate-in}
use Rattle.mesh.proofs.TurnLaws.{turn_at}
use Rattle.mesh.proofs.FanLaws.{fan_by-means, means-fan_by, fan-turning, fan-keeps}
use Rattle.mesh.specs.Tables.{Corners}
use Rattle.mesh.specs.Circulation.{back_around, Turn}

-- steps on and back change places
turning-back : {n : ℕ} {s b : ℕ → ℕ} → Turning s b n → Turning b s n
turning-back g = record { few = g.few; stop = g.stop-back; stop-back = g.stop; on = g.off; off = g.on; back = g.forth; forth = g.back }

module _ {n : ℕ} {s b : ℕ → ℕ} (g : Turning s b n) (at : ℕ → ℕ) (keeps : Keeps s at n) where
  keeps-back : Keeps b at n
  keeps-back c l h = let e : s (b c) ≡ c = g.forth c l h in sym (keeps (b c) h (rw e l)) ∙ ap at e

  -- i steps back undo the last i of i + j steps on
  retraced : (o m : ℕ) → Turn s b n o m → (i j : ℕ) → i + j < m → iterate b i (iterate s (i + j) o) ≡ iterate s j o
  unfolding iterate
  retraced o m t zero j l = ap (λ (k : ℕ). iterate s k o) (let e : 0 + j ≡ j = omega arith in e)
  retraced o m t (suc i) j l =
      ap (λ (k : ℕ). iterate b (suc i) (iterate s k o)) (suc-add i j)
      ∙ iterate-in b i (s (iterate s (i + j) o))
      ∙ ap (iterate b i) (g.back (iterate s (i + j) o) (t.corners.inside (i + j) (omega arith)) (t.corners.inside (suc (i + j)) (omega arith)))
      ∙ retraced o m t i j (omega arith)

  -- the last corner of a turn begins the same turn the other way
  turn-back : (o k : ℕ) → Turn s b n o (suc k) → Turn b s n (iterate s k o) (suc k)
  unfolding iterate
  turn-back o k t =
      record { corners = record { some = omega arith; inside = λ i l. rw (place i l) (t.corners.inside (k - i) (omega arith)); apart = apart }; ends = ends }
    where
      place : (i : ℕ) → i < suc k → iterate b i (iterate s k o) ≡ iterate s (k - i) o
      place i l =
          let e : i + (k - i) ≡ k = omega arith in
          subst (λ (x : ℕ). iterate b i (iterate s x o) ≡ iterate s (k - i) o) e (retraced o (suc k) t i (k - i) (omega arith))

      apart : (i j : ℕ) → i < suc k → j < suc k → iterate b i (iterate s k o) ≡ iterate b j (iterate s k o) → i ≡ j
      apart i j a c e = let q : k - i ≡ k - j = t.corners.apart (k - i) (k - j) (omega arith) (omega arith) (sym (place i a) ∙ e ∙ place j c) in omega arith

      first : iterate b k (iterate s k o) ≡ o
      first = place k (omega arith) ∙ ap (λ (x : ℕ). iterate s x o) (let e : k - k ≡ 0 = omega arith in e)

      last : k < suc k
      last = omega arith

      ends : (b (iterate b k (iterate s k o)) ≡ iterate s k o) ⊎ ((b (iterate b k (iterate s k o)) ≡ no_twin) × (s (iterate s k o) ≡ no_twin))
      ends =
          ⊎_elim (λ e. inl (ap b (first ∙ sym e) ∙ g.back (iterate s k o) (t.corners.inside k last) (rw e (t.corners.inside 0 t.corners.some))))
          (λ e. inr (ap b first ∙ e.1, e.0)) t.ends

  fan-other : (p : ℕ) → fan_by s at n p ≡ true → fan_by b at n p ≡ true
  fan-other p f = let w = fan_by-means g at keeps p f in go w.first w.here (valence at n p) refl w.turn
    where
      go : (o : ℕ) → at o ≡ p → (m : ℕ) → valence at n p ≡ m → Turn s b n o m → fan_by b at n p ≡ true
      go o q zero e t = absurd (not-suc-le-zero t.corners.some)
      go o q (suc k) e t =
          let last : k < suc k = omega arith in
          means-fan_by (turning-back g) at keeps-back p (iterate s k o) (turn_at g o (suc k) t at keeps k last ∙ q)
          (subst (λ (m : ℕ). Turn b s n (iterate s k o) m) (sym e) (turn-back o k t))

fan_by-back : {n : ℕ} {s b : ℕ → ℕ} (g : Turning s b n) (at : ℕ → ℕ) (keeps : Keeps s at n) (p : ℕ) → fan_by b at n p ≡ fan_by s at n p
fan_by-back {n} {s} {b} g at keeps p =
    same_test (fan_by b at n p) (fan_by s at n p) (fan-other (turning-back g) at (keeps-back g at keeps) p) (fan-other g at keeps p)

-- the fans of a mesh
pub fan-back : {n : ℕ} (at : ℕ → ℕ) → Corners n → Simple at n → (p : ℕ) → fan_by (back_around (twin at n) n) at n p ≡ fan at n p
unfolding fan
fan-back at k simple p = fan_by-back (fan-turning at k simple) at (fan-keeps at k simple) p
