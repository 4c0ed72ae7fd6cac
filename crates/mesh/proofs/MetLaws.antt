-- Counting the corners that circulating meets tells one closed turn or one chain: they are as many as the corners at the vertex exactly when these
-- form one of the two. `fan` says the same of one vertex, and row 9 of all.
use mathlib.Core.Path.{◌≡◌, refl, sym, ap, ◌∙◌}
use mathlib.Core.Bool.{true, false}
use mathlib.Core.Logic.{◌⊎◌, inl, inr, ⊎_elim}
use mathlib.Core.List.{List}
use Prim.Native.Nat.{ℕ, suc, ◌-◌, ◌<◌}
use native.Mathlib.Omega.{arith}
use lib.Dec.{eqb}
use borrow.Author.Tests.{eq-eqb, eqb-true}
use Rattle.mesh.specs.HalfEdge.{twin, Simple}
use Rattle.mesh.specs.Fan.{valence, around, iterate, fan}
use Rattle.mesh.specs.Refusal.{fan_broken}
use Rattle.mesh.specs.Tables.{Corners, vertex_of, twin_of, Twinned}
use Rattle.mesh.specs.Circulation.{back_around, Turn, Circulated, Ordered, ClosedTurn, OneChain}
use Rattle.mesh.proofs.TurnLaws.{turn_at}
use Rattle.mesh.proofs.FanLaws.{OneTurn, fan-turning, fan-keeps, fan-means, means-fan}
use Rattle.mesh.proofs.BoundaryLaws.{leaves, leaves-back, enters, enters-back}
use Rattle.mesh.proofs.AcceptedLaws.{fan-false, fan-none}
use Rattle.mesh.proofs.ConnectedLaws.{corners-whole, fan-told}

module _ {n : ℕ} (at : ℕ → ℕ) (k : Corners n) (simple : Simple at n) where
  abbrev s : ℕ → ℕ
  s = around (twin at n) n

  abbrev b : ℕ → ℕ
  b = back_around (twin at n) n

  -- ---- a turn of all the corners, as either of the two
  ordered : (p : ℕ) (w : OneTurn s b at n p) → Ordered at n p w.first
  ordered p w = record {
    corners = w.turn.corners;
    here = λ i l. turn_at (fan-turning at k simple) w.first (valence at n p) w.turn at (fan-keeps at k simple) i l ∙ w.here;
    all = w.covers;
  }

  either : (p : ℕ) → OneTurn s b at n p → ClosedTurn at n p ⊎ OneChain at n p
  unfolding iterate
  either p w =
      let c = w.turn.corners in
      ⊎_elim
      (λ e. inl (record { first = w.first; order = ordered p w; back = e }))
      (λ e. inr (record {
        first = w.first;
        order = ordered p w;
        leaving = leaves-back at k simple w.first (c.inside 0 c.some) e.1;
        entering = λ i q.
            enters-back at k simple (iterate s i w.first) (c.inside i (omega arith)) (ap (λ (j : ℕ). iterate s j w.first) q ∙ e.0);
      }))
      w.turn.ends

  -- ---- and back
  closed-turn : (p : ℕ) (w : ClosedTurn at n p) → Turn s b n w.first (valence at n p)
  closed-turn p w = record { corners = w.order.corners; ends = inl w.back }

  chain-turn : (p : ℕ) (w : OneChain at n p) → Turn s b n w.first (valence at n p)
  unfolding iterate
  chain-turn p w =
      let c = w.order.corners in
      let last = valence at n p - 1 in
      let full : suc last ≡ valence at n p = omega (arith, c.some) in
      let over = enters at k simple (iterate s last w.first) (c.inside last (omega (arith, full))) (w.entering last full) in
      record {
        corners = c;
        ends = inr (ap (λ (j : ℕ). iterate s j w.first) (sym full) ∙ over, leaves at k simple w.first (c.inside 0 c.some) w.leaving);
      }

  -- ---- the corners at p form a fan exactly when they form one closed turn or one chain
  pub fan-one : (p : ℕ) → fan at n p ≡ true → ClosedTurn at n p ⊎ OneChain at n p
  fan-one p f = either p (fan-means at k simple p f)

  pub one-fan : (p : ℕ) → ClosedTurn at n p ⊎ OneChain at n p → fan at n p ≡ true
  unfolding iterate
  one-fan p =
      ⊎_elim
      (λ w. means-fan at k simple p w.first (w.order.here 0 w.order.corners.some) (closed-turn p w))
      (λ w. means-fan at k simple p w.first (w.order.here 0 w.order.corners.some) (chain-turn p w))

  -- ---- so 9 is met by no vertex below v exactly when the corners at each of them do
  pub whole-ones : (v : ℕ) → fan_broken at n v ≡ false → (p : ℕ) → p < v → ClosedTurn at n p ⊎ OneChain at n p
  whole-ones v e p l = fan-one p (fan-false at n v e p l)

  pub ones-whole : (v : ℕ) → ((p : ℕ) → p < v → ClosedTurn at n p ⊎ OneChain at n p) → fan_broken at n v ≡ false
  ones-whole v h = fan-none at n v (λ p l. one-fan p (h p l))

-- ---- circulating from c by the listed twins meets m corners: they are all the corners at its vertex exactly when these form one closed turn or one chain
module _ {faces twins : List ℕ} {n : ℕ} (k : Twinned faces twins n) (c m : ℕ) (w : Circulated (twin_of twins) n c m) where
  abbrev p : ℕ
  p = vertex_of faces c

  told : eqb m (valence (vertex_of faces) n p) ≡ fan (vertex_of faces) n p
  told = fan-told k c p refl m w

  pub met_all : m ≡ valence (vertex_of faces) n p → ClosedTurn (vertex_of faces) n p ⊎ OneChain (vertex_of faces) n p
  met_all e = fan-one (vertex_of faces) (corners-whole k) k.simple p (sym told ∙ eq-eqb m (valence (vertex_of faces) n p) e)

  pub all-met : ClosedTurn (vertex_of faces) n p ⊎ OneChain (vertex_of faces) n p → m ≡ valence (vertex_of faces) n p
  all-met o = eqb-true m (valence (vertex_of faces) n p) (told ∙ one-fan (vertex_of faces) (corners-whole k) k.simple p o)
