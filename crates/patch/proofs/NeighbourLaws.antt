-- The sums of the corner masks: over the edge neighbours and the vertices across (rule B9), and over the two boundary neighbours (rule B10).
use mathlib.Core.Path.{◌≡◌, refl, sym, ap, ap₂, ◌∙◌}
use mathlib.Core.Bool.{Bool, true, false, cond, ◌&&◌}
use mathlib.Core.Logic.{⊎_elim}
use Prim.Native.Nat.{ℕ, zero, suc, ◌<◌}
use native.Mathlib.Omega.{arith}
use lib.Dec.{eqb}
use lib.IntN.{ℤ, pos, ◌+ℤ◌, ◌*ℤ◌}
use borrow.Author.Tests.{eq-eqb, eqb-true, eqb-false}
use Rattle.integer.proofs.Difference.{eq-by, int, nat, ◌⊕◌, ◌⊛◌, prove-eq, read-eq}
use Rattle.finite.specs.Fold.{fold_below, sum_below_ℤ}
use Rattle.finite.proofs.FoldLaws.{fold-ext, fold-op, fold-only}
use Rattle.finite.proofs.AnyAll.{and-true}
use Rattle.finite.proofs.Gather.{gather-along}
use Rattle.finite.proofs.IntegerSum.{sum_ℤ-monoid}
use Rattle.corner.specs.Corner.{next, across, prev}
use Rattle.mesh.specs.HalfEdge.{twin, boundary, Simple}
use Rattle.mesh.specs.Fan.{valence, on_boundary, around, iterate, fan}
use Rattle.mesh.proofs.CornerLaws.{next-below, not_none}
use Rattle.mesh.proofs.TwinLaws.{twin-cases, twin-ends}
use Rattle.mesh.proofs.CirculationLaws.{around-in, back_some}
use Rattle.mesh.proofs.TurnLaws.{turn-first, turn_at}
use Rattle.mesh.proofs.FanLaws.{fan-turning, fan-keeps, fan-means}
use Rattle.mesh.proofs.BoundaryLaws.{One, BoundaryVertex, inner-vertex}
use Rattle.mesh.specs.Tables.{Corners}
use Rattle.mesh.specs.Circulation.{back_around, Turn}
use Rattle.patch.specs.Point.{Shape, View, x, sharp, sum_at, sharp_sum, ring_sum}

-- a half-edge that is not sharp has a twin
pub twin-below : (G : Shape) (c : ℕ) → sharp G c ≡ false → twin G.at G.n c < G.n
unfolding sharp boundary
twin-below G c e = ⊎_elim (λ w. w.0) (λ w. absurd (eqb-false _ _ e w.0)) (twin-cases G.at G.n c)

-- ---- the two boundary neighbours
split : (t u v : Bool) (a b : ℤ) → cond t (cond u a (pos 0) +ℤ cond v b (pos 0)) (pos 0) ≡ cond (t && u) a (pos 0) +ℤ cond (t && v) b (pos 0)
split true u v a b = refl
split false u v a b = refl

-- of the corners at p the one with t is left
sum_one : {n : ℕ} {at : ℕ → ℕ} {p : ℕ} {t : ℕ → Bool} (w : One at n p t) (f : ℕ → ℤ)
    → sum_below_ℤ (λ c. cond (eqb (at c) p && t c) (f c) (pos 0)) n ≡ f w.corner
sum_one {n} {at} {p} {t} w f =
    fold-only sum_ℤ-monoid (λ c. eqb (at c) p && t c) f n w.corner w.below
    (ap₂ ◌&&◌ (eq-eqb (at w.corner) p w.here) w.has)
    (λ c l e. let b = and-true (eqb (at c) p) (t c) e in w.alone c l (eqb-true (at c) p b.0) b.1)

-- r and r' of rule B10: the end of the boundary half-edge that leaves p, and the start of the one that enters it
pub sharp-neighbours : (S : View) (p : ℕ) (w : BoundaryVertex S.shape.at S.shape.n p)
    → sharp_sum S p ≡ x S (next w.leaving.corner) +ℤ x S (prev w.entering.corner)
unfolding sharp_sum sharp
sharp-neighbours S p w =
    fold-ext (pos 0) ◌+ℤ◌ S.shape.n (λ c _.
    split (eqb (S.shape.at c) p) (sharp S.shape c) (boundary S.shape.at S.shape.n (prev c)) (x S (next c)) (x S (prev c)))
    ∙ fold-op sum_ℤ-monoid _ _ S.shape.n
    ∙ ap₂ ◌+ℤ◌ (sum_one w.leaving (λ c. x S (next c))) (sum_one w.entering (λ c. x S (prev c)))

-- ---- the edge neighbours and the vertices across, about an inner vertex
-- a closed turn of m corners: N i is the next neighbour of corner i, which is the previous one of the corner before it
turned : (N A : ℕ → ℤ) (m : ℕ)
    → sum_below_ℤ (λ i. pos 2 *ℤ N i +ℤ pos 2 *ℤ N (suc i) +ℤ A i) m +ℤ pos 2 *ℤ N 0 ≡ sum_below_ℤ (λ i. pos 4 *ℤ N i +ℤ A i) m +ℤ pos 2 *ℤ N m
unfolding fold_below
turned N A zero = refl
turned N A (suc m) =
    let s = int (sum_below_ℤ (λ i. pos 2 *ℤ N i +ℤ pos 2 *ℤ N (suc i) +ℤ A i) m) in
    let t = int (sum_below_ℤ (λ i. pos 4 *ℤ N i +ℤ A i) m) in
    prove-eq
    (s ⊕ (nat 2 ⊛ int (N m) ⊕ nat 2 ⊛ int (N (suc m)) ⊕ int (A m)) ⊕ nat 2 ⊛ int (N 0))
    (t ⊕ (nat 4 ⊛ int (N m) ⊕ int (A m)) ⊕ nat 2 ⊛ int (N (suc m)))
    (omega (arith, read-eq (s ⊕ nat 2 ⊛ int (N 0)) (t ⊕ nat 2 ⊛ int (N m)) (turned N A m)))

+ℤ-cancel : (a b c d : ℤ) → a +ℤ c ≡ b +ℤ d → d ≡ c → a ≡ b
+ℤ-cancel a b c d h e = eq-by a b (omega (arith, read-eq (int a ⊕ int c) (int b ⊕ int c) (h ∙ ap (λ (z : ℤ). b +ℤ z) e)))

module _ (S : View) (k : Corners S.shape.n) (simple : Simple S.shape.at S.shape.n) (p : ℕ)
    (f : fan S.shape.at S.shape.n p ≡ true) (e : on_boundary S.shape.at S.shape.n p ≡ false) where
  abbrev n : ℕ
  n = S.shape.n

  abbrev at : ℕ → ℕ
  at = S.shape.at

  abbrev s : ℕ → ℕ
  s = around (twin at n) n

  -- the turn of the corners at p
  abbrev o : ℕ
  o = (fan-means at k simple p f).first

  abbrev m : ℕ
  m = valence at n p

  turn : Turn s (back_around (twin at n) n) n o m
  turn = (fan-means at k simple p f).turn

  turn-here : (i : ℕ) → i < m → at (iterate s i o) ≡ p
  turn-here i l = turn_at (fan-turning at k simple) o m turn at (fan-keeps at k simple) i l ∙ (fan-means at k simple p f).here

  -- the step from the last corner leads to the first
  closed : iterate s m o ≡ o
  unfolding sharp
  closed =
      let l = turn-first (fan-turning at k simple) o m turn in
      let t = twin-below S.shape o ((inner-vertex at k simple p f e).leaving o l (fan-means at k simple p f).here) in
      ⊎_elim (λ q. q) (λ q.
      let b = back_some (twin at n) n o l (not_none k _ t) in
      absurd (not_none k _ (next-below k _ t) (sym b ∙ q.1)))
      turn.ends

  -- the previous neighbour in a face at p is the next one in the face after it
  prev-next-around : (c : ℕ) → c < n → at c ≡ p → x S (prev c) ≡ x S (next (s c))
  unfolding sharp
  prev-next-around c l h =
      let t = twin-below S.shape (prev c) ((inner-vertex at k simple p f e).entering c l h) in
      ap S.value (sym (ap (λ (d : ℕ). at (next d)) (around-in (twin at n) n c l) ∙ (twin-ends at n (prev c) k t).1))

  along : (g : ℕ → ℤ) → sum_at S.shape p g ≡ sum_below_ℤ (λ i. g (iterate s i o)) m
  along g =
      let c = turn.corners in
      gather-along sum_ℤ-monoid n m at (λ i. iterate s i o) p c.inside turn-here c.apart (fan-means at k simple p f).covers g

  -- four times the edge neighbours and the vertices across (rule B9): each edge neighbour is the next of one corner at p
  pub ring-neighbours : ring_sum S p ≡ sum_at S.shape p (λ c. pos 4 *ℤ x S (next c) +ℤ x S (across c))
  unfolding ring_sum iterate
  ring-neighbours =
      let N : ℕ → ℤ = λ i. x S (next (iterate s i o)) in
      let A : ℕ → ℤ = λ i. x S (across (iterate s i o)) in
      along _
      ∙ fold-ext (pos 0) ◌+ℤ◌ m (λ i l.
      ap (λ (z : ℤ). pos 2 *ℤ N i +ℤ pos 2 *ℤ z +ℤ A i) (prev-next-around (iterate s i o) (turn.corners.inside i l) (turn-here i l)))
      ∙ +ℤ-cancel _ _ _ _ (turned N A m) (ap (λ (c : ℕ). pos 2 *ℤ x S (next c)) closed)
      ∙ sym (along _)
