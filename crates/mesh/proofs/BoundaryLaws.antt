-- The boundary at a vertex whose corners form one fan: no boundary half-edge at all, or exactly one that leaves it and exactly one that enters it.
-- Half-edge c leaves the vertex of corner c, and half-edge prev c enters it.
--
--   One at n p t             exactly one corner at p has t
--   InnerVertex at n p       no boundary half-edge leaves or enters p
--   BoundaryVertex at n p    exactly one leaves p, and exactly one enters it
use mathlib.Core.Path.{◌≡◌, refl, sym, ap, ◌∙◌, subst}
use mathlib.Core.Bool.{Bool, true, false, not, cond, true≢false}
use mathlib.Core.Logic.{◌⊎◌, inl, inr, ⊎_elim}
use mathlib.Mathlib.Data.Bool.Basic.{eq-false_of_not-eq-true}
use Prim.Native.Nat.{ℕ, zero, suc, ◌<◌}
use native.Mathlib.Nat.{not-suc-le-zero}
use native.Mathlib.Omega.{arith}
use borrow.Author.Tests.{eq-eqb, eqb-true}
use Rattle.finite.proofs.FoldLaws.{lt-suc-cases}
use Rattle.limits.specs.Limits.{no_twin}
use Rattle.corner.specs.Corner.{next, prev}
use Rattle.mesh.specs.HalfEdge.{twin, boundary, Simple}
use Rattle.mesh.specs.Fan.{any_at, valence, on_boundary, around, iterate, fan}
use Rattle.mesh.proofs.CornerLaws.{next-below, not_none}
use Rattle.mesh.proofs.TwinLaws.{twin-cases}
use Rattle.mesh.proofs.CirculationLaws.{Turning, around-in, back_none, back_some, steps-keep, around-ext}
use Rattle.mesh.proofs.VertexLaws.{any-at-hit, any-at-none, any-at-false}
use Rattle.mesh.proofs.TurnLaws.{Covers, turn-first, turn_at, turn-covers}
use Rattle.mesh.proofs.FanLaws.{fan-turn, fan-turning, fan-keeps, fan-means}
use Rattle.mesh.specs.Tables.{Corners}
use Rattle.mesh.specs.Circulation.{back_around, Turn, Run}

pub record One (at : ℕ → ℕ) (n p : ℕ) (t : ℕ → Bool) : Type 0 where
  pub corner : ℕ
  pub below : corner < n
  pub here : at corner ≡ p
  pub has : t corner ≡ true
  pub alone : (c : ℕ) → c < n → at c ≡ p → t c ≡ true → c ≡ corner

pub record InnerVertex (at : ℕ → ℕ) (n p : ℕ) : Type 0 where
  pub leaving : (c : ℕ) → c < n → at c ≡ p → boundary at n c ≡ false
  pub entering : (c : ℕ) → c < n → at c ≡ p → boundary at n (prev c) ≡ false

pub record BoundaryVertex (at : ℕ → ℕ) (n p : ℕ) : Type 0 where
  pub leaving : One at n p (boundary at n)
  pub entering : One at n p (λ c. boundary at n (prev c))

-- ---- in a turn of all the corners at p only the first can have none before it, and only the last none after it
module _ {n : ℕ} {s b : ℕ → ℕ} (g : Turning s b n) (at : ℕ → ℕ) (p o k : ℕ)
    (t : Turn s b n o (suc k)) (cover : Covers s at n p o (suc k)) where
  first-at : (i c : ℕ) → i < suc k → iterate s i o ≡ c → b c ≡ no_twin → c ≡ o
  unfolding iterate
  first-at zero c l e r = sym e
  first-at (suc i) c l e r =
      let live = t.corners.inside i (omega arith) in
      absurd (omega (arith, live, sym (g.back (iterate s i o) live (t.corners.inside (suc i) l)) ∙ ap b e ∙ r, g.few))

  only-first : (c : ℕ) → c < n → at c ≡ p → b c ≡ no_twin → c ≡ o
  only-first c l h = let w = cover c l h in first-at w.0 c w.1 w.2

  only-last : (c : ℕ) → c < n → at c ≡ p → s c ≡ no_twin → c ≡ iterate s k o
  unfolding iterate
  only-last c l h r =
      let w = cover c l h in
      lt-suc-cases w.1
      (λ e. sym w.2 ∙ ap (λ (j : ℕ). iterate s j o) e)
      (λ q. absurd (omega (arith, t.corners.inside (suc w.0) (omega arith), ap s w.2 ∙ r, g.few)))

module _ {n : ℕ} (at : ℕ → ℕ) (k : Corners n) (simple : Simple at n) where
  abbrev s : ℕ → ℕ
  s = around (twin at n) n

  abbrev b : ℕ → ℕ
  b = back_around (twin at n) n

  -- a half-edge that leaves is boundary exactly when no corner is before its corner, and one that enters when none is after it
  pub leaves : (c : ℕ) → c < n → boundary at n c ≡ true → b c ≡ no_twin
  unfolding boundary
  leaves c l e = back_none (twin at n) n c l (eqb-true (twin at n c) no_twin e)

  pub leaves-back : (c : ℕ) → c < n → b c ≡ no_twin → boundary at n c ≡ true
  unfolding boundary
  leaves-back c l e =
      ⊎_elim
      (λ w.
      let some = back_some (twin at n) n c l (not_none k (twin at n c) w.0) in
      absurd (not_none k (next (twin at n c)) (next-below k (twin at n c) w.0) (sym some ∙ e)))
      (λ w. eq-eqb (twin at n c) no_twin w.0)
      (twin-cases at n c)

  pub enters : (c : ℕ) → c < n → boundary at n (prev c) ≡ true → s c ≡ no_twin
  unfolding boundary
  enters c l e = around-in (twin at n) n c l ∙ eqb-true (twin at n (prev c)) no_twin e

  pub enters-back : (c : ℕ) → c < n → s c ≡ no_twin → boundary at n (prev c) ≡ true
  unfolding boundary
  enters-back c l e = eq-eqb (twin at n (prev c)) no_twin (sym (around-in (twin at n) n c l) ∙ e)

  module _ (p o m : ℕ) (here : at o ≡ p) (t : Turn s b n o (suc m)) (cover : Covers s at n p o (suc m)) where
    first_below : o < n
    first_below = turn-first (fan-turning at k simple) o (suc m) t

    last-below : iterate s m o < n
    last-below = t.corners.inside m (omega arith)

    none_before : (c : ℕ) → c < n → at c ≡ p → boundary at n c ≡ true → c ≡ o
    none_before c l h e = only-first (fan-turning at k simple) at p o m t cover c l h (leaves c l e)

    none_after : (c : ℕ) → c < n → at c ≡ p → boundary at n (prev c) ≡ true → c ≡ iterate s m o
    none_after c l h e = only-last (fan-turning at k simple) at p o m t cover c l h (enters c l e)

    -- a closed turn
    inner : s (iterate s m o) ≡ o → InnerVertex at n p
    inner u = record {
      leaving = λ c l h. eq-false_of_not-eq-true (λ e.
          let before : b o ≡ iterate s m o = rw u at ((fan-turning at k simple).back (iterate s m o) last-below (rw u first_below)) in
          not_none k (iterate s m o) last-below (sym before ∙ ap b (sym (none_before c l h e)) ∙ leaves c l e));
      entering = λ c l h. eq-false_of_not-eq-true (λ e.
          not_none k o first_below (sym u ∙ ap s (sym (none_after c l h e)) ∙ enters c l e));
    }

    -- a chain
    outer : s (iterate s m o) ≡ no_twin → b o ≡ no_twin → BoundaryVertex at n p
    outer u v = record {
      leaving = record { corner = o; below = first_below; here = here; has = leaves-back o first_below v; alone = none_before };
      entering = record {
        corner = iterate s m o;
        below = last-below;
        here = turn_at (fan-turning at k simple) o (suc m) t at (fan-keeps at k simple) m (omega arith) ∙ here;
        has = enters-back (iterate s m o) last-below u;
        alone = none_after;
      };
    }

  kinds : (p o m : ℕ) → at o ≡ p → Turn s b n o m → Covers s at n p o m → InnerVertex at n p ⊎ BoundaryVertex at n p
  unfolding iterate
  kinds p o zero here t cover = absurd (not-suc-le-zero t.corners.some)
  kinds p o (suc m) here t cover =
      ⊎_elim (λ u. inl (inner p o m here t cover u)) (λ u. inr (outer p o m here t cover u.0 u.1)) t.ends

  pub fan-boundary : (p : ℕ) → fan at n p ≡ true → InnerVertex at n p ⊎ BoundaryVertex at n p
  fan-boundary p f = let w = fan-means at k simple p f in kinds p w.first (valence at n p) w.here w.turn w.covers

  -- a boundary half-edge enters p exactly when one leaves it
  pub boundary-entering : (p : ℕ) → fan at n p ≡ true → on_boundary at n p ≡ any_at at n p (λ c. boundary at n (prev c))
  unfolding on_boundary
  boundary-entering p f =
      ⊎_elim
      (λ w. any-at-none at n p (boundary at n) w.leaving ∙ sym (any-at-none at n p (λ c. boundary at n (prev c)) w.entering))
      (λ w.
      let a = w.leaving in
      let b = w.entering in
      any-at-hit at n p (boundary at n) a.corner a.below a.here a.has
      ∙ sym (any-at-hit at n p (λ c. boundary at n (prev c)) b.corner b.below b.here b.has))
      (fan-boundary p f)

  pub inner-vertex : (p : ℕ) → fan at n p ≡ true → on_boundary at n p ≡ false → InnerVertex at n p
  unfolding on_boundary
  inner-vertex p f e =
      ⊎_elim
      (λ w. w)
      (λ w.
      let a = w.leaving in
      absurd (true≢false (sym a.has ∙ any-at-false at n p (boundary at n) e a.corner a.below a.here)))
      (fan-boundary p f)

  pub boundary-vertex : (p : ℕ) → fan at n p ≡ true → on_boundary at n p ≡ true → BoundaryVertex at n p
  unfolding on_boundary
  boundary-vertex p f e =
      ⊎_elim (λ w. absurd (true≢false (sym e ∙ any-at-none at n p (boundary at n) w.leaving))) (λ w. w) (fan-boundary p f)

  -- ---- whether the walk on from one corner comes back to it
  run-inner : (c m : ℕ) → fan at n (at c) ≡ true → Run s n c (suc m) c → InnerVertex at n (at c)
  unfolding fan iterate
  run-inner c m f r =
      let t : Turn s b n c (suc m) = record { corners = r.corners; ends = inl r.ends } in
      let all = eqb-true (suc m) (valence at n (at c)) (sym (fan-turn (fan-turning at k simple) at (fan-keeps at k simple) c (suc m) t) ∙ f) in
      inner (at c) c m refl t (turn-covers (fan-turning at k simple) c (suc m) t at (fan-keeps at k simple) all) r.ends

  run_enters : (c m : ℕ) → Run s n c (suc m) no_twin → any_at at n (at c) (λ d. boundary at n (prev d)) ≡ true
  unfolding iterate
  run_enters c m r =
      let last = r.corners.inside m (omega arith) in
      any-at-hit at n (at c) (λ d. boundary at n (prev d)) (iterate s m c) last
      (steps-keep (fan-keeps at k simple) c m (λ j l. r.corners.inside j (omega arith)))
      (enters-back (iterate s m c) last r.ends)

  -- the corners at the vertex of c form a fan: it is on the boundary exactly when the walk on from c does not come back to c
  pub run-boundary : (c m : ℕ) (closed : Bool) → fan at n (at c) ≡ true → Run s n c m (cond closed c no_twin) → not closed ≡ on_boundary at n (at c)
  unfolding on_boundary
  run-boundary c zero closed f r = absurd (not-suc-le-zero r.corners.some)
  run-boundary c (suc m) true f r = sym (any-at-none at n (at c) (boundary at n) (run-inner c m f r).leaving)
  run-boundary c (suc m) false f r = sym (boundary-entering (at c) f ∙ run_enters c m r)

  -- the same with a table of the twins
  pub table-boundary : (tw : ℕ → ℕ) → ((c : ℕ) → c < n → tw c ≡ twin at n c)
      → (c m : ℕ) (closed : Bool) → fan at n (at c) ≡ true → Run (around tw n) n c m (cond closed c no_twin) → not closed ≡ on_boundary at n (at c)
  table-boundary tw holds c m closed f r =
      run-boundary c m closed f (subst (λ (t : ℕ → ℕ). Run t n c m (cond closed c no_twin)) (around-ext k holds) r)
