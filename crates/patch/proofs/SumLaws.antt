-- Sums over the corners at a vertex, as the code makes them: a table to which a pass over the corners adds, their size, and a count as a test.
--
--   Passed z op at f g c first second   two tables with a place for each vertex, which had z at each, after a pass over c corners has added f c to the
--                      one and g c to the other at the vertex of each
use mathlib.Core.Path.{◌≡◌, refl, sym, ap, ◌∙◌}
use mathlib.Core.Bool.{Bool, true, false, not, cond, ◌||◌, or-true, or-false}
use mathlib.Core.List.{List}
use Prim.Native.Nat.{ℕ, zero, suc, ◌+◌, ◌*◌, ◌≤◌, ◌<◌, zero-le}
use native.Mathlib.Nat.{add-zero, lt_of_lt_of_le}
use native.Mathlib.Omega.{arith}
use lib.Dec.{eqb}
use lib.IntN.{ℤ, pos, nat_abs, ◌+ℤ◌}
use lib.ListN.{length, get_or, set, length-set, replicate, length-replicate, get_or-replicate}
use mir.Syntax.{w64}
use mir.Val.{SFits, to_z, of_z}
use mir.Facts.{to_z-of_z}
use borrow.Author.Tests.{ne_eqb}
use Rattle.integer.proofs.Laws.{sfits-abs, sfits-+}
use Rattle.finite.specs.Fold.{fold_below, indicator, gather}
use Rattle.finite.proofs.FoldLaws.{Monoid, fold-ext, bool_cases}
use Rattle.finite.proofs.Gather.{Gathered, gathered_none, gathered-more}
use Rattle.limits.specs.Limits.{max_vertices, max_coordinate}
use Rattle.mesh.specs.Fan.{any_at, valence}
use Rattle.mesh.specs.Tables.{Holds}
use Rattle.mask.proofs.LinearLaws.{bounds}
use Rattle.patch.proofs.Related.{sum-at}

-- ---- a pass over the corners, which adds f c to one table and g c to another: none yet, one more, and all
pub record Passed {A : Type 0} (z : A) (op : A → A → A) (at : ℕ → ℕ) (f g : ℕ → A) (c : ℕ) (first second : List A) : Type 0 where
  pub first-long : max_vertices ≤ length first
  pub second-long : max_vertices ≤ length second
  pub first-is : Gathered z op at f c max_vertices first
  pub second_is : Gathered z op at g c max_vertices second

module _ {A : Type 0} {z : A} {op : A → A → A} {at : ℕ → ℕ} {f g : ℕ → A} where
  pub passed-blank : {first second : List A} → max_vertices ≤ length first → max_vertices ≤ length second → Holds z first max_vertices (λ p. z)
      → Holds z second max_vertices (λ p. z) → Passed z op at f g 0 first second
  passed-blank {first} {second} a b h k = record {
    first-long = a;
    second-long = b;
    first-is = gathered_none z op at f max_vertices first h;
    second_is = gathered_none z op at g max_vertices second k;
  }

  pub passed-none : Passed z op at f g 0 (replicate max_vertices z) (replicate max_vertices z)
  passed-none =
      let long : max_vertices ≤ length (replicate max_vertices z) = rw length-replicate (omega arith) in
      let blank : Holds z (replicate max_vertices z) max_vertices (λ p. z) = λ p l. get_or-replicate max_vertices p z z l in
      passed-blank long long blank blank

  pub passed-more : {c p : ℕ} {v w : A} {first second : List A} → Monoid z op → Passed z op at f g c first second → p < max_vertices
      → p ≡ at c → v ≡ op (get_or first p z) (f c) → w ≡ op (get_or second p z) (g c) → Passed z op at f g (c + 1) (set first p v) (set second p w)
  passed-more {c} {p} {v} {w} {first} {second} m s l e q r = record {
    first-long = rw length-set s.first-long;
    second-long = rw length-set s.second-long;
    first-is = gathered-more m at f max_vertices c p v first (lt_of_lt_of_le l s.first-long) e q s.first-is;
    second_is = gathered-more m at g max_vertices c p w second (lt_of_lt_of_le l s.second-long) e r s.second_is;
  }

-- ---- their sizes
pub cond-size : (b : Bool) (z : ℤ) (B : ℕ) → nat_abs z ≤ B → nat_abs (cond b z (pos 0)) ≤ B
cond-size true z B h = h
cond-size false z B h = zero-le

module _ (at : ℕ → ℕ) (p : ℕ) where
  pub gather_ext : {A : Type 0} (z : A) (op : A → A → A) {f g : ℕ → A} (n : ℕ) → ((c : ℕ) → c < n → f c ≡ g c) → gather z op at f n p ≡ gather z op at g n p
  gather_ext {A} z op n h = fold-ext z op n (λ c l. ap (λ (x : A). cond (eqb (at c) p) x z) (h c l))

  -- terms within B, one for each corner at p
  pub gather-size : (B : ℕ) (f : ℕ → ℤ) (n : ℕ) → ((c : ℕ) → c < n → nat_abs (f c) ≤ B) → nat_abs (gather (pos 0) ◌+ℤ◌ at f n p) ≤ B * valence at n p
  unfolding valence
  gather-size B f n h = sum-at (bounds B) at p (λ c. 1) f f n (λ c l _. omega (arith, h c l))

  -- terms of at most 1, one for each corner at p
  pub gather-few : (f : ℕ → ℕ) (n : ℕ) → ((c : ℕ) → f c ≤ 1) → gather 0 ◌+◌ at f n p ≤ n
  unfolding fold_below
  gather-few f zero h = omega arith
  gather-few f (suc n) h = bool_cases (eqb (at n) p) (λ e. rw e (omega (arith, gather-few f n h, h n))) (λ e. rw e (omega (arith, gather-few f n h)))

  pub valence-few : (n : ℕ) → valence at n p ≤ n
  unfolding valence
  valence-few n = gather-few (λ c. 1) n (λ c. omega arith)

  -- terms within five coordinates, as many as there are corners
  pub gather-bound : (f : ℕ → ℤ) (n : ℕ) → ((c : ℕ) → c < n → nat_abs (f c) ≤ 5 * max_coordinate)
      → nat_abs (gather (pos 0) ◌+ℤ◌ at f n p) ≤ 5 * max_coordinate * n
  gather-bound f n h = omega (arith, gather-size (5 * max_coordinate) f n h, valence-few n)

  pub gathered-bound : (f : ℕ → ℤ) (n : ℕ) (table : List ℤ) → Gathered (pos 0) ◌+ℤ◌ at f n max_vertices table → p < max_vertices
      → ((c : ℕ) → c < n → nat_abs (f c) ≤ 5 * max_coordinate) → nat_abs (get_or table p (pos 0)) ≤ 5 * max_coordinate * n
  gathered-bound f n table s l h = rw (s p l) (gather-bound f n h)

  pub gathered-few : (f : ℕ → ℕ) (n : ℕ) (table : List ℕ) → Gathered 0 ◌+◌ at f n max_vertices table → p < max_vertices → ((c : ℕ) → f c ≤ 1)
      → get_or table p 0 ≤ n
  gathered-few f n table s l h = rw (s p l) (gather-few f n h)

  -- no corner at p has t exactly when their count is 0
  pub count_none : (t : ℕ → Bool) (n : ℕ) → eqb (gather 0 ◌+◌ at (λ c. indicator (t c)) n p) 0 ≡ not (any_at at n p t)
  unfolding fold_below
  count_none t zero = refl
  count_none t (suc n) =
      ap (λ (m : ℕ). eqb (gather 0 ◌+◌ at (λ c. indicator (t c)) n p + m) 0) (term (eqb (at n) p) (t n))
      ∙ step (gather 0 ◌+◌ at (λ c. indicator (t c)) n p) (any_at at n p t) (cond (eqb (at n) p) (t n) false) (count_none t n)
    where
      term : (b u : Bool) → cond b (indicator u) 0 ≡ indicator (cond b u false)
      term true u = refl
      term false u = refl

      step : (m : ℕ) (x u : Bool) → eqb m 0 ≡ not x → eqb (m + indicator u) 0 ≡ not (x || u)
      step m x true e = ne_eqb (m + 1) 0 (λ h. omega arith) ∙ sym (ap not (or-true x))
      step m x false e = rw (add-zero, or-false) e

-- ---- a term within five coordinates added to a sum of at most 1024 such, in 64 bits
module _ {n : ℕ} (r x : ℤ) (few : n ≤ 1024) (sum : nat_abs r ≤ 5 * max_coordinate * n) (term : nat_abs x ≤ 5 * max_coordinate) where
  sum-fits : SFits w64 r
  sum-fits = sfits-abs r (omega arith)

  term-fits : SFits w64 x
  term-fits = sfits-abs x (omega arith)

  pub added-fits : SFits w64 (to_z w64 (of_z w64 r) +ℤ to_z w64 (of_z w64 x))
  added-fits = simp (to_z-of_z sum-fits, to_z-of_z term-fits) (sfits-+ r x (omega arith))

  pub added-is : to_z w64 (of_z w64 (to_z w64 (of_z w64 r) +ℤ to_z w64 (of_z w64 x))) ≡ r +ℤ x
  added-is = to_z-of_z added-fits ∙ simp (to_z-of_z sum-fits, to_z-of_z term-fits)
