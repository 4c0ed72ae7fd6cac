-- The tables of an accepted mesh: what their entries are made of, and the sizes of these.
use mathlib.Core.Path.{◌≡◌, refl, sym, ap, ◌∙◌, subst}
use mathlib.Core.Bool.{Bool, true, false, cond}
use mathlib.Core.List.{List}
use Prim.Native.Nat.{ℕ, ◌+◌, ◌*◌, ◌≤◌, ◌<◌}
use native.Mathlib.Omega.{arith}
use lib.Dec.{eqb, ltb}
use lib.IntN.{ℤ, pos, nat_abs, ◌+ℤ◌, ◌*ℤ◌}
use lib.ListN.{length, get_or, replicate, length-replicate, get_or-replicate, get_or-eq_default}
use borrow.Author.Tests.{not-false, ltb-true, ltb-false}
use Rattle.integer.proofs.Laws.{abs-+}
use Rattle.finite.proofs.FoldLaws.{bool_cases}
use Rattle.limits.specs.Limits.{max_vertices, max_faces, max_coordinate, max_valence}
use Rattle.corner.specs.Corner.{turn, next, prev, across}
use Rattle.mesh.specs.HalfEdge.{boundary}
use Rattle.mesh.specs.Fan.{on_boundary}
use Rattle.mesh.specs.IndexedMesh.{IndexedMesh, corners, at, coordinate}
use Rattle.mesh.specs.WellFormed.{WellFormed}
use Rattle.mesh.proofs.CornerLaws.{turn_below}
use Rattle.mesh.proofs.BoundaryLaws.{boundary-vertex}
use Rattle.mesh.proofs.SizeLaws.{sized-indices}
use Rattle.mesh.proofs.AcceptedLaws.{accepted-corners}
use Rattle.mesh.specs.Tables.{Corners, Holds, Indices}
use Rattle.mask.specs.Mask.{corner_weight}
use Rattle.mask.proofs.LinearLaws.{bounds, ring}
use Rattle.control.specs.Control.{value_at, values_after}
use Rattle.control.proofs.ValuesLaws.{value-told, values-small}
use Rattle.patch.specs.Point.{Shape, x, ring_term, sharp_term, valence_at, inside, weight, sharp, sharp_sum, ring_sum}
use Rattle.patch.specs.Patch.{shape, view}
use Rattle.patch.specs.Lists.{shape_of, ends, next_counts, prev_counts, no_ends, ring_term_by, sharp_term_by, ring_sum_by, sharp_sum_by}
use Rattle.patch.specs.declared.counts.Ends.{Ends}
use Rattle.patch.specs.PatchTables.{ends_of, Bounded, Valued}
use Rattle.patch.proofs.MaskLaws.{value-small}
use Rattle.patch.proofs.NeighbourLaws.{sharp-neighbours}
use Rattle.patch.proofs.SumLaws.{cond-size, gather-size, gather_ext}

-- a table as it is made: the same number at each vertex
pub same-all : {A : Type 0} (d z : A) → Holds d (replicate max_vertices z) max_vertices (λ p. z)
same-all d z p l = get_or-replicate max_vertices p z d l

-- ---- the terms of the two sums
ring-three : (e f g : ℤ) → nat_abs e ≤ max_coordinate → nat_abs f ≤ max_coordinate → nat_abs g ≤ max_coordinate
    → nat_abs (pos 2 *ℤ e +ℤ pos 2 *ℤ f +ℤ g) ≤ 5 * max_coordinate
ring-three e f g he hf hg = ring (bounds max_coordinate) {e = e} {f = f} {g = g} {e' = e} {f' = f} {g' = g} he hf hg

-- whichever of the two neighbours count
sharp-two : (leaves enters : Bool) (e f : ℤ) → nat_abs e ≤ max_coordinate → nat_abs f ≤ max_coordinate
    → nat_abs (cond leaves e (pos 0) +ℤ cond enters f (pos 0)) ≤ 5 * max_coordinate
sharp-two leaves enters e f he hf =
    omega (arith, abs-+ (cond leaves e (pos 0)) (cond enters f (pos 0)), cond-size leaves e max_coordinate he, cond-size enters f max_coordinate hf)

module _ {values : List ℤ} (b : Bounded values) (k c : ℕ) where
  pub ring-by-size : nat_abs (ring_term_by values k c) ≤ 5 * max_coordinate
  ring-by-size =
      ring-three (value_at values k (next c)) (value_at values k (prev c)) (value_at values k (across c))
      (value-small b k (next c)) (value-small b k (prev c)) (value-small b k (across c))

  pub sharp-by-size : (ends : List Ends) → nat_abs (sharp_term_by values ends k c) ≤ 5 * max_coordinate
  sharp-by-size ends =
      let e = get_or ends c no_ends in
      sharp-two (next_counts e) (prev_counts e) (value_at values k (next c)) (value_at values k (prev c)) (value-small b k (next c)) (value-small b k (prev c))

-- which neighbours count, of ends that are made so
next-counts : (a b : Bool) → next_counts (ends a b) ≡ a
next-counts true true = refl
next-counts true false = refl
next-counts false true = refl
next-counts false false = refl

prev-counts : (a b : Bool) → prev_counts (ends a b) ≡ b
prev-counts true true = refl
prev-counts true false = refl
prev-counts false true = refl
prev-counts false false = refl

same-ring : {e f g e' f' g' : ℤ} → e ≡ e' → f ≡ f' → g ≡ g' → pos 2 *ℤ e +ℤ pos 2 *ℤ f +ℤ g ≡ pos 2 *ℤ e' +ℤ pos 2 *ℤ f' +ℤ g'
same-ring p q r = cc

same-sharp : {a b a' b' : Bool} {e f e' f' : ℤ} → a ≡ a' → b ≡ b' → e ≡ e' → f ≡ f'
    → cond a e (pos 0) +ℤ cond b f (pos 0) ≡ cond a' e' (pos 0) +ℤ cond b' f' (pos 0)
same-sharp p q r s = cc

-- ---- the lists of a mesh tell its shape and its coordinates
module _ (M : IndexedMesh) (whole : length M.indices ≡ corners M) where
  pub valence-seen : (p : ℕ) → valence_at (shape_of M.indices) p ≡ valence_at (shape M) p
  valence-seen p = rw whole

  -- the terms of a corner, from the values of its neighbours
  module _ {values : List ℤ} (whole-faces : Corners (corners M)) (t : Valued M values) (k : ℕ) (axis : k < 3) where
    told-turned : (i c : ℕ) → c < corners M → value_at values k (turn i c) ≡ x (view M k) (turn i c)
    told-turned i c l = t.told k (turn i c) axis (turn_below whole-faces i c l)

    pub ring-told : (p : ℕ) → ring_sum_by M.indices values k p ≡ ring_sum (view M k) p
    unfolding ring_sum_by ring_sum
    ring-told p =
        rw whole
        (gather_ext (at M) p (pos 0) ◌+ℤ◌ {f = ring_term_by values k} {g = ring_term (view M k)} (corners M)
        (λ c l. same-ring (told-turned 1 c l) (told-turned 3 c l) (told-turned 2 c l)))

    pub sharp-told : (ends : List Ends) → Holds no_ends ends (corners M) (ends_of (shape M)) → (p : ℕ)
        → sharp_sum_by M.indices values ends k p ≡ sharp_sum (view M k) p
    unfolding sharp_sum_by sharp_sum ends_of
    sharp-told ends h p =
        rw whole
        (gather_ext (at M) p (pos 0) ◌+ℤ◌ {f = sharp_term_by values ends k} {g = sharp_term (view M k)} (corners M)
        (λ c l.
        same-sharp
        (ap next_counts (h c l) ∙ next-counts _ _) (ap prev_counts (h c l) ∙ prev-counts _ _)
        (told-turned 1 c l) (told-turned 3 c l)))

module _ {M : IndexedMesh} (a : WellFormed M) where
  pub accepted-whole : length M.indices ≡ corners M
  accepted-whole = a.sized.indices-are

  pub accepted-indices : Indices M.indices (length M.indices)
  accepted-indices = rw accepted-whole (sized-indices M a.sized a.named)

  -- how many faces a vertex has
  pub valence-range : (p : ℕ) → p < M.vertices → (0 < valence_at (shape M) p) × (valence_at (shape M) p ≤ max_valence)
  valence-range p l =
      bool_cases (on_boundary (at M) (corners M) p)
      (λ e. (a.used p l, omega (arith, a.boundary-high p l e)))
      (λ e. (a.used p l, omega (arith, a.inner-high p l e)))

  module _ (k : ℕ) (axis : k < 3) where
    corner-small : (c : ℕ) → c < corners M → nat_abs (x (view M k) c) ≤ max_coordinate
    corner-small c l = a.coordinates (3 * at M c + k) (omega (arith, a.named c l))

    turn-size : (i c : ℕ) → c < corners M → nat_abs (x (view M k) (turn i c)) ≤ max_coordinate
    turn-size i c l = corner-small (turn i c) (turn_below (accepted-corners a) i c l)

    pub ring-size : (p : ℕ) → nat_abs (ring_sum (view M k) p) ≤ 5 * max_coordinate * valence_at (shape M) p
    unfolding ring_sum
    ring-size p =
        gather-size (at M) p (5 * max_coordinate) (ring_term (view M k)) (corners M)
        (λ c l. ring-three (x (view M k) (next c)) (x (view M k) (prev c)) (x (view M k) (across c)) (turn-size 1 c l) (turn-size 3 c l) (turn-size 2 c l))

    pub sharp-most : (p : ℕ) → nat_abs (sharp_sum (view M k) p) ≤ 5 * max_coordinate * valence_at (shape M) p
    unfolding sharp_sum
    sharp-most p =
        gather-size (at M) p (5 * max_coordinate) (sharp_term (view M k)) (corners M)
        (λ c l.
        sharp-two (sharp (shape M) c) (boundary (at M) (corners M) (prev c)) (x (view M k) (next c)) (x (view M k) (prev c))
        (turn-size 1 c l) (turn-size 3 c l))

    -- two half-edges at a boundary vertex are boundary
    pub sharp-size : (p : ℕ) → p < M.vertices → inside (shape M) p ≡ false → nat_abs (sharp_sum (view M k) p) ≤ 2 * max_coordinate
    sharp-size p l e =
        let w = boundary-vertex (at M) (accepted-corners a) a.simple p (a.fans p l) (not-false _ e) in
        let n = w.leaving.corner in
        let m = w.entering.corner in
        rw (sharp-neighbours (view M k) p w)
        (omega (arith, abs-+ (x (view M k) (next n)) (x (view M k) (prev m)), turn-size 1 n w.leaving.below, turn-size 3 m w.entering.below))

  -- ---- the table of values
  position-small : (i : ℕ) → nat_abs (coordinate M i) ≤ max_coordinate
  position-small i =
      bool_cases (ltb i (3 * M.vertices))
      (λ t. a.coordinates i (ltb-true i (3 * M.vertices) t))
      (λ t. let past : length M.positions ≤ i = omega (arith, a.sized.positions-are, ltb-false i (3 * M.vertices) t) in
      rw (get_or-eq_default M.positions (pos 0) past) (omega arith))

  zeros-small : (n i : ℕ) → nat_abs (get_or (replicate n (pos 0)) i (pos 0)) ≤ max_coordinate
  zeros-small n i =
      bool_cases (ltb i n)
      (λ t. rw (get_or-replicate n i (pos 0) (pos 0) (ltb-true i n t)) (omega arith))
      (λ t. let past : length (replicate n (pos 0)) ≤ i = rw length-replicate (ltb-false i n t) in
      rw (get_or-eq_default (replicate n (pos 0)) (pos 0) past) (omega arith))

  pub accepted-valued : {values : List ℤ} → values ≡ values_after M.positions M.indices (replicate (16 * max_faces) (pos 0)) → Valued M values
  accepted-valued e =
      let table : List ℤ = replicate (16 * max_faces) (pos 0) in
      let few : corners M ≤ 4 * max_faces = omega (arith, a.sized.faces-high) in
      let room : 4 * length M.indices ≤ length table = rw length-replicate (omega (arith, accepted-whole, few)) in
      subst (Valued M) (sym e) (record {
        told = λ k c h l. value-told M.positions M.indices table room k c h (rw accepted-whole l) (omega (arith, few));
        bounded = record { entries = values-small M.positions M.indices table room max_coordinate position-small (zeros-small (16 * max_faces)) };
      })

-- ---- the weight of a corner, from the entries of the tables
-- 4, or at most twice the faces
pub weight-most : (i : Bool) (m n : ℕ) → m ≤ n → corner_weight i m ≤ 2 * n + 4
unfolding corner_weight
weight-most true m n l = omega arith
weight-most false m n l = bool_cases (eqb m 1) (λ e. rw e (omega arith)) (λ e. rw e (omega arith))

pub weight-entries : (G : Shape) (c p : ℕ) (i : Bool) (m : ℕ) → p ≡ G.at c → i ≡ inside G p → m ≡ valence_at G p → corner_weight i m ≡ weight G c
unfolding weight
weight-entries G c p i m hp hi hm = rw (hi, hm, hp)
