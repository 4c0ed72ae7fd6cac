-- The table of corner points as it is filled: one store of a coordinate and of a flag, a coordinate of all the vertices, and all three.
use mathlib.Core.Path.{◌≡◌, refl, sym, ap, ◌∙◌}
use mathlib.Core.Bool.{Bool, true, false, ◌&&◌}
use mathlib.Core.List.{List}
use Prim.Native.Nat.{ℕ, ◌+◌, ◌*◌, ◌≤◌, ◌<◌}
use native.Mathlib.Nat.{not-suc-le-zero}
use native.Mathlib.Omega.{arith}
use lib.Dec.{eqb}
use lib.IntN.{ℤ, pos}
use lib.ListN.{length, get_or, set}
use lib.Seq.{get_or-set_same, get_or-set_other}
use borrow.Author.Tests.{eqb-true, eqb-false}
use Rattle.finite.proofs.FoldLaws.{bool_cases, fold_step}
use Rattle.mask.specs.Mask.{Fraction, corner_mask}
use Rattle.control.specs.Control.{units, exactly}
use Rattle.patch.specs.Lists.{ring_sum_by, sharp_sum_by}
use Rattle.patch.specs.PatchTables.{CornerLists, ruled_point, Coordinate, CornerPoints}

-- the corner point, from the entries of the tables
pub ruled-entries : (D : CornerLists) (k p : ℕ) (z r s : ℤ) → z ≡ get_or D.positions (3 * p + k) (pos 0) → r ≡ ring_sum_by D.faces D.values k p
    → s ≡ sharp_sum_by D.faces D.values D.ends k p → corner_mask (get_or D.rules p 0) z r s ≡ ruled_point D k p
unfolding ruled_point
ruled-entries D k p z r s hz hr hs = rw (hz, hr, hs)

-- ---- one coordinate of the points, with 3 numbers a point: one store
module _ (k i : ℕ) (v : ℤ) (points : List ℤ) (axis : k < 3) where
  strided-more : (f : ℕ → ℤ) → 3 * i + k < length points → v ≡ f i → ((q : ℕ) → q < i → get_or points (3 * q + k) (pos 0) ≡ f q)
      → (q : ℕ) → q < i + 1 → get_or (set points (3 * i + k) v) (3 * q + k) (pos 0) ≡ f q
  strided-more f l e h q b =
      bool_cases (eqb q i)
      (λ t. let s : q ≡ i = eqb-true q i t in rw (s, get_or-set_same) e)
      (λ t. get_or-set_other points (3 * i + k) (3 * q + k) v (pos 0) (λ s. eqb-false q i t (omega arith)) ∙ h q (omega (arith, eqb-false q i t)))

  strided-other : (q j : ℕ) → j < 3 → (j ≡ k → ⊥) → get_or (set points (3 * i + k) v) (3 * q + j) (pos 0) ≡ get_or points (3 * q + j) (pos 0)
  strided-other q j l n = get_or-set_other points (3 * i + k) (3 * q + j) v (pos 0) (λ s. n (omega arith))

-- ---- the flags, which stay where nothing is left: one store
module _ (p : ℕ) (m : Bool) (flags flags₀ : List Bool) (e : ℕ → Bool) (after : (q : ℕ) → p ≤ q → get_or flags q false ≡ get_or flags₀ q false) where
  kept_more : p < length flags → m ≡ (get_or flags p false && e p)
      → ((q : ℕ) → q < p → get_or flags q false ≡ (get_or flags₀ q false && e q))
      → (q : ℕ) → q < p + 1 → get_or (set flags p m) q false ≡ (get_or flags₀ q false && e q)
  kept_more l h kept q b =
      bool_cases (eqb q p)
      (λ t. let s : q ≡ p = eqb-true q p t in rw (s, get_or-set_same) (h ∙ ap (λ (k : Bool). k && e p) (after p (omega arith))))
      (λ t. get_or-set_other flags p q m false (λ s. eqb-false q p t (omega arith)) ∙ kept q (omega (arith, eqb-false q p t)))

  kept-after : (q : ℕ) → p + 1 ≤ q → get_or (set flags p m) q false ≡ get_or flags₀ q false
  kept-after q b = get_or-set_other flags p q m false (λ s. omega arith) ∙ after q (omega arith)

-- ---- one coordinate of the corner points: none yet, and one more
pub coordinate-none : (q : ℕ → Fraction) (k : ℕ) (points : List ℤ) (flags : List Bool) → Coordinate q 0 k points points flags flags
coordinate-none q k points flags = record {
  written = λ p l. absurd (not-suc-le-zero l);
  others = λ p j l n. refl;
  kept = λ p l. absurd (not-suc-le-zero l);
  after = λ p l. refl;
}

pub coordinate-more : (q : ℕ → Fraction) (k p : ℕ) {points₀ points : List ℤ} {flags₀ flags : List Bool} (u : ℤ) (m : Bool) → k < 3
    → Coordinate q p k points₀ points flags₀ flags → 3 * p + k < length points → p < length flags
    → u ≡ units (q p) → m ≡ (get_or flags p false && exactly (q p))
    → Coordinate q (p + 1) k points₀ (set points (3 * p + k) u) flags₀ (set flags p m)
coordinate-more q k p {points = points} {flags₀ = flags₀} {flags = flags} u m axis h place mark e f = record {
  written = strided-more k p u points axis (λ i. units (q i)) place e h.written;
  others = λ i j b n. strided-other k p u points axis i j b n ∙ h.others i j b n;
  kept = kept_more p m flags flags₀ (λ i. exactly (q i)) h.after mark f h.kept;
  after = kept-after p m flags flags₀ (λ i. exactly (q i)) h.after;
}

-- ---- the corner points: one more coordinate of each
pub corners-more : (q : ℕ → ℕ → Fraction) (v k : ℕ) {points points' : List ℤ} {flags flags' : List Bool} → k < 3
    → CornerPoints q v k points flags → Coordinate (q k) v k points points' flags flags' → CornerPoints q v (k + 1) points' flags'
corners-more q v k axis h c = record {
  points-are = λ j p b l.
      bool_cases (eqb j k)
      (λ t. let s : j ≡ k = eqb-true j k t in rw s (c.written p l))
      (λ t. let n = eqb-false j k t in c.others p j (omega arith) n ∙ h.points-are j p (omega (arith, n)) l);
  flags-are = λ p l.
      c.kept p l ∙ ap (λ (m : Bool). m && exactly (q k p)) (h.flags-are p l) ∙ sym (fold_step true ◌&&◌ (λ j. exactly (q j p)) k);
}
