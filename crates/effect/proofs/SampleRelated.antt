-- What the masks keep, the samples keep: a relation between two coordinates of the vertices that sums keep, and that rounding keeps of their
-- fractions, holds of the control values and of the samples.
--
--   Rounds Q     Q is kept by sums with non-negative weights (`Linear`), and by rounding two fractions of one divisor
use mathlib.Core.Path.{◌≡◌, sym, ap₂, subst}
use Prim.Native.Nat.{ℕ, zero, suc, ◌*◌, ◌^◌, ◌≤◌, ◌<◌}
use native.Mathlib.Nat.{one-le-pow}
use native.Mathlib.Omega.{arith}
use lib.IntN.{ℤ, pos, ◌*ℤ◌}
use lib.Pow.{pow-add}
use Rattle.integer.specs.Nearest.{nearest}
use Rattle.finite.specs.Fold.{fold_below, sum_below, sum_below_ℤ}
use Rattle.mesh.specs.IndexedMesh.{IndexedMesh, corners}
use Rattle.mesh.specs.WellFormed.{WellFormed}
use Rattle.sample.specs.Bernstein.{numerator, rounded}
use Rattle.sample.proofs.BernsteinLaws.{bernstein-sum}
use Rattle.sample.proofs.SampleLaws.{point_weight, numerator-sixteen}
use Rattle.mask.proofs.LinearLaws.{Linear, cast}
use Rattle.patch.specs.Patch.{patch_point, control_value}
use Rattle.patch.proofs.Related.{valued, patch-related}

pub record Rounds (Q : ℕ → ℤ → ℤ → Type 0) : Type 0 where
  pub linear : Linear Q
  pub rounds : (d : ℕ) {y z : ℤ} → 0 < d → Q d y z → Q 1 (nearest y d) (nearest z d)

-- ---- a sum by weights
sum-related : {R : ℕ → ℤ → ℤ → Type 0} → Linear R → (u : ℕ → ℕ) (f g : ℕ → ℤ) (n : ℕ) → ((m : ℕ) → m < n → R 1 (f m) (g m))
    → R (sum_below u n) (sum_below_ℤ (λ m. pos (u m) *ℤ f m) n) (sum_below_ℤ (λ m. pos (u m) *ℤ g m) n)
unfolding fold_below
sum-related L u f g zero h = L.nil
sum-related L u f g (suc n) h =
    L.plus (sum-related L u f g n (λ m l. h m (omega arith))) (cast L (let e : u n * 1 ≡ u n = omega arith in e) (L.scale (u n) (h n (omega arith))))

weights-sum : (n a b : ℕ) → a ≤ n → b ≤ n → sum_below (point_weight n a b) 16 ≡ n ^ 6
unfolding fold_below
weights-sum n a b ha hb =
    rw (pow-add n 3 3)
    (omega (
      arith,
      ap₂ ◌*◌ (bernstein-sum n a ha) (bernstein-sum n b hb),
    ))

module _ {Q : ℕ → ℤ → ℤ → Type 0} (q : Rounds Q) where
  -- ---- from the control values to the samples
  pub numerator-related : (n a b : ℕ) → a ≤ n → b ≤ n → (f g : ℕ → ℤ) → ((m : ℕ) → m < 16 → Q 1 (f m) (g m))
      → Q (n ^ 6) (numerator n a b f) (numerator n a b g)
  numerator-related n a b ha hb f g h =
      rw (numerator-sixteen n a b f, numerator-sixteen n a b g, ← weights-sum n a b ha hb) (sum-related q.linear (point_weight n a b) f g 16 h)

  pub sample-related : (n a b : ℕ) → 0 < n → a ≤ n → b ≤ n → (f g : ℕ → ℤ) → ((m : ℕ) → m < 16 → Q 1 (f m) (g m))
      → Q 1 (rounded n a b f) (rounded n a b g)
  unfolding rounded
  sample-related n a b some ha hb f g h = q.rounds (n ^ 6) (one-le-pow 6 n some) (numerator-related n a b ha hb f g h)

  -- ---- from the positions, in micrometres, to the control values, in units of 1/256
  pub control-related : {R : ℕ → ℤ → ℤ → Type 0} → Linear R → ((k : ℕ) (y z : ℤ) → R k y z → Q k (pos 256 *ℤ y) (pos 256 *ℤ z))
      → {M : IndexedMesh} → WellFormed M → (X X' : ℕ → ℤ) → ((p : ℕ) → p < M.vertices → R 1 (X p) (X' p))
      → (c m : ℕ) → c < corners M → Q 1 (control_value (valued M X) c m) (control_value (valued M X') c m)
  control-related L units {M} a X X' base c m l =
      let w = patch-related L a X X' base c m l in
      let f = patch_point (valued M X) c m in
      let g = patch_point (valued M X') c m in
      subst (λ (d : ℕ). Q 1 (nearest (pos 256 *ℤ f.num) f.den) (nearest (pos 256 *ℤ g.num) d)) (sym w.same)
      (q.rounds f.den w.positive (units f.den f.num g.num w.related))
