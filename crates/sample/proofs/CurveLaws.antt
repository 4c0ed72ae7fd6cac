-- The curves that the samples of one b share: what is given where a cause is met and where none is, their size, and the sum of a sample by them.
use mathlib.Core.Path.{◌≡◌, refl, sym, ap, ◌∙◌}
use mathlib.Core.List.{List}
use mathlib.Core.Option.{none, some}
use Prim.Native.Nat.{ℕ, ◌+◌, ◌*◌, ◌/◌, ◌^◌, ◌≤◌, ◌<◌}
use native.Mathlib.Omega.{arith}
use lib.IntN.{ℤ, pos, nat_abs, ◌+ℤ◌, ◌*ℤ◌}
use lib.ListN.{length, get_or}
use Rattle.finite.specs.Fold.{fold_below, sum_below_ℤ}
use Rattle.finite.specs.Filled.{list_below}
use Rattle.answer.specs.Table.{result, refusal}
use Rattle.finite.proofs.FoldLaws.{fold-ext}
use Rattle.finite.proofs.FilledLaws.{list_below-ext, list_below-at}
use Rattle.sample.specs.Bernstein.{bernstein, numerator, control_at}
use Rattle.sample.specs.Refusal.{max_control}
use Rattle.sample.specs.Curve.{curve_at, curve_refusal, curves_answer}
use Rattle.sample.specs.Blend.{curve_of}
use Rattle.sample.specs.declared.model.Curves.{Curves}
use Rattle.sample.proofs.SampleLaws.{numerator-rows, curve-weighted}
use Rattle.sample.proofs.BlendLaws.{control-small}
use Rattle.sample.proofs.PatchLaws.{patch_of, patch-control}
use Rattle.sample.proofs.RefusalLaws.{allowed}

-- ---- by their parts
pub same-curves : {d d' : ℕ} {x y z x' y' z' : List ℤ} → d ≡ d' → x ≡ x' → y ≡ y' → z ≡ z'
    → ◌≡◌ {A = Curves} (record { divisor = d; x = x; y = y; z = z }) (record { divisor = d'; x = x'; y = y'; z = z' })
same-curves p q r s = cc

-- by the part of the list
patch-curve : (patches : List ℤ) (f : ℕ) → f < length patches / 48 → (n b k : ℕ) → k < 3 → curve_of (patch_of patches f) n b k ≡ curve_at patches f n b k
patch-curve patches f within n b k below =
    list_below-ext 4 (λ i l. fold-ext (pos 0) ◌+ℤ◌ 4 (λ j q.
    ap (λ (z : ℤ). pos (bernstein n b j) *ℤ z) (patch-control patches f within k (i + 4 * j) below (omega arith))))

module _ (patches : List ℤ) (f n b : ℕ) where
  -- ---- what is given
  pub curves-refused : {k : ℕ} → curve_refusal patches f n b ≡ some k → refusal k ≡ curves_answer patches f n b
  unfolding curves_answer
  curves-refused met = rw met

  pub curves-given : {r : Curves} → curve_refusal patches f n b ≡ none → f < length patches / 48
      → (let c = curve_of (patch_of patches f) n b in r ≡ record { divisor = n ^ 6; x = c 0; y = c 1; z = c 2 })
      → result r ≡ curves_answer patches f n b
  unfolding curves_answer
  curves-given e within q =
      let at = patch-curve patches f within n b in
      ap result (q ∙ same-curves refl (at 0 (omega arith)) (at 1 (omega arith)) (at 2 (omega arith))) ∙ rw e

  -- ---- a value of a curve is at most N^3 times the limit of a control value
  pub curve-bound : curve_refusal patches f n b ≡ none → (k : ℕ) → k < 3 → (i : ℕ) → i < 4
      → nat_abs (get_or (curve_at patches f n b k) i (pos 0)) ≤ n ^ 3 * max_control
  curve-bound e k below i l =
      let h = allowed patches f n 0 b e in
      rw (list_below-at (λ i. sum_below_ℤ (λ j. pos (bernstein n b j) *ℤ control_at patches f k (i + 4 * j)) 4) 4 i (pos 0) l)
      (omega (
        arith,
        curve-weighted n b h.samplable.across.within (λ j. control_at patches f k (i + 4 * j)) 1 max_control (λ j q.
            rw (sym (patch-control patches f h.listed k (i + 4 * j) below (omega arith)))
            (omega (arith, control-small h.samplable.small k below (i + 4 * j) (omega arith)))),
      ))

  -- ---- the sum of a sample, along its curve
  pub curve-numerator : (a k : ℕ)
      → sum_below_ℤ (λ i. pos (bernstein n a i) *ℤ get_or (curve_at patches f n b k) i (pos 0)) 4 ≡ numerator n a b (control_at patches f k)
  unfolding fold_below list_below
  curve-numerator a k = sym (numerator-rows n a b (control_at patches f k))
