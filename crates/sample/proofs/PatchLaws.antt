-- One patch as a part of the patch list: what stands in it, its control values, the coordinates of its samples, and what their divisions leave.
use mathlib.Core.Path.{◌≡◌, ap, ◌∙◌}
use mathlib.Core.Bool.{true, false, ◌&&◌, ◌||◌}
use mathlib.Core.List.{List}
use Prim.Native.Nat.{ℕ, ◌+◌, ◌-◌, ◌*◌, ◌/◌, ◌^◌, ◌<◌}
use native.Mathlib.Omega.{arith}
use lib.Dec.{ltb}
use lib.IntN.{ℤ, pos, nat_abs}
use lib.ListN.{length, get_or, take, drop, length-take, length-drop}
use lib.Seq.{get_or-drop, get_or-take}
use borrow.Author.Tests.{ltb-false}
use Rattle.integer.specs.Nearest.{whole}
use Rattle.finite.specs.Fold.{all_below}
use Rattle.std.specs.List.{list_any}
use Rattle.finite.proofs.FoldLaws.{fold-ext}
use Rattle.finite.proofs.Lists.{any-of-list}
use Rattle.finite.proofs.AnyAll.{any_false}
use Rattle.sample.specs.Bernstein.{numerator, rounded, control_at, coordinate_at}
use Rattle.sample.specs.Refusal.{max_control, control_off}
use Rattle.sample.specs.Answer.{point_at}
use Rattle.sample.specs.Marked.{division_whole}
use Rattle.sample.specs.declared.model.MarkedPoint.{MarkedPoint}
use Rattle.sample.specs.Blend.{control_of, SmallPatch}
use Rattle.sample.proofs.SampleLaws.{numerator-ext, rounded-ext}
use Rattle.sample.proofs.BlendLaws.{same_point}

-- the part that the sample call hands on
abbrev pub patch_of : List ℤ → ℕ → List ℤ
patch_of patches f = take (48 * f + 48 - 48 * f) (drop (48 * f) patches)

-- the sample of a patch by itself, exact where its divisions leave nothing
abbrev pub point_of : List ℤ → ℕ → ℕ → ℕ → MarkedPoint
point_of patch n a b =
    let g = control_of patch in
    record {
      point = record { x = rounded n a b (g 0); y = rounded n a b (g 1); z = rounded n a b (g 2) };
      exact = all_below (λ k. whole (numerator n a b (g k)) (n ^ 6)) 3;
    }

module _ (patches : List ℤ) (f : ℕ) (within : f < length patches / 48) where
  patch-length : length (patch_of patches f) ≡ 48
  patch-length = simp (length-take, length-drop) (omega arith)

  patch-at : (i : ℕ) → i < 48 → get_or (patch_of patches f) i (pos 0) ≡ get_or patches (48 * f + i) (pos 0)
  patch-at i l = let q : i < 48 * f + 48 - 48 * f = omega arith in rw (get_or-take, get_or-drop)

  pub patch-off : list_any (λ x. ltb max_control (nat_abs x)) (patch_of patches f) ≡ control_off patches f
  unfolding control_off
  patch-off =
      any-of-list (λ x. ltb max_control (nat_abs x)) (patch_of patches f) (pos 0)
      ∙ rw patch-length (fold-ext false ◌||◌ 48 (λ i l. ap (λ (z : ℤ). ltb max_control (nat_abs z)) (patch-at i l)))

  pub patch-small : control_off patches f ≡ false → SmallPatch (patch_of patches f)
  unfolding control_off
  patch-small e =
      record {
        whole = patch-length;
        small = λ i l. rw (patch-at i l) (ltb-false max_control (nat_abs (get_or patches (48 * f + i) (pos 0))) (any_false _ 48 e i l));
      }

  pub patch-control : (k m : ℕ) → k < 3 → m < 16 → control_of (patch_of patches f) k m ≡ control_at patches f k m
  patch-control k m l q = patch-at (3 * m + k) (omega arith) ∙ ap (λ (i : ℕ). get_or patches i (pos 0)) (omega arith)

  pub patch-coordinate : (n a b k : ℕ) → k < 3 → rounded n a b (control_of (patch_of patches f) k) ≡ coordinate_at patches f n a b k
  patch-coordinate n a b k l = rounded-ext n a b (λ m q. patch-control k m l q)

  pub patch-point : (n a b : ℕ) → (point_of (patch_of patches f) n a b).point ≡ point_at patches f n a b
  patch-point n a b =
      let at = patch-coordinate n a b in
      same_point (at 0 (omega arith)) (at 1 (omega arith)) (at 2 (omega arith))

  pub patch-whole : (n a b : ℕ) → (point_of (patch_of patches f) n a b).exact ≡ division_whole patches f n a b
  unfolding division_whole
  patch-whole n a b =
      fold-ext true ◌&&◌ 3 (λ k l. ap (λ (z : ℤ). whole z (n ^ 6)) (numerator-ext n a b (λ m q. patch-control k m l q)))
