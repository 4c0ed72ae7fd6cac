-- The marks of a face seen from any of its corners: a face begun later has the same, and what an accepted mesh's lists say is what its control
-- points say.
--
--   points_exact S c    nothing is left in any coordinate of any point of the face of corner c, where S k is coordinate k of the mesh
--   sums_whole S n c p  nothing is left when the sums at place p are divided by N^6
--   mark_from S n c p   the mark of the sample at place p of the face of corner c, where c counts as the face's first corner
use mathlib.Core.Path.{◌≡◌, refl, sym, ap, ap₂, ◌∙◌}
use mathlib.Core.Bool.{Bool, true, ◌&&◌}
use mathlib.Core.List.{List}
use Prim.Native.Nat.{ℕ, zero, suc, ◌+◌, ◌-◌, ◌*◌, ◌/◌, ◌%◌, ◌^◌, ◌<◌}
use native.Mathlib.Omega.{arith}
use lib.Dec.{eqb}
use lib.IntN.{ℤ}
use Rattle.integer.specs.Nearest.{whole}
use Rattle.finite.specs.Fold.{all_below}
use Rattle.finite.specs.Filled.{list_below}
use Rattle.finite.specs.Permutation.{Permutation}
use Rattle.finite.proofs.FoldLaws.{fold-ext, fold-reindex}
use Rattle.finite.proofs.AnyAll.{all-monoid}
use Rattle.finite.proofs.FilledLaws.{agree}
use Rattle.corner.specs.Corner.{turn, next}
use Rattle.mesh.specs.IndexedMesh.{IndexedMesh}
use Rattle.mesh.proofs.CornerLaws.{turn-none, turn-next}
use Rattle.sample.specs.Marked.{patch_marked, division_whole, sample_exact}
use Rattle.sample.proofs.SampleLaws.{numerator-ext}
use Rattle.patch.specs.Point.{View}
use Rattle.control.specs.Control.{units, exactly}
use Rattle.patch.specs.Patch.{patch_point, view, patches_after, point_exact, marks_after}
use Rattle.patch.proofs.TurnedLaws.{turned, patch-turned}
use Rattle.patch.proofs.WrittenLaws.{written_at, mark-at, indicator-one}
use Rattle.surface.specs.Renumbering.{Place, matching}
use Rattle.surface.proofs.FaceSamples.{sum_from, Within, sum-matching}

abbrev pub points_exact : (ℕ → View) → ℕ → Bool
points_exact S c = all_below (λ m. all_below (λ k. exactly (patch_point (S k) c m)) 3) 16

abbrev pub sums_whole : (ℕ → View) → ℕ → ℕ → Place → Bool
sums_whole S n c p = all_below (λ k. whole (sum_from (S k) n c p) (n ^ 6)) 3

abbrev pub mark_from : (ℕ → View) → ℕ → ℕ → Place → Bool
mark_from S n c p = points_exact S c && sums_whole S n c p

-- views whose points are equal have equal marks
pub same-marks : (S S' : ℕ → View) (n c c' : ℕ) (p : Place)
    → ((k m : ℕ) → k < 3 → m < 16 → patch_point (S k) c m ≡ patch_point (S' k) c' m) → mark_from S n c p ≡ mark_from S' n c' p
same-marks S S' n c c' p same =
    ap₂ ◌&&◌
    (fold-ext true ◌&&◌ 16 (λ m l. fold-ext true ◌&&◌ 3 (λ k h. ap exactly (same k m h l))))
    (fold-ext true ◌&&◌ 3 (λ k h. ap (λ (z : ℤ). whole z (n ^ 6)) (numerator-ext n p.a p.b (λ m l. ap units (same k m h l)))))

-- ---- a face begun later has the same points, under other numbers
-- point m of the face as it was is this one of the face begun later
abbrev back : ℕ → ℕ
back m = m / 4 + 4 * (3 - m % 4)

quarter : Permutation 16
unfolding list_below
quarter = record {
  to = turned;
  from = back;
  to_below = λ m l. omega arith;
  from-below = λ m l. omega arith;
  from-to = agree (λ m. back (turned m)) (λ m. m) 16 refl;
  to-from = agree (λ m. turned (back m)) (λ m. m) 16 refl;
}

points-turned : (S : ℕ → View) (c : ℕ) → points_exact S (next c) ≡ points_exact S c
unfolding quarter
points-turned S c =
    fold-ext true ◌&&◌ 16 (λ m l. fold-ext true ◌&&◌ 3 (λ k _. ap exactly (patch-turned (S k) c m l)))
    ∙ fold-reindex all-monoid quarter (λ m. all_below (λ k. exactly (patch_point (S k) c m)) 3)

points-matching : (S : ℕ → View) (s c : ℕ) → points_exact S (turn s c) ≡ points_exact S c
points-matching S zero c = ap (points_exact S) (turn-none c)
points-matching S (suc s) c = ap (points_exact S) (sym (turn-next s c)) ∙ points-matching S s (next c) ∙ points-turned S c

pub mark-matching : (S : ℕ → View) (n s c : ℕ) (p : Place) → Within n p → mark_from S n (turn s c) (matching n s p) ≡ mark_from S n c p
mark-matching S n s c p w =
    ap₂ ◌&&◌
    (points-matching S s c)
    (fold-ext true ◌&&◌ 3 (λ k _. ap (λ (z : ℤ). whole z (n ^ 6)) (sum-matching (S k) n s c p w)))

-- ---- the lists of an accepted mesh
pub mark-written : (M : IndexedMesh) (d : List ℤ) (x : List ℕ) (f n : ℕ) (p : Place) → f < M.faces
    → sample_exact (patches_after M d) (marks_after M x) f n p.a p.b ≡ mark_from (view M) n (4 * f) p
unfolding patch_marked division_whole point_exact
mark-written M d x f n p l =
    ap₂ ◌&&◌
    (fold-ext true ◌&&◌ 16 (λ m b. ap (λ (i : ℕ). eqb i 1) (mark-at M x f m l b) ∙ indicator-one _))
    (fold-ext true ◌&&◌ 3 (λ k h. ap (λ (z : ℤ). whole z (n ^ 6)) (numerator-ext n p.a p.b (λ m b. written_at M d f m k l b h))))
