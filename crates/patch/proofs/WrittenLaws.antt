-- What stands in the patch list and in the list of marks after an accepted mesh was written.
use mathlib.Core.Path.{◌≡◌, refl, sym, ap, ◌∙◌}
use mathlib.Core.Bool.{Bool, true, false}
use mathlib.Core.List.{List}
use Prim.Native.Nat.{ℕ, ◌+◌, ◌*◌, ◌/◌, ◌%◌, ◌≤◌, ◌<◌}
use native.Mathlib.Omega.{arith}
use lib.Dec.{eqb}
use lib.IntN.{ℤ, pos, nat_abs}
use lib.ListN.{length, get_or}
use Rattle.finite.specs.Fold.{indicator}
use Rattle.finite.proofs.FilledLaws.{length-filled, filled_at}
use Rattle.limits.specs.Limits.{max_coordinate}
use Rattle.mesh.specs.IndexedMesh.{IndexedMesh}
use Rattle.mesh.specs.WellFormed.{WellFormed}
use Rattle.patch.specs.Patch.{control_value, view, patch_number, patches_after, point_exact, patch_mark, marks_after}
use Rattle.patch.proofs.PointLaws.{control-bound}

-- place 48f + 3m + k has coordinate k of point m of face f
place : (f m k : ℕ) → m < 16 → k < 3 → ((48 * f + 3 * m + k) % 3 ≡ k) × ((48 * f + 3 * m + k) / 48 ≡ f) × ((48 * f + 3 * m + k) % 48 / 3 ≡ m)
place f m k l h = (omega arith, omega arith, omega arith)

pub number_at : (M : IndexedMesh) (f m k : ℕ) → m < 16 → k < 3 → patch_number M (48 * f + 3 * m + k) ≡ control_value (view M k) (4 * f) m
unfolding patch_number
number_at M f m k l h = let w = place f m k l h in rw (w.0, w.1, w.2)

pub written-length : (M : IndexedMesh) (d : List ℤ) → 48 * M.faces ≤ length d → length (patches_after M d) ≡ length d
written-length M d l = length-filled (patch_number M) _ d (omega arith)

pub written_at : (M : IndexedMesh) (d : List ℤ) (f m k : ℕ) → f < M.faces → m < 16 → k < 3
    → get_or (patches_after M d) (48 * f + 3 * m + k) (pos 0) ≡ control_value (view M k) (4 * f) m
written_at M d f m k l b h =
    filled_at (patch_number M) _ (48 * f + 3 * m + k) d (pos 0) (omega arith) ∙ number_at M f m k b h

pub number_bound : {M : IndexedMesh} → WellFormed M → (i : ℕ) → i < 48 * M.faces → nat_abs (patch_number M i) ≤ 256 * max_coordinate
unfolding patch_number
number_bound a i l = control-bound a (i / 48) (i % 48 / 3) (i % 3) (omega arith) (omega arith)

pub written-bound : {M : IndexedMesh} → WellFormed M → (d : List ℤ) (i : ℕ) → i < 48 * M.faces
    → nat_abs (get_or (patches_after M d) i (pos 0)) ≤ 256 * max_coordinate
written-bound {M} a d i l = rw (filled_at (patch_number M) (48 * M.faces) i d (pos 0) l) (number_bound a i l)

-- ---- the marks
-- the byte of a mark is 1 where the mark is set
pub indicator-one : (b : Bool) → eqb (indicator b) 1 ≡ b
indicator-one true = refl
indicator-one false = refl

pub indicator-set : (b : Bool) → indicator b ≡ 1 → b ≡ true
indicator-set b e = sym (indicator-one b) ∙ ap (λ (i : ℕ). eqb i 1) e

pub marks-length : (M : IndexedMesh) (d : List ℕ) → 16 * M.faces ≤ length d → length (marks_after M d) ≡ length d
marks-length M d l = length-filled (patch_mark M) _ d (omega arith)

pub mark-at : (M : IndexedMesh) (d : List ℕ) (f m : ℕ) → f < M.faces → m < 16 → get_or (marks_after M d) (16 * f + m) 0 ≡ indicator (point_exact M f m)
unfolding patch_mark
mark-at M d f m l h =
    let face : (16 * f + m) / 16 ≡ f = omega arith in
    let which : (16 * f + m) % 16 ≡ m = omega arith in
    filled_at (patch_mark M) _ (16 * f + m) d 0 (omega arith) ∙ rw (face, which)
