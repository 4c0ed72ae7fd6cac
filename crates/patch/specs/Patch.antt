-- The sixteen control points of a patch, their values and marks, and the lists of both.
--
--   owner m, kind m    point m = i + 4j of a patch is this one of the four points of this corner of the face:
--                          12 corner 3   13 before 3   14 along 2    15 corner 2        j
--                           8 along 3     9 inner 3    10 inner 2    11 before 2        ^
--                           4 before 0    5 inner 0     6 inner 1     7 along 1         |
--                           0 corner 0    1 along 0     2 before 1    3 corner 1        +--> i
--                      (rules B1 and B5)
--   patch_point S c m   point m of the patch of the face of corner c, where c counts as the face's first corner
--   control_value S c m   the control value, which the user calls a patch number: 256 times the fraction, rounded once (rules B3 and I1), by `units` of
--                      `control`, as `exactly` is
--   shape M            the mesh M without its coordinates
--   view M k           coordinate k (x, y, z) of the mesh M
--   patch_number M i    what stands at place i of the patch list: coordinate i % 3 of point i % 48 / 3 of face i / 48
--   patches_after M d   the patch list after an accepted mesh was written over d: places from 48F on are untouched (rule B12)
--   point_exact M f m   point m of face f is exact: nothing was left in any of its three coordinates (rule B13)
--   patch_mark M i      what stands at place i of the list of marks: 1 or 0 for point i % 16 of face i / 16
--   marks_after M d     the list of marks after an accepted mesh was written over d: places from 16F on are untouched (rule B13)
use Rattle.std.specs.Prelude.{Bool, List, [], ◌∷◌, ℕ, ◌+◌, ◌*◌, ◌/◌, ◌%◌, ℤ, get_or}
use Rattle.finite.specs.Fold.{all_below, indicator}
use Rattle.finite.specs.Filled.{filled}
use Rattle.corner.specs.Corner.{turn}
use Rattle.mesh.specs.IndexedMesh.{IndexedMesh, corners, at, tag, coordinate}
use Rattle.mask.specs.Mask.{Fraction}
use Rattle.control.specs.Control.{units, exactly}
use Rattle.patch.specs.Point.{Shape, View, Kind, corner, along, before, inner, point}

unfoldable pub owner : ℕ → ℕ
owner m = get_or (0 ∷ 0 ∷ 1 ∷ 1 ∷ 0 ∷ 0 ∷ 1 ∷ 1 ∷ 3 ∷ 3 ∷ 2 ∷ 2 ∷ 3 ∷ 3 ∷ 2 ∷ 2 ∷ []) m 0

unfoldable pub kind : ℕ → Kind
kind m =
    get_or (corner ∷ along ∷ before ∷ corner ∷ before ∷ inner ∷ inner ∷ along
    ∷ along ∷ inner ∷ inner ∷ before ∷ corner ∷ before ∷ along ∷ corner ∷ []) m inner

unfoldable pub patch_point : View → ℕ → ℕ → Fraction
patch_point S c m = point S (turn (owner m) c) (kind m)

abbrev pub control_value : View → ℕ → ℕ → ℤ
control_value S c m = units (patch_point S c m)

abbrev pub shape : IndexedMesh → Shape
shape M = record { n = corners M; at = at M; tag = tag M }

abbrev pub view : IndexedMesh → ℕ → View
view M k = record { shape = shape M; value = λ p. coordinate M (3 * p + k) }

unfoldable pub patch_number : IndexedMesh → ℕ → ℤ
patch_number M i = control_value (view M (i % 3)) (4 * (i / 48)) (i % 48 / 3)

abbrev pub patches_after : IndexedMesh → List ℤ → List ℤ
patches_after M d = filled (patch_number M) (48 * M.faces) d

unfoldable pub point_exact : IndexedMesh → ℕ → ℕ → Bool
point_exact M f m = all_below (λ k. exactly (patch_point (view M k) (4 * f) m)) 3

unfoldable pub patch_mark : IndexedMesh → ℕ → ℕ
patch_mark M i = indicator (point_exact M (i / 16) (i % 16))

abbrev pub marks_after : IndexedMesh → List ℕ → List ℕ
marks_after M d = filled (patch_mark M) (16 * M.faces) d
