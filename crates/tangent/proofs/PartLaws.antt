-- The parts of a side: of a side that is not sharp the control values by their points; and what the vectors of a side are made of.
--
--   part_of S c p   the part p of the side of half-edge c
use mathlib.Core.Path.{◌≡◌, refl}
use mathlib.Core.Bool.{false}
use Prim.Native.Nat.{ℕ}
use lib.IntN.{ℤ}
use Rattle.corner.specs.Corner.{next}
use Rattle.mesh.proofs.CornerLaws.{turn-none, prev-next}
use Rattle.patch.specs.Point.{View, sharp, point, inner_point, edge_point, along_point, before_point}
use Rattle.patch.specs.Patch.{owner, kind, patch_point, control_value}
use Rattle.control.specs.Control.{units}
use Rattle.tangent.specs.Vector.{twin_at, corner_vector, end_vector}
use Rattle.tangent.specs.Told.{Part, at_start, at_end, near, far, inner_near, inner_far}

unfoldable pub part_of : View → ℕ → Part → ℤ
part_of S c at_start = corner_vector S c
part_of S c at_end = end_vector S c
part_of S c near = control_value S c 1
part_of S c far = control_value S c 2
part_of S c inner_near = control_value S c 5
part_of S c inner_far = control_value S c 6

module _ (S : View) (c : ℕ) where
  pub near-is : sharp S.shape c ≡ false → control_value S c 1 ≡ units (edge_point S c (twin_at S c))
  unfolding patch_point owner kind point along_point
  near-is smooth = rw (turn-none c, smooth)

  pub far-is : sharp S.shape c ≡ false → control_value S c 2 ≡ units (edge_point S (twin_at S c) c)
  unfolding patch_point owner kind point before_point
  far-is smooth = rw (prev-next c, smooth)

  pub inner-near-is : control_value S c 5 ≡ units (inner_point S c)
  unfolding patch_point owner kind point
  inner-near-is = rw (turn-none c)

  pub inner-far-is : control_value S c 6 ≡ units (inner_point S (next c))
  unfolding patch_point owner kind point
  inner-far-is = refl
