-- The control points of an accepted mesh: their divisors are above 0, and none leaves the range of the coordinates.
use Prim.Native.Nat.{ℕ, ◌+◌, ◌*◌, ◌≤◌, ◌<◌}
use native.Mathlib.Omega.{arith}
use lib.IntN.{pos, nat_abs, ◌*ℤ◌}
use Rattle.integer.proofs.Laws.{abs-*}
use Rattle.integer.proofs.NearestLaws.{nearest-bounded}
use Rattle.limits.specs.Limits.{max_coordinate}
use Rattle.mesh.specs.IndexedMesh.{IndexedMesh}
use Rattle.mesh.specs.WellFormed.{WellFormed}
use Rattle.mask.proofs.LinearLaws.{Related, bounds}
use Rattle.patch.specs.Patch.{patch_point, control_value, view}
use Rattle.patch.proofs.Related.{patch-related}

module _ {M : IndexedMesh} (a : WellFormed M) (f m k : ℕ) (face : f < M.faces) (axis : k < 3) where
  within : Related (λ k z _. nat_abs z ≤ max_coordinate * k) (patch_point (view M k) (4 * f) m) (patch_point (view M k) (4 * f) m)
  within =
      patch-related (bounds max_coordinate) a (view M k).value (view M k).value
      (λ p l. omega (arith, a.coordinates (3 * p + k) (omega arith))) (4 * f) m (omega arith)

  pub patch-divisor : 0 < (patch_point (view M k) (4 * f) m).den
  patch-divisor = within.positive

  -- in units of 1/256, times the divisor
  pub patch-size : nat_abs (pos 256 *ℤ (patch_point (view M k) (4 * f) m).num) ≤ 256 * max_coordinate * (patch_point (view M k) (4 * f) m).den
  patch-size = omega (arith, abs-* (pos 256) (patch_point (view M k) (4 * f) m).num, within.related)

  pub control-bound : nat_abs (control_value (view M k) (4 * f) m) ≤ 256 * max_coordinate
  control-bound = nearest-bounded _ _ (256 * max_coordinate) patch-divisor patch-size
