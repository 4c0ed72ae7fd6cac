-- `write_patch` meets its contract: each point fills the next three places and its mark the next byte, and what stands behind the sixteenth is as it was.
use mathlib.Core.Path.{◌≡◌}
use mathlib.Core.List.{List}
use Prim.Native.Nat.{ℕ, ◌*◌, ◌-◌, ◌≤◌}
use lib.IntN.{ℤ}
use lib.ListN.{length}
use Rattle.finite.specs.Filled.{filled}
use Rattle.patch.specs.Written.{PatchLists, number_from, mark_from}
use Rattle.patch.specs.Sources.{lists_in}
use Rattle.patch.proofs.source.PatchSource.write_patch.Given as goal

-- what is written after m points: three numbers and a mark of each
pub record Written (D : PatchLists) (g : ℕ) (patch₀ : List ℤ) (marks₀ : List ℕ) (patch : List ℤ) (marks : List ℕ) (m : ℕ) : Type 0 where
  pub most : m ≤ 16
  pub patch-long : length patch ≡ length patch₀
  pub patch-is : patch ≡ filled (number_from D g) (3 * m) patch₀
  pub marks-long : length marks ≡ length marks₀
  pub marks-are : marks ≡ filled (mark_from D g) m marks₀

abbrev pub invariant-loop-m : goal.invariant-loop-m
invariant-loop-m l =
    Written (lists_in l.self) l.g l.initial.patch l.initial.marks l.patch l.marks l.m

abbrev pub decreases-loop-m : goal.decreases-loop-m
decreases-loop-m l = 16 - l.m
