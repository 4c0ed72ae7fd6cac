-- `write_patches` meets its contract: 48 numbers and 16 marks are written for each face, from 48 and 16 times its number on.
use mathlib.Core.Path.{◌≡◌}
use mathlib.Core.List.{List}
use Prim.Native.Nat.{ℕ, ◌*◌, ◌-◌, ◌≤◌}
use lib.IntN.{ℤ}
use lib.ListN.{length}
use Rattle.finite.specs.Filled.{filled}
use Rattle.patch.specs.Written.{PatchLists, written_number, written_mark}
use Rattle.patch.specs.Sources.{lists_in}
use Rattle.patch.proofs.source.PatchSource.write_patches.Given as goal

-- what is written after g patches
pub record Written (D : PatchLists) (f : ℕ) (patches₀ : List ℤ) (marks₀ : List ℕ) (patches : List ℤ) (marks : List ℕ) (g : ℕ) : Type 0 where
  pub most : g ≤ f
  pub patches-long : length patches ≡ length patches₀
  pub patches-are : patches ≡ filled (written_number D) (48 * g) patches₀
  pub marks-long : length marks ≡ length marks₀
  pub marks-are : marks ≡ filled (written_mark D) (16 * g) marks₀

abbrev pub invariant-loop-g : goal.invariant-loop-g
invariant-loop-g l =
    Written (lists_in l.self) l.f l.initial.patches l.initial.marks l.patches l.marks l.g

abbrev pub decreases-loop-g : goal.decreases-loop-g
decreases-loop-g l = l.f - l.g
