-- `narrowed` meets its contract: each coordinate is within 32 bits.
use mathlib.Core.Path.{◌≡◌, refl, ap, ◌∙◌}
use Prim.Native.Nat.{◌*◌, ◌≤◌}
use native.Mathlib.Omega.{arith}
use lib.IntN.{ℤ, nat_abs}
use mir.Syntax.{w32, w64}
use mir.Val.{SFits, to_z, of_z}
use mir.Facts.{to_z-of_z}
use Rattle.integer.proofs.Laws.{sfits-abs}
use Rattle.limits.specs.Limits.{max_coordinate}
use Rattle.patch.proofs.FacePointLaws.{same_point}
use Rattle.patch.proofs.writer.narrowed.Goals.{After-struct_told-1, After-struct_told-2-1, After-struct_told-3-1, Start}
use Rattle.patch.proofs.writer.narrowed.Goals as goal

-- ---- a number that is small enough keeps its value in 64 and in 32 bits
module _ (z : ℤ) (l : nat_abs z ≤ 256 * max_coordinate) where
  wide : to_z w64 (of_z w64 z) ≡ z
  wide = to_z-of_z (sfits-abs {w = w64} z (omega arith))

  narrow-fits : SFits w32 z
  narrow-fits = sfits-abs z (omega arith)

  narrow : to_z w32 (of_z w32 (to_z w64 (of_z w64 z))) ≡ z
  narrow = ap (λ (y : ℤ). to_z w32 (of_z w32 y)) wide ∙ to_z-of_z narrow-fits

-- ---- the function's entry
abbrev start : After-struct_told-1 → Start
start c = (goal.at.After-struct_told-1 c).Start

abbrev start₂ : After-struct_told-2-1 → Start
start₂ c = start (goal.at.After-struct_told-2-1 c).After-struct_told-1

abbrev start₃ : After-struct_told-3-1 → Start
start₃ c = start₂ (goal.at.After-struct_told-3-1 c).After-struct_told-2-1

pub overflow_cast-result : goal.overflow_cast-result
overflow_cast-result c = let s = start c in rw (wide s.args.p.x s.requires.x-small) (narrow-fits s.args.p.x s.requires.x-small)

pub overflow_cast-result-2 : goal.overflow_cast-result-2
overflow_cast-result-2 c = let s = start₂ c in rw (wide s.args.p.y s.requires.y-small) (narrow-fits s.args.p.y s.requires.y-small)

pub overflow_cast-result-3 : goal.overflow_cast-result-3
overflow_cast-result-3 c = let s = start₃ c in rw (wide s.args.p.z s.requires.z-small) (narrow-fits s.args.p.z s.requires.z-small)

pub returns : goal.returns
returns c =
    let s = start₃ c in
    let p = s.args.p in
    same_point (narrow p.x s.requires.x-small) (narrow p.y s.requires.y-small) (narrow p.z s.requires.z-small) refl
