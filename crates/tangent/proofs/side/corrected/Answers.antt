-- `corrected` meets its contract: what is rounded is below 2^61 in size, and rounding does not make it larger.
use mathlib.Core.Path.{◌≡◌, refl, ap, ◌∙◌}
use Prim.Native.Nat.{◌^◌, ◌≤◌}
use native.Mathlib.Omega.{arith}
use lib.IntN.{ℤ, nat_abs, ◌+ℤ◌, ◌*ℤ◌}
use mir.Syntax.{w64}
use Rattle.integer.specs.Nearest.{nearest}
use Rattle.integer.proofs.Laws.{read_back}
use Rattle.integer.proofs.NearestLaws.{nearest-bounded}
use Rattle.tangent.specs.Vector.{corrected_divisor, corrected}
use Rattle.tangent.proofs.MachineLaws.{Term, wide, times, ◌⊠◌, ◌⊞◌, Ranged, size, result, fits, stored, machine, value}
use Rattle.tangent.proofs.side.corrected.Goals.{After-from}
use Rattle.tangent.proofs.side.corrected.Goals as goal

module _ (s : After-from) where
  abbrev num : Term
  num = wide s.args.term (2 ^ 60) ⊞ times 3145728 (wide s.args.x (2 ^ 38))

  -- with the divisor as it is stored in 64 bits
  abbrev stored_num : Term
  stored_num = wide s.args.term (2 ^ 60) ⊞ wide s.from.result 3145728 ⊠ wide s.args.x (2 ^ 38)

  ranged : Ranged stored_num
  ranged = (s.requires.0, (rw s.from.ensures (omega arith), s.requires.1))

  abbrev num-is : stored (machine stored_num) ≡ value num
  num-is = result stored_num ranged refl ∙ ap (λ (z : ℤ). s.args.term +ℤ z *ℤ s.args.x) s.from.ensures

  rounded-size : nat_abs (corrected s.args.term s.args.x) ≤ 2 ^ 61
  rounded-size = nearest-bounded _ corrected_divisor (2 ^ 61) (omega arith) (omega (arith, size num s.requires))

pub overflow_add-term : goal.overflow_add-term
overflow_add-term c = let s = (goal.at.overflow_add-term c).After-from in fits (stored_num s) (ranged s) refl

pub returns : goal.returns
returns c =
    let s = (goal.at.returns c).After-from in
    let is =
    read_back w64 (omega arith) (c.round.ensures.0 ∙ ap (λ (z : ℤ). nearest z corrected_divisor) (num-is s)) in
    (is, rw is (rounded-size s))
