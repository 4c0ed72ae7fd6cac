-- `blend` meets its contract: after each turn the sum is the definition's over the terms passed, and at most 2 ^ 62 in size.
use mathlib.Core.Path.{sym, ap, ap₂, ◌∙◌}
use Prim.Native.Nat.{ℕ, ◌+◌}
use native.Mathlib.Nat.{le_antisymm}
use native.Mathlib.Omega.{arith}
use lib.IntN.{ℤ, pos, ◌+ℤ◌, ◌*ℤ◌}
use lib.ListN.{get_or}
use mir.Syntax.{w64}
use mir.Val.{to_z, of_z}
use mir.Facts.{to_z-of_z}
use Rattle.finite.specs.Fold.{sum_below_ℤ}
use Rattle.finite.proofs.FoldLaws.{fold-zero, fold_step}
use Rattle.sample.proofs.BlendLaws.{term, value-fits, term_fits, partial-fits}
use Rattle.sample.proofs.bernstein.blend.Goals.{Start}
use Rattle.sample.proofs.bernstein.blend.Goals as goal

-- the terms
abbrev terms : Start → ℕ → ℤ
terms s = term s.args.weights (λ j. get_or s.args.values j (pos 0))

pub loop-i-init : goal.loop-i-init
loop-i-init c = (omega arith, sym (fold-zero (pos 0) ◌+ℤ◌ _))

pub add_product-sum-requires : goal.add_product-sum-requires
add_product-sum-requires c =
    let e = to_z-of_z (value-fits c.requires c.loop-i.i (omega arith)) in
    record {
      product = rw e (term_fits c.requires c.loop-i.i (omega arith));
      total =
          rw (e, c.loop-i.invariant.1, ← fold_step (pos 0) ◌+ℤ◌ (terms (goal.at.add_product-sum-requires c).Start) c.loop-i.i)
          (partial-fits c.requires (c.loop-i.i + 1) (omega arith));
    }

pub loop-i-preserved : goal.loop-i-preserved
loop-i-preserved c =
    let e = to_z-of_z (value-fits c.requires c.loop-i.i (omega arith)) in
    let q =
    c.add_product-sum.ensures
    ∙ ap₂ (λ (x y : ℤ). x +ℤ pos (get_or c.args.weights c.loop-i.i 0) *ℤ y) c.loop-i.invariant.1 e
    ∙ sym (fold_step (pos 0) ◌+ℤ◌ (terms (goal.at.loop-i-preserved c).Start) c.loop-i.i) in
    (omega arith, ap (λ (z : ℤ). to_z w64 (of_z w64 z)) q ∙ to_z-of_z (partial-fits c.requires (c.loop-i.i + 1) (omega arith)))

pub returns : goal.returns
returns c = c.loop-i.invariant.1 ∙ ap (sum_below_ℤ (terms (goal.at.returns c).Start)) (le_antisymm c.loop-i.invariant.0 c.loop-i-test.false)
