-- `chained` meets its contract: after so many turns a and b are that number of the recurrence and the next one.
use Rattle.std.proofs.Common.{◌≡◌, sym, ap, ap₂, ◌∙◌, ◌+◌, arith, w64, ℤ, pos, ◌-ℤ◌, ◌*ℤ◌, to_z, of_z}
use native.Mathlib.Nat.{le_antisymm}
use Rattle.integer.specs.Nearest.{nearest}
use Rattle.integer.proofs.Laws.{read_back}
use Rattle.cosine.specs.Cosine.{scale, cosine}
use Rattle.cosine.specs.Weight.{chain}
use Rattle.cosine.proofs.CosineLaws.{cosine-size}
use Rattle.cosine.proofs.ChainLaws.{chain-size, chain-zero, chain-one, chain_next}
use Rattle.cosine.proofs.generator.chained.Goals.{After-wide_cosine-c}
use Rattle.cosine.proofs.generator.chained.Goals as goal

-- c is c(m)
c-is : (c : After-wide_cosine-c) → to_z w64 (of_z w64 c.wide_cosine-c.result) ≡ cosine c.args.m
c-is c = read_back w64 c.wide_cosine-c.type_inv c.wide_cosine-c.ensures

pub loop-init : goal.loop-init
loop-init c =
    let z = cosine c.args.m in
    let one : to_z w64 (of_z w64 c.from-a.result) ≡ pos scale = rw c.from-a.ensures in
    (omega arith, one ∙ sym (chain-zero z), c-is (goal.at.loop-init c).After-wide_cosine-c ∙ sym (chain-one z))

pub following-requires : goal.following-requires
following-requires c =
    let m = c.args.m in
    let i = c.loop.counter in (
      rw (c-is (goal.at.following-requires c).After-wide_cosine-c) (cosine-size m c.requires.0),
      rw c.loop.invariant.2 (chain-size m (i + 1) c.requires.0 (omega arith)),
      rw c.loop.invariant.1 (chain-size m i c.requires.0 (omega arith)),
    )

pub loop-preserved : goal.loop-preserved
loop-preserved c =
    let m = c.args.m in
    let i = c.loop.counter in
    let e : c.following.result ≡ chain (cosine m) (i + 1 + 1) =
    c.following.ensures
    ∙ ap₂ (λ (x y : ℤ). nearest x scale -ℤ y)
    (ap₂ (λ (x y : ℤ). pos 2 *ℤ x *ℤ y) (c-is (goal.at.loop-preserved c).After-wide_cosine-c) c.loop.invariant.2) c.loop.invariant.1
    ∙ sym (chain_next (cosine m) i) in
    (omega arith, c.loop.invariant.2, read_back w64 c.following.type_inv e)

pub returns : goal.returns
returns c = c.loop.invariant.1 ∙ ap (chain (cosine c.args.m)) (le_antisymm c.loop.invariant.0 c.loop-test.false)
