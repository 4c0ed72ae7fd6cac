-- `numbers` meets its contract: each place was made by one call, which keeps the function's captures.
use Rattle.std.proofs.Common.{◌≡◌, refl, pos, rules}
use Rattle.tangent.proofs.SideLaws.{made-by}
use Rattle.tangent.proofs.writer.FaceSource.numbers.Goals as goal

pub returns : goal.returns
returns c =
    let a = c.args in
    made-by _ (λ p. p.0.now ≡ a.self) _ 72
    (λ p q i y l h e. let made = e.met in search rules) _ refl _ (pos 0) c.from_fn.ensures.items
