-- `side_parts` meets its contract: each place was made by one call, which keeps the function's captures.
use Rattle.std.proofs.Common.{◌≡◌, refl, pos, rules}
use Rattle.tangent.proofs.SideLaws.{made-by}
use Rattle.tangent.proofs.parts.side_parts.Goals as goal

pub returns : goal.returns
returns c =
    let a = c.args in
    made-by _ (λ p. (p.0.now ≡ a.tables) × (p.1.now ≡ a.valences.now) × (p.2.now ≡ a.g)) _ 72
    (λ p q j y l h e. let made = e.met in search rules) _ (refl, refl, refl) _ (pos 0) c.from_fn.ensures.items
