-- What the generator is told, for the contracts of private functions.
--
--   FactorsOf num q   two factors of the numerator num, so small that their product over n R can be rounded
use Rattle.std.specs.Prelude.{◌≡◌, ◌^◌, ◌≤◌, ℤ, nat_abs, ◌*ℤ◌}
use Rattle.cosine.specs.declared.generator.Numerator.{Numerator}

pub record FactorsOf (num : ℤ) (q : Numerator) : Type 0 where
  pub product : q.factor *ℤ q.value ≡ num
  pub factor-small : nat_abs q.factor ≤ 2 ^ 23
  pub value-small : nat_abs q.value ≤ 2 ^ 21
