-- What a passed test of a range gives, and a test in two steps.
use mathlib.Core.Path.{◌≡◌, sym, ap, ◌∙◌}
use mathlib.Core.Bool.{Bool, true, false, ◌||◌}
use Prim.Native.Nat.{ℕ, ◌≤◌, ◌<◌}
use lib.Dec.{ltb}
use borrow.Author.Tests.{lt-ltb, le-ltb, ltb-true, ltb-false}
use Rattle.finite.proofs.FoldLaws.{bool_cases}
use Rattle.finite.proofs.AnyAll.{or-false}
use Rattle.limits.specs.Range.{off}

pub off-false : (a b x : ℕ) → off a b x ≡ false → (a ≤ x) × (x ≤ b)
off-false a b x e = let h = or-false (ltb x a) (ltb b x) e in (ltb-false x a h.0, ltb-false b x h.1)

-- a test in two steps, of which the first said b
pub or-found : (b x y : Bool) → b ≡ x → b ≡ true → true ≡ (x || y)
or-found b x y e q = sym (ap (λ (t : Bool). t || y) (sym e ∙ q))

pub or-passed : (b x y w : Bool) → b ≡ x → b ≡ false → w ≡ y → w ≡ (x || y)
or-passed b x y w e q h = h ∙ sym (ap (λ (t : Bool). t || y) (sym e ∙ q))

-- two tests that hold and fail together
pub ltb-same : (a b c d : ℕ) → (a < b → c < d) → (b ≤ a → d ≤ c) → ltb a b ≡ ltb c d
ltb-same a b c d below above =
    bool_cases (ltb a b) (λ t. t ∙ sym (lt-ltb c d (below (ltb-true a b t)))) (λ e. e ∙ sym (le-ltb c d (above (ltb-false a b e))))
