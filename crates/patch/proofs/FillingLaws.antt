-- The front of a list that a pass fills place by place.
use mathlib.Core.Path.{◌≡◌, ap, ◌∙◌}
use mathlib.Core.List.{List, ◌++◌}
use Prim.Native.Nat.{ℕ, ◌≤◌}
use native.Mathlib.Omega.{arith}
use lib.ListN.{length, get_or, take, drop, length-take}
use Rattle.finite.specs.Filled.{filled}
use Rattle.finite.proofs.FilledLaws.{filled_at, length-filled, list-below}

-- the front of a list that was lent, and came back filled place by place
pub filled-lent : {A : Type 0} (f : ℕ → A) (n c : ℕ) (d xs : List A) → n ≤ length d → c ≡ n → xs ≡ filled f c (take n d) → xs ++ drop n d ≡ filled f n d
unfolding filled
filled-lent {A} f n c d xs l e q =
    let long : length (take n d) ≡ n = length-take n d ∙ omega arith in
    let here : xs ≡ filled f n (take n d) = q ∙ ap (λ (k : ℕ). filled f k (take n d)) e in
    ap (λ (t : List A). t ++ drop n d)
    (list-below xs (f 0) n f (ap length here ∙ length-filled f n (take n d) (omega arith) ∙ long)
    (λ k b. ap (λ (t : List A). get_or t k (f 0)) here ∙ filled_at f n k (take n d) (f 0) b))
