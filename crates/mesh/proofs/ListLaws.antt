-- What the library's chains say of the front of a list, as folds over the numbers below n.
use mathlib.Core.Path.{◌≡◌, ap, ◌∙◌}
use mathlib.Core.Bool.{Bool, false, ◌||◌}
use mathlib.Core.List.{List, ◌++◌}
use Prim.Native.Nat.{ℕ, ◌+◌, ◌≤◌, ◌<◌}
use native.Mathlib.Omega.{arith}
use lib.ListN.{length, get_or, take, drop, length-take}
use Rattle.std.specs.List.{list_any}
use Rattle.std.proofs.lemmas.List.{get_or-take}
use Rattle.finite.specs.Fold.{any_below, count_below, indicator}
use Rattle.finite.specs.Filled.{filled}
use Rattle.finite.proofs.FilledLaws.{list-below, length-filled, filled_at}
use Rattle.finite.proofs.FoldLaws.{fold-ext}
use Rattle.finite.proofs.Lists.{any-of-list}

-- the first n entries of a list
pub any-front : {A : Type 0} (p : A → Bool) (xs : List A) (d : A) (n : ℕ) → n ≤ length xs → list_any p (take n xs) ≡ any_below (λ i. p (get_or xs i d)) n
any-front p xs d n l =
    any-of-list p (take n xs) d
    ∙ ap (any_below (λ i. p (get_or (take n xs) i d))) (length-take n xs ∙ omega arith)
    ∙ fold-ext false ◌||◌ n (λ k q. ap p (get_or-take n xs k d q))

-- a count over the front of a list
pub count-front : (q : ℕ → ℕ → Bool) (xs : List ℕ) (n : ℕ) → n ≤ length xs
    → count_below (λ i. q i (get_or (take n xs) i 0)) (length (take n xs)) ≡ count_below (λ i. q i (get_or xs i 0)) n
count-front q xs n l =
    ap (count_below (λ i. q i (get_or (take n xs) i 0))) (length-take n xs ∙ omega arith)
    ∙ fold-ext 0 ◌+◌ n (λ k b. ap (λ (x : ℕ). indicator (q k x)) (get_or-take n xs k 0 b))

-- a front that was lent and came back filled, and what stands behind it
pub filled-front : (f : ℕ → ℕ) (n : ℕ) (d xs : List ℕ) → length xs ≡ n → ((k : ℕ) → k < n → get_or xs k 0 ≡ f k) → xs ++ drop n d ≡ filled f n d
unfolding filled
filled-front f n d xs e h = ap (λ (t : List ℕ). t ++ drop n d) (list-below xs 0 n f e h)

-- the same where the front was filled place by place
pub filled-lent : (f : ℕ → ℕ) (n c : ℕ) (d xs : List ℕ) → n ≤ length d → c ≡ n → xs ≡ filled f c (take n d) → xs ++ drop n d ≡ filled f n d
filled-lent f n c d xs l e q =
    let long : length (take n d) ≡ n = length-take n d ∙ omega arith in
    let here : xs ≡ filled f n (take n d) = q ∙ ap (λ (k : ℕ). filled f k (take n d)) e in
    filled-front f n d xs (ap length here ∙ length-filled f n (take n d) (omega arith) ∙ long)
    (λ k b. ap (λ (t : List ℕ). get_or t k 0) here ∙ filled_at f n k (take n d) 0 b)
