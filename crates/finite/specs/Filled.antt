-- What stands in a lent list afterwards, where its first n places were written and the others were not touched.
--
--   list_below f n    the list f 0, f 1, .., f (n - 1)
--   filled f n d     the list d, but with f i at each place i below n
use Rattle.std.specs.Prelude.{List, [], ◌∷◌, ◌++◌, ℕ, zero, suc, drop}

unfoldable pub list_below : {A : Type 0} → (ℕ → A) → ℕ → List A
list_below f zero = []
list_below f (suc n) = list_below f n ++ (f n ∷ [])

unfoldable pub filled : {A : Type 0} → (ℕ → A) → ℕ → List A → List A
unfolding list_below
filled f n d = list_below f n ++ drop n d
