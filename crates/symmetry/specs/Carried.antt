-- Lists that go along where the vertices of a mesh, or its half-edges, are numbered anew: what one of them had it keeps under its new number.
--
--   Carried z to n xs ys   ys is as long as xs, and has at place `to i` what xs has at place i, for each i below n; z is read beyond the ends
--   threes to i            the new place of number i in a list with three numbers a vertex, 3p, 3p + 1 and 3p + 2 of vertex p, which becomes `to p`
--   list_from z from n xs   the list with n places that has at place i what xs has at `from i`
use Rattle.std.specs.Prelude.{◌≡◌, List, ℕ, ◌+◌, ◌*◌, ◌/◌, ◌%◌, ◌<◌, length, get_or}
use Rattle.finite.specs.Filled.{list_below}

pub record Carried {A : Type 0} (z : A) (to : ℕ → ℕ) (n : ℕ) (xs ys : List A) : Type 0 where
  pub same_length : length ys ≡ length xs
  pub moves : (i : ℕ) → i < n → get_or ys (to i) z ≡ get_or xs i z

abbrev pub threes : (ℕ → ℕ) → ℕ → ℕ
threes to i = 3 * to (i / 3) + i % 3

abbrev pub list_from : {A : Type 0} → A → (ℕ → ℕ) → ℕ → List A → List A
list_from z from n xs = list_below (λ i. get_or xs (from i) z) n
