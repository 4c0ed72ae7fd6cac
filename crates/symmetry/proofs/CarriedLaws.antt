-- A list goes along with a permutation of its places exactly where it is made by the old number of each.
--
--   threes_of r       the places of a list with three numbers each, as the permutation r of their owners moves them
use mathlib.Core.Path.{◌≡◌, sym, ap, ◌∙◌}
use mathlib.Core.List.{List}
use Prim.Native.Nat.{ℕ, ◌+◌, ◌*◌, ◌/◌, ◌%◌, ◌<◌}
use native.Mathlib.Omega.{arith}
use lib.ListN.{length, get_or}
use Rattle.finite.specs.Permutation.{Permutation}
use Rattle.finite.proofs.FilledLaws.{length-list_below, list_below-at, list-below}
use Rattle.symmetry.specs.Carried.{Carried, threes, list_from}

module _ {A : Type 0} (z : A) {n : ℕ} (r : Permutation n) (xs : List A) (whole : length xs ≡ n) where
  pub carried-list : Carried z r.to n xs (list_from z r.from n xs)
  carried-list = record {
    same_length = length-list_below _ n ∙ sym whole;
    moves = λ i l. list_below-at _ n (r.to i) z (r.to_below i l) ∙ ap (λ (j : ℕ). get_or xs j z) (r.from-to i l);
  }

  pub carried-made : (ys : List A) → Carried z r.to n xs ys → ys ≡ list_from z r.from n xs
  carried-made ys c =
      list-below ys z n _ (c.same_length ∙ whole) (λ i l.
      ap (λ (j : ℕ). get_or ys j z) (sym (r.to-from i l)) ∙ c.moves (r.from i) (r.from-below i l))

-- ---- three numbers a vertex
pub threes-back : (f g : ℕ → ℕ) (n : ℕ) → ((p : ℕ) → p < n → g (f p) ≡ p) → (i : ℕ) → i < 3 * n → threes g (threes f i) ≡ i
threes-back f g n back i l =
    let q : ℕ = f (i / 3) in
    let e : (3 * q + i % 3) / 3 ≡ q = omega arith in
    let k : (3 * q + i % 3) % 3 ≡ i % 3 = omega arith in
    let b : g q ≡ i / 3 = back (i / 3) (omega arith) in
    rw (e, k, b) (omega arith)

pub threes-below : (f : ℕ → ℕ) (n : ℕ) → ((p : ℕ) → p < n → f p < n) → (i : ℕ) → i < 3 * n → threes f i < 3 * n
threes-below f n below i l = let b : f (i / 3) < n = below (i / 3) (omega arith) in omega arith

unfoldable pub threes_of : {n : ℕ} → Permutation n → Permutation (3 * n)
threes_of {n} r = record {
  to = threes r.to;
  from = threes r.from;
  to_below = threes-below r.to n r.to_below;
  from-below = threes-below r.from n r.from-below;
  from-to = threes-back r.to r.from n r.from-to;
  to-from = threes-back r.from r.to n r.to-from;
}

-- number k of vertex p
pub three-moves : (to : ℕ → ℕ) (n : ℕ) {A : Type 0} {z : A} {xs ys : List A} → Carried z (threes to) (3 * n) xs ys
    → (p k : ℕ) → p < n → k < 3 → get_or ys (3 * to p + k) z ≡ get_or xs (3 * p + k) z
three-moves to n {z = z} {ys = ys} c p k l h =
    let e : (3 * p + k) / 3 ≡ p = omega arith in
    let f : (3 * p + k) % 3 ≡ k = omega arith in
    rw (e, f) at (c.moves (3 * p + k) (omega arith))
