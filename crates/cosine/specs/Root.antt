-- The whole part of a square root (rule D3).
--
--   RootFrom x r b   the root of x is r or more, and below r + b
--   IsRoot x r       its whole part is r
--   root k x         that whole part for x below 4^k, by its k binary digits: those of the root of x / 4 come first, and the last one is 1
--                    where that is not too much (`proofs/RootLaws.antt`: it is the whole part, and there is no other)
use Rattle.std.specs.Prelude.{cond, ℕ, zero, suc, ◌+◌, ◌*◌, ◌/◌, ◌≤◌, ◌<◌, leb}

pub record RootFrom (x r b : ℕ) : Type 0 where
  pub low : r * r ≤ x
  pub high : x < (r + b) * (r + b)

abbrev pub IsRoot : ℕ → ℕ → Type 0
IsRoot x r = RootFrom x r 1

-- the digits r and one digit more
abbrev pub with_digit : ℕ → ℕ → ℕ
with_digit x r = cond (leb ((2 * r + 1) * (2 * r + 1)) x) (2 * r + 1) (2 * r)

unfoldable pub root : ℕ → ℕ → ℕ
root zero x = 0
root (suc k) x = with_digit x (root k (x / 4))
