-- Half-edges, which the user calls sides, and their twins, which the user calls mates, from the vertex `at c` of each of the n corners alone.
-- Half-edge c runs from `at c` to `at (next c)` (rule T2).
--
--   runs at p q d    half-edge d runs from vertex p to vertex q
--   is_twin at c d    half-edge d starts where c ends and ends where c starts (rule T3)
--   twin at n c      the twin of half-edge c, `no_twin` for none. Where refusal 7 does not hold there is at most one.
--   boundary at n c  half-edge c has no twin: it is a boundary half-edge, which the user calls a rim side (rule T4)
--   same_way at c d   c and d run from one vertex to one vertex
--   doubled at n     some half-edge occurs twice the same way round
--   joins at p q c   half-edge c joins the vertices p and q, one way or the other
--   edges at n v     E: how many unordered pairs of different vertices below v a half-edge joins (rule T8)
--   boundaries at n  B: how many boundary half-edges there are (rule T8)
--   Simple at n      no half-edge occurs twice the same way round: `doubled at n` is false
use Rattle.std.specs.Prelude.{◌≡◌, Bool, not, ◌&&◌, ◌||◌, ℕ, ◌<◌, eqb}
use Rattle.std.proofs.Math.Option.{get_or}
use Rattle.finite.specs.Fold.{any_below, sum_below, count_below, least_below}
use Rattle.limits.specs.Limits.{no_twin}
use Rattle.corner.specs.Corner.{next}

abbrev pub runs : (ℕ → ℕ) → ℕ → ℕ → ℕ → Bool
runs at p q d = eqb (at d) p && eqb (at (next d)) q

unfoldable pub is_twin : (ℕ → ℕ) → ℕ → ℕ → Bool
is_twin at c d = runs at (at (next c)) (at c) d

unfoldable pub twin : (ℕ → ℕ) → ℕ → ℕ → ℕ
twin at n c = get_or (least_below (is_twin at c) n) no_twin

unfoldable pub boundary : (ℕ → ℕ) → ℕ → ℕ → Bool
boundary at n c = eqb (twin at n c) no_twin

unfoldable pub same_way : (ℕ → ℕ) → ℕ → ℕ → Bool
same_way at c d = runs at (at c) (at (next c)) d

unfoldable pub doubled : (ℕ → ℕ) → ℕ → Bool
doubled at n = any_below (λ c. any_below (λ d. not (eqb d c) && same_way at c d) n) n

unfoldable pub joins : (ℕ → ℕ) → ℕ → ℕ → ℕ → Bool
joins at p q c = runs at p q c || runs at q p c

-- each pair once, as p below q
unfoldable pub edges : (ℕ → ℕ) → ℕ → ℕ → ℕ
edges at n v = sum_below (λ q. count_below (λ p. any_below (joins at p q) n) q) v

unfoldable pub boundaries : (ℕ → ℕ) → ℕ → ℕ
boundaries at n = count_below (boundary at n) n

abbrev pub Simple : (ℕ → ℕ) → ℕ → Type 0
Simple at n = (c d : ℕ) → c < n → d < n → at c ≡ at d → at (next c) ≡ at (next d) → c ≡ d
