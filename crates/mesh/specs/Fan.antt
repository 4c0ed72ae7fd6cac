-- The corners at a vertex, and circulating about it, which the user calls turning (rules T4 to T7).
--
--   valence at n p     how many corners are at vertex p: n of an inner vertex, k of a boundary vertex
--   on_boundary at n p  a boundary half-edge leaves p: p is a boundary vertex, which the user calls a rim vertex (rule T4)
--   around tw n c      the corner after c about its vertex: where the twin of the half-edge that enters the vertex in the face of c starts
--                      (rule T5), with twins tw; `no_twin` for none, and past the n corners
--   iterate s i c      i steps of s from c
--   fan at n p         the corners at p form one fan, closed or open, which the user calls one closed turn or one chain (rule T7): from some
--                      corner at p, fewer steps than p has corners lead to every corner at p. proofs/MetLaws.antt: that is a
--                      `ClosedTurn` or a `OneChain` (specs/Circulation.antt), and so is meeting all the corners by circulating from any one.
use Rattle.std.specs.Prelude.{Bool, true, false, cond, ◌&&◌, ◌||◌, ℕ, zero, suc, ◌+◌, eqb, ltb}
use Rattle.finite.specs.Fold.{any_below, gather}
use Rattle.limits.specs.Limits.{no_twin}
use Rattle.corner.specs.Corner.{prev}
use Rattle.mesh.specs.HalfEdge.{twin, boundary}

-- some corner at p has t; every corner at p has t
abbrev pub any_at : (ℕ → ℕ) → ℕ → ℕ → (ℕ → Bool) → Bool
any_at at n p t = gather false ◌||◌ at t n p

abbrev pub all_at : (ℕ → ℕ) → ℕ → ℕ → (ℕ → Bool) → Bool
all_at at n p t = gather true ◌&&◌ at t n p

unfoldable pub valence : (ℕ → ℕ) → ℕ → ℕ → ℕ
valence at n p = gather 0 ◌+◌ at (λ c. 1) n p

unfoldable pub on_boundary : (ℕ → ℕ) → ℕ → ℕ → Bool
on_boundary at n p = any_at at n p (boundary at n)

unfoldable pub around : (ℕ → ℕ) → ℕ → ℕ → ℕ
around tw n c = cond (ltb c n) (tw (prev c)) no_twin

unfoldable pub iterate : (ℕ → ℕ) → ℕ → ℕ → ℕ
iterate s zero c = c
iterate s (suc i) c = s (iterate s i c)

-- the same for any step s about a vertex
unfoldable pub fan_by : (ℕ → ℕ) → (ℕ → ℕ) → ℕ → ℕ → Bool
fan_by s at n p = any_at at n p (λ c. all_at at n p (λ d. any_below (λ i. eqb (iterate s i c) d) (valence at n p)))

unfoldable pub fan : (ℕ → ℕ) → ℕ → ℕ → Bool
fan at n p = fan_by (around (twin at n) n) at n p
