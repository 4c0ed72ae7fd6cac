-- Rounding: to the nearest whole number and, of two that are equally near, to the even one (rule I1).
--   IsNearest num den r   r is such a whole number for num / den
--   nearest num den       that whole number, computed (`proofs/NearestLaws.antt`: it is one, and there is no other)
--   nearest_ℕ a d          the same for a / d of two naturals
--   half_even q r d        q or q + 1, by the rest r of a division by d whose quotient is q
--   remainder num den     what rounding num / den leaves (rule I5)
--   whole num den         nothing is left: the quotient is a whole number
use Rattle.std.specs.Prelude.{Bool, cond, ◌≡◌, ℕ, zero, suc, ◌+◌, ◌*◌, ◌/◌, ◌%◌, ◌≤◌, eqb, ltb, ℤ, pos, negsuc, neg_ℤ, nat_abs, ◌-ℤ◌, ◌*ℤ◌}

-- |num/den - r| ≤ 1/2, and r is even where it is 1/2; both sides are multiplied by 2 den
pub record IsNearest (num : ℤ) (den : ℕ) (r : ℤ) : Type 0 where
  pub near : 2 * nat_abs (num -ℤ r *ℤ pos den) ≤ den
  pub even : 2 * nat_abs (num -ℤ r *ℤ pos den) ≡ den → nat_abs r % 2 ≡ 0

-- r/d is below a half: down; above a half: up; a half: to the even one of q and q + 1
unfoldable pub half_even : ℕ → ℕ → ℕ → ℕ
half_even q r d = cond (ltb (2 * r) d) q (cond (ltb d (2 * r)) (q + 1) (q + q % 2))

-- a divisor 0 gives 0, which makes the function total: no rule has one (rule I3)
unfoldable pub nearest_ℕ : ℕ → ℕ → ℕ
nearest_ℕ a zero = 0
nearest_ℕ a (suc d) = half_even (a / suc d) (a % suc d) (suc d)

-- the magnitude is rounded, and the sign put back; a divisor 0 gives 0 here too
unfoldable pub nearest : ℤ → ℕ → ℤ
nearest (pos a) d = pos (nearest_ℕ a d)
nearest (negsuc a) d = neg_ℤ (pos (nearest_ℕ (suc a) d))

unfoldable pub remainder : ℤ → ℕ → ℤ
remainder num den = num -ℤ nearest num den *ℤ pos den

abbrev pub whole : ℤ → ℕ → Bool
whole num den = eqb (nat_abs (remainder num den)) 0
