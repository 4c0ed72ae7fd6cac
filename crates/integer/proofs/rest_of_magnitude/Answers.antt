-- `rest_of_magnitude` meets its contract: the test is the one that sends the quotient up, and the rest and the divisor are far below 2^63.
use Rattle.std.proofs.Common.{◌≡◌, ◌∙◌, ℕ, ◌%◌, ◌<◌, arith, w64, to_z, pos, ◌-ℤ◌, FitsSigned}
use native.Mathlib.Nat.{mod-lt}
use mir.Facts.{to_z-of_z, to_z_pos}
use Rattle.integer.proofs.Laws.{abs--, sfits-abs}
use Rattle.integer.proofs.Rounding.{rest_up, rest-down}
use Rattle.integer.proofs.rest_of_magnitude.Goals.{Start}
use Rattle.integer.proofs.rest_of_magnitude.Goals as goal

-- ---- at the entry: the rest of the division
module _ (s : Start) where
  abbrev rest : ℕ
  rest = s.args.size % s.args.den

  small : rest < s.args.den
  small = mod-lt s.args.size s.requires

  rest-is : to_z w64 rest ≡ pos rest
  rest-is = to_z_pos w64 (omega (arith, small))

  divisor-is : to_z w64 s.args.den ≡ pos s.args.den
  divisor-is = to_z_pos w64 (omega arith)

  less-fits : FitsSigned w64 (pos rest -ℤ pos s.args.den)
  less-fits = sfits-abs (pos rest -ℤ pos s.args.den) (omega (arith, small, abs-- (pos rest) (pos s.args.den)))

pub returns-then-d-rest : goal.returns-then-d-rest
returns-then-d-rest c =
    let s : Start = c.before.before in
    rw (c.from-d.ensures, rest-is s, divisor-is s)
    (to_z-of_z (less-fits s) ∙ rest_up s.args.size s.args.den s.requires (rw c.from-d.ensures at c.if-d-rest.true))

pub returns-else-d-rest : goal.returns-else-d-rest
returns-else-d-rest c =
    let s : Start = c.before.before in
    rw c.from-d.ensures (rest-is s ∙ rest-down s.args.size s.args.den s.requires (rw c.from-d.ensures at c.if-d-rest.false))
