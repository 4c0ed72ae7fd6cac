-- `rounded_quotient` meets its contract: it rounds once, and a quotient no further from 0 than a control value fits 32 bits.
use mathlib.Core.Path.{◌≡◌, sym, ap, ◌∙◌, subst}
use native.Mathlib.Omega.{arith}
use lib.IntN.{ℤ}
use mir.Syntax.{w32, w64}
use mir.Val.{SFits, to_z, of_z}
use mir.Facts.{to_z-of_z}
use Rattle.integer.specs.Nearest.{nearest, whole}
use Rattle.integer.proofs.Laws.{sfits-abs, read_back}
use Rattle.integer.proofs.NearestLaws.{nearest-bounded}
use Rattle.sample.specs.Refusal.{max_control}
use Rattle.sample.proofs.BlendLaws.{same-coordinate}
use Rattle.sample.proofs.bernstein.rounded_quotient.Goals.{After-round-quotient, After-struct_told-1, Start}
use Rattle.sample.proofs.bernstein.rounded_quotient.Goals as goal

-- what is asked fits
fits : (s : Start) → SFits w32 (nearest s.args.sum s.args.divisor)
fits s = sfits-abs _ (omega (arith, nearest-bounded s.args.sum s.args.divisor max_control s.requires.least s.requires.within))

-- and is what was rounded
module _ (c : After-struct_told-1) where
  abbrev called : After-round-quotient
  called = (goal.at.After-struct_told-1 c).After-round-quotient

  abbrev start : Start
  start = (goal.at.After-round-quotient called).Start

  rounds : to_z w64 (of_z w64 called.round-quotient.result.value) ≡ nearest start.args.sum start.args.divisor
  rounds = read_back w64 c.struct_told-1.given.0.1 (rw (to_z-of_z start.ranges.sum) at called.round-quotient.ensures.0)

  leaves : called.round-quotient.result.exact ≡ whole start.args.sum start.args.divisor
  leaves = rw (to_z-of_z start.ranges.sum) at called.round-quotient.ensures.2

pub overflow_cast-result : goal.overflow_cast-result
overflow_cast-result c = subst (SFits w32) (sym (rounds c)) (fits (start c))

pub returns : goal.returns
returns c = same-coordinate (ap (λ (z : ℤ). to_z w32 (of_z w32 z)) (rounds c) ∙ to_z-of_z (fits (start c))) (leaves c)
