-- `integer::round` meets its contract: the value, what is left, and whether that is nothing have a function each.
use mir.Syntax.{w64}
use mir.Val.{SFits}
use mir.Facts.{to_z-of_z}
use borrow.Author.Rules.{rules}
use Rattle.integer.proofs.Laws.{read_back}
use Rattle.integer.proofs.round.Goals as goal

pub quotient-requires : goal.quotient-requires
quotient-requires c = search rules

pub rest-requires : goal.rest-requires
rest-requires c = search rules

pub is_whole-requires : goal.is_whole-requires
is_whole-requires c = search rules

pub returns : goal.returns
returns c =
    let r = c.before in
    let q = r.before in
    let f : SFits w64 q.before.args.num = q.before.ranges.num in (
      read_back w64 q.quotient.type_inv (simp (to_z-of_z f) at q.quotient.ensures),
      read_back w64 r.rest.type_inv (simp (to_z-of_z f) at r.rest.ensures),
      simp (to_z-of_z f) at c.is_whole.ensures,
    )
