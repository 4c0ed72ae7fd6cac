-- `point` meets its contract: each kind of point has its own function, or its table.
use mathlib.Core.Path.{◌∙◌}
use Rattle.finite.specs.Fold.{fold_below}
use Rattle.control.specs.Control.{weight_at, inner_at, along_at, before_at}
use Rattle.patch.specs.Written.{PatchLists, point_from, exact_from}
use Rattle.patch.specs.Sources.{lists_in}
use Rattle.patch.proofs.MaskLaws.{inner-at-sized, along-at-sized, before-at-sized, point-narrow}
use Rattle.patch.proofs.source.PatchSource.point.Goals.{Start}
use Rattle.patch.proofs.source.PatchSource.point.Goals as goal

-- ---- at the entry: what the point is made from
abbrev lists : Start → PatchLists
lists s = lists_in s.args.self

pub narrowed-requires : goal.narrowed-requires
narrowed-requires c =
    let s : Start = (goal.at.narrowed-requires c).Start in
    let D = lists s in
    point-narrow (λ k. along_at D.values D.links D.weights k s.args.c)
    (λ k. along-at-sized s.args.self.serves.bounded k D.links D.weights s.args.c) c.along_point.ensures

pub narrowed-requires-in-Before : goal.narrowed-requires-in-Before
narrowed-requires-in-Before c =
    let s : Start = (goal.at.narrowed-requires-in-Before c).Start in
    let D = lists s in
    point-narrow (λ k. before_at D.values D.links D.weights k s.args.c)
    (λ k. before-at-sized s.args.self.serves.bounded k D.links D.weights s.args.c) c.before_point.ensures

pub narrowed-requires-in-Inner : goal.narrowed-requires-in-Inner
narrowed-requires-in-Inner c =
    let s : Start = (goal.at.narrowed-requires-in-Inner c).Start in
    let D = lists s in
    let w = weight_at D.weights s.args.c in
    point-narrow (λ k. inner_at D.values w k s.args.c)
    (λ k. inner-at-sized s.args.self.serves.bounded k w s.args.c) c.inner_point.ensures

pub returns-in-Corner : goal.returns-in-Corner
unfolding point_from exact_from
returns-in-Corner c = rw c.in-Corner.is c.vertex_point.ensures

pub returns-in-Along : goal.returns-in-Along
unfolding point_from exact_from fold_below
returns-in-Along c = rw c.in-Along.is (c.narrowed.ensures ∙ c.along_point.ensures)

pub returns-in-Before : goal.returns-in-Before
unfolding point_from exact_from fold_below
returns-in-Before c = rw c.in-Before.is (c.narrowed-in-Before.ensures ∙ c.before_point.ensures)

pub returns-in-Inner : goal.returns-in-Inner
unfolding point_from exact_from fold_below
returns-in-Inner c = rw c.in-Inner.is (c.narrowed-in-Inner.ensures ∙ c.inner_point.ensures)
