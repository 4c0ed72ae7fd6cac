-- `write_points` meets its contract: at each a the list is filled with the points before it, and the three sums are those of a.
use mathlib.Core.Path.{◌≡◌, ap, ◌∙◌}
use Prim.Native.Nat.{ℕ, ◌*◌, ◌≤◌, ◌<◌}
use native.Mathlib.Nat.{le_antisymm}
use native.Mathlib.Omega.{arith}
use lib.ListN.{length}
use Rattle.finite.specs.Filled.{filled}
use Rattle.sample.specs.Refusal.{max_steps}
use Rattle.sample.specs.Blend.{Mean}
use Rattle.line.specs.Differences.{Summable, Tame}
use Rattle.line.specs.Points.{curve_in}
use Rattle.line.proofs.SizedLaws.{read}
use Rattle.line.proofs.LineLaws.{of_three, line_along, curve-summable, drawn-start, drawn-length}
use Rattle.line.proofs.LineLaws.{drawn-asked, drawn-tame, drawn-told, drawn-more}
use Rattle.line.proofs.points.write_points.Goals.{After-along_z-1, After-first_sums-z, After-line-1, After-quotient-p, After-quotient-q}
use Rattle.line.proofs.points.write_points.Goals.{After-quotient-r, After-stepped-z, At-loop-a, In-loop-a, Start}
use Rattle.line.proofs.points.write_points.Goals as goal

-- ---- at the entry: the curve of coordinate k
module _ (s : Start) where
  few : s.args.n ≤ max_steps
  few = (s.requires.curved 0 (omega arith)).most

  summable : (k : ℕ) → k < 3 → Summable s.args.n (curve_in s.args.curves k)
  summable k below = curve-summable (s.requires.curved k below)

abbrev start : After-along_z-1 → Start
start c = (goal.at.After-along_z-1 c).Start

-- ---- at the loop
module _ (c : At-loop-a) where
  abbrev begun : After-first_sums-z
  begun = (goal.at.At-loop-a c).After-first_sums-z

  abbrev entry : Start
  entry = start (goal.at.After-first_sums-z begun).After-along_z-1

  same : length c.loop-a.line ≡ length entry.args.line.now
  same = drawn-length c.loop-a.invariant entry.requires

-- ---- in the loop: a is a place
module _ (c : In-loop-a) where
  abbrev at-loop : At-loop-a
  at-loop = (goal.at.In-loop-a c).At-loop-a

  within : at-loop.loop-a.a ≤ (entry at-loop).args.n
  within = omega (arith, c.loop-a-test.true)

  asked : (k : ℕ) → k < 3 → Mean (let l = at-loop.loop-a in read (of_three l.x l.y l.z k).value) (entry at-loop).args.curves.divisor
  asked = drawn-asked at-loop.loop-a.invariant (entry at-loop).requires within

  tame : (k : ℕ) → k < 3 → Tame (let l = at-loop.loop-a in of_three l.x l.y l.z k)
  tame = drawn-tame at-loop.loop-a.invariant (entry at-loop).requires within

-- ---- the three numbers are there
abbrev past-x : After-quotient-p → In-loop-a
past-x c = (goal.at.After-quotient-p c).In-loop-a

abbrev past-y : After-quotient-q → In-loop-a
past-y c = past-x (goal.at.After-quotient-q c).After-quotient-p

abbrev past-z : After-quotient-r → In-loop-a
past-z c = past-y (goal.at.After-quotient-r c).After-quotient-q

-- ---- they are stored
abbrev numbers : After-line-1 → After-quotient-r
numbers c = (goal.at.After-line-1 c).After-quotient-r

-- ---- and the sums are those of a + 1
abbrev stored : After-stepped-z → After-line-1
stored c = (goal.at.After-stepped-z c).After-line-1

-- ---- the answers, in the order of the code
pub first_sums-x-requires : goal.first_sums-x-requires
first_sums-x-requires c = summable (start c) 0 (omega arith)

pub first_sums-y-requires : goal.first_sums-y-requires
first_sums-y-requires c = summable (start (goal.at.first_sums-y-requires c).After-along_z-1) 1 (omega arith)

pub first_sums-z-requires : goal.first_sums-z-requires
first_sums-z-requires c = summable (start (goal.at.first_sums-z-requires c).After-along_z-1) 2 (omega arith)

pub overflow_add-a-end : goal.overflow_add-a-end
overflow_add-a-end c = omega (arith, few (start (goal.at.overflow_add-a-end c).After-along_z-1))

pub loop-a-init : goal.loop-a-init
loop-a-init c = drawn-start _ _ _ c.first_sums-x.ensures c.first_sums-y.ensures c.first_sums-z.ensures

pub quotient-p-requires : goal.quotient-p-requires
quotient-p-requires c = asked (goal.at.quotient-p-requires c).In-loop-a 0 (omega arith)

pub quotient-q-requires : goal.quotient-q-requires
quotient-q-requires c = asked (past-x (goal.at.quotient-q-requires c).After-quotient-p) 1 (omega arith)

pub quotient-r-requires : goal.quotient-r-requires
quotient-r-requires c = asked (past-y (goal.at.quotient-r-requires c).After-quotient-q) 2 (omega arith)

pub store_point-requires : goal.store_point-requires
store_point-requires c =
    let p = past-z (goal.at.store_point-requires c).After-quotient-r in
    let s = entry (at-loop p) in
    (omega (arith, within p, few s), omega (arith, within p, s.requires.room, same (at-loop p)))

pub stepped-x-requires : goal.stepped-x-requires
stepped-x-requires c = tame (past-z (numbers c)) 0 (omega arith)

pub stepped-y-requires : goal.stepped-y-requires
stepped-y-requires c = tame (past-z (numbers (goal.at.stepped-y-requires c).After-line-1)) 1 (omega arith)

pub stepped-z-requires : goal.stepped-z-requires
stepped-z-requires c = tame (past-z (numbers (goal.at.stepped-z-requires c).After-line-1)) 2 (omega arith)

pub overflow_step-a : goal.overflow_step-a
overflow_step-a c = let p = past-z (numbers (stored c)) in omega (arith, within p, few (entry (at-loop p)))

pub loop-a-smaller : goal.loop-a-smaller
loop-a-smaller c = omega (arith, (past-z (numbers (stored c))).loop-a-test.true)

pub loop-a-preserved : goal.loop-a-preserved
loop-a-preserved c =
    let third = numbers (stored c) in
    let second : After-quotient-q = (goal.at.After-quotient-r third).After-quotient-q in
    let first : After-quotient-p = (goal.at.After-quotient-q second).After-quotient-p in
    let p = past-z third in
    let g = (at-loop p).loop-a.invariant in
    let s = entry (at-loop p) in
    let told = drawn-told g s.requires (within p) in
    rw (stored c).store_point.ensures
    (drawn-more g s.requires (within p)
    (told 0 (omega arith) _ first.quotient-p.type_inv first.quotient-p.ensures)
    (told 1 (omega arith) _ second.quotient-q.type_inv second.quotient-q.ensures)
    (told 2 (omega arith) _ third.quotient-r.type_inv third.quotient-r.ensures)
    c.stepped-x.ensures
    c.stepped-y.ensures
    c.stepped-z.ensures)

pub shape_of-line : goal.shape_of-line
shape_of-line c = same (goal.at.shape_of-line c).At-loop-a

pub returns : goal.returns
returns c =
    let s = (entry (goal.at.returns c).At-loop-a).args in
    c.loop-a.invariant.points
    ∙ ap (λ (a : ℕ). filled (line_along s.n s.curves) (3 * a) s.line.now) (le_antisymm c.loop-a.invariant.within c.loop-a-test.false)
