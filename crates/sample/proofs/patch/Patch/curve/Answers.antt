-- `curve` meets its contract: the four columns are small, so that they can be blended, and the four sums are the curve.
use mathlib.Core.Path.{◌≡◌, sym, subst}
use mathlib.Core.List.{List}
use Prim.Native.Nat.{ℕ, ◌+◌, ◌*◌, ◌<◌}
use native.Mathlib.Omega.{arith}
use lib.IntN.{ℤ}
use mir.Syntax.{w64}
use Rattle.integer.proofs.Laws.{read_back}
use Rattle.finite.specs.Filled.{list_below}
use Rattle.sample.specs.Blend.{control_of, Fine, Blendable}
use Rattle.sample.proofs.BlendLaws.{list-of-four, blended-list, column-fine}
use Rattle.sample.proofs.patch.Patch.curve.Goals.{After-blend, After-blend-2, After-blend-3, Start}
use Rattle.sample.proofs.patch.Patch.curve.Goals as goal

-- ---- at the entry: what the blend of column i asks
asked : (s : Start) (i : ℕ) → i < 4 → {values : List ℤ} → values ≡ list_below (λ j. control_of s.args.self.numbers.now s.args.k (i + 4 * j)) 4
    → Blendable s.args.v values
asked s i l e = record { light = s.requires.light; fine = subst Fine (sym e) (column-fine s.args.self.small s.args.k s.requires.axis i l) }

-- ---- the way back from each blend
abbrev start : After-blend → Start
start c = (goal.at.After-blend c).Start

abbrev start-2 : After-blend-2 → Start
start-2 c = start (goal.at.After-blend-2 c).After-blend

abbrev start-3 : After-blend-3 → Start
start-3 c = start-2 (goal.at.After-blend-3 c).After-blend-2

pub blend-requires : goal.blend-requires
blend-requires c = asked c.before 0 (omega arith) c.column.ensures

pub blend-requires-2 : goal.blend-requires-2
blend-requires-2 c = asked (start (goal.at.blend-requires-2 c).After-blend) 1 (omega arith) c.column-2.ensures

pub blend-requires-3 : goal.blend-requires-3
blend-requires-3 c = asked (start-2 (goal.at.blend-requires-3 c).After-blend-2) 2 (omega arith) c.column-3.ensures

pub blend-requires-4 : goal.blend-requires-4
blend-requires-4 c = asked (start-3 (goal.at.blend-requires-4 c).After-blend-3) 3 (omega arith) c.column-4.ensures

pub returns : goal.returns
returns c =
    list-of-four _
    (read_back w64 c.blend.type_inv (blended-list c.args.v _ c.column.ensures c.blend.ensures))
    (read_back w64 c.blend-2.type_inv (blended-list c.args.v _ c.column-2.ensures c.blend-2.ensures))
    (read_back w64 c.blend-3.type_inv (blended-list c.args.v _ c.column-3.ensures c.blend-3.ensures))
    (read_back w64 c.blend-4.type_inv (blended-list c.args.v _ c.column-4.ensures c.blend-4.ensures))
