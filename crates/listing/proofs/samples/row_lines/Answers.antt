-- `row_lines` meets its contract: the points of the row are what the sample call answers at its places; where the row is refused, so is each of them.
use mathlib.Core.Path.{sym, ap}
use Prim.Native.Nat.{◌+◌}
use native.Mathlib.Omega.{arith}
use Rattle.answer.specs.Table.{Answer}
use Rattle.answer.proofs.TableLaws.{result-none, refusal-met}
use Rattle.line.proofs.LineAnswerLaws.{line_refused}
use Rattle.sample.specs.declared.model.Point.{Point}
use Rattle.listing.specs.Listing.{line_of}
use Rattle.listing.proofs.RowLaws.{run-ext}
use Rattle.listing.proofs.samples.row_lines.Goals as goal

pub returns-in-Ok : goal.returns-in-Ok
returns-in-Ok c =
    let p = c.args.p in
    let none = (result-none _ c.in-Ok.ensures.answer-is).0 in
    run-ext (omega arith)
    (λ j l. ap (λ (r : Answer Point). line_of r p.face (p.a + j) p.b) (sym (c.in-Ok.ensures.left.samples-are none (p.a + j) (omega (arith, l)))))
    c.point_lines.ensures

pub returns-in-Err : goal.returns-in-Err
returns-in-Err c =
    let p = c.args.p in
    let placed = c.requires.0 in
    let met = refusal-met tt _ c.in-Err.ensures.answer-is in
    run-ext (omega (arith, placed.a-within))
    (λ j l.
    ap (λ (r : Answer Point). line_of r p.face (p.a + j) p.b)
    (sym (line_refused _ _ _ _ _ (p.a + j) (omega (arith, l, placed.a-within)) (omega (arith, placed.steps-few)) met)))
    c.refused_line.ensures
