-- `write_point` meets its contract: the three coordinates are stored in order, the other places hold what they held, and the mark is the point's.
use mathlib.Core.Path.{ap, ap₂, ◌∙◌}
use mathlib.Core.List.{List, [], ◌∷◌, ◌++◌}
use lib.IntN.{ℤ}
use lib.ListN.{drop}
use mir.Syntax.{w32}
use Rattle.integer.proofs.Laws.{read_back}
use Rattle.finite.specs.Fold.{indicator}
use Rattle.finite.specs.Filled.{list_below, filled}
use Rattle.control.specs.declared.model.ControlPoint.{ControlPoint}
use Rattle.finite.proofs.Flags.{byte-indicator}
use Rattle.patch.proofs.source.PatchSource.write_point.Goals as goal

pub returns : goal.returns
unfolding filled list_below
returns c =
    let x = read_back w32 c.struct_told-1.given.0.1 (ap (λ (p : ControlPoint ℤ). p.x) c.point-p.ensures) in
    let y = read_back w32 c.struct_told-1.given.1.0.1 (ap (λ (p : ControlPoint ℤ). p.y) c.point-p.ensures) in
    let z = read_back w32 c.struct_told-1.given.1.1.0.1 (ap (λ (p : ControlPoint ℤ). p.z) c.point-p.ensures) in
    record {
      numbers-are =
          ap (λ (t : List ℤ). t ++ drop 3 c.args.point.now)
          (c.copy_from_slice.ensures.after ∙ ap₂ ◌∷◌ x (ap₂ ◌∷◌ y (ap (λ (v : ℤ). v ∷ []) z)));
      mark-is = c.from.ensures ∙ byte-indicator c.point-p.result.exact ∙ ap (λ (p : ControlPoint ℤ). indicator p.exact) c.point-p.ensures;
    }
