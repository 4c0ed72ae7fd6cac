-- `early_refusal` meets its contract: sizes first, then what the caller met of its own, then the rows of the entries.
use mathlib.Core.Path.{◌≡◌, sym, ap, ◌∙◌}
use mathlib.Core.Bool.{false}
use borrow.Author.Rules.{rules}
use Rattle.std.specs.Prelude.{Err}
use Rattle.answer.specs.Table.{refused}
use Rattle.answer.specs.declared.refusal.Refusal.TheVariants.{Sizes}
use Rattle.answer.proofs.TableLaws.{skipped, some-append, none-append, refuse-passed}
use Rattle.mesh.specs.IndexedMesh.{mesh_in}
use Rattle.mesh.specs.Refusal.{mesh_sizes_off, entry_rows}
use Rattle.mesh.proofs.SizeLaws.{mesh-sizes-false}
use Rattle.mesh.proofs.phases.early_refusal.Goals.{In_ok-refuse}
use Rattle.mesh.proofs.phases.early_refusal.Goals as goal

-- ---- past 1
sizes : (c : In_ok-refuse) → mesh_sizes_off (mesh_in c.args.mesh) ≡ false
sizes c = sym c.sizes_off-off.ensures ∙ refuse-passed _ Sizes (sym c.refuse.ensures ∙ c.in_ok-refuse.was)

pub returns-in_err-own : goal.returns-in_err-own
returns-in_err-own c =
    let M = mesh_in c.args.mesh in
    let out : c.from_residual-in_err-own.result ≡ Err c.in_err-own.field-0.0 = search rules in
    let met = ap refused out in
    record {
      first = λ rows e.
          skipped 1 _ (sizes (goal.at.returns-in_err-own c).In_ok-refuse) ∙ some-append rows (entry_rows M) (e ∙ ap refused c.in_err-own.was) ∙ sym met;
      chained = λ e. cc;
    }

pub entry_refusal-requires : goal.entry_refusal-requires
entry_refusal-requires c = (mesh-sizes-false (mesh_in c.args.mesh) (sizes (goal.at.entry_refusal-requires c).In_ok-refuse), c.requires)

pub returns : goal.returns
returns c =
    let said = c.entry_refusal.ensures in
    record {
      first = λ rows e.
          skipped 1 _ (sizes (goal.at.returns c).In_ok-refuse)
          ∙ none-append rows (entry_rows (mesh_in c.args.mesh)) (e ∙ ap refused c.in_ok-own.was) ∙ said.first;
      chained = said.chained;
    }
