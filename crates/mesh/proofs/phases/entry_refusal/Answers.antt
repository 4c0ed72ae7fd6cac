-- `entry_refusal` meets its contract: the rows of the lists come first; where none of them is met the faces name known vertices, so that the corners
-- can be chained, which decides row 7.
use mathlib.Core.Path.{◌≡◌, sym, ap, ◌∙◌, subst}
use mathlib.Core.List.{List, [], ◌∷◌}
use mathlib.Core.Option.{none}
use Rattle.answer.specs.Table.{Row, row, first_met, refused}
use Rattle.answer.specs.declared.refusal.Refusal.TheVariants.{HalfEdgeTwice}
use Rattle.answer.proofs.TableLaws.{all-rows, none-append}
use Rattle.mesh.specs.IndexedMesh.{IndexedMesh, mesh_in, at}
use Rattle.mesh.specs.Refusal.{half_edge_twice, list_rows, entry_rows}
use Rattle.mesh.specs.HalfEdge.{doubled}
use Rattle.mesh.specs.Tables.{Indices, Chained}
use Prim.Native.Nat.{ℕ}
use lib.ListN.{length}
use Rattle.mesh.proofs.SizeLaws.{listed-indices}
use Rattle.mesh.proofs.AcceptedLaws.{lists-unmet, vertex-false}
use Rattle.mesh.proofs.PhaseLaws.{row-last, refuse-none}
use Rattle.mesh.proofs.phases.entry_refusal.Goals.{In_ok-list_refusal}
use Rattle.mesh.proofs.phases.entry_refusal.Goals as goal

-- the row behind those of the lists
abbrev row-7 : IndexedMesh → List Row
row-7 M = row (half_edge_twice M) 7 ∷ []

-- ---- past 6: no row of the lists is met
module _ (c : In_ok-list_refusal) where
  abbrev mesh : IndexedMesh
  mesh = mesh_in c.args.mesh

  no-list-row : first_met (list_rows mesh) ≡ none
  no-list-row = c.list_refusal.ensures ∙ ap refused c.in_ok-list_refusal.was

  only-row-7 : first_met (entry_rows mesh) ≡ first_met (row-7 mesh)
  only-row-7 = none-append (list_rows mesh) (row-7 mesh) no-list-row

  indices : Indices mesh.indices (length mesh.indices)
  indices = listed-indices mesh c.requires.0 (vertex-false mesh (lists-unmet mesh no-list-row))

pub link_corners-requires : goal.link_corners-requires
link_corners-requires c = (indices (goal.at.link_corners-requires c).In_ok-list_refusal, c.requires.1)

pub returns : goal.returns
unfolding half_edge_twice
returns c =
    let p = (goal.at.returns c).In_ok-list_refusal in
    let M = mesh p in
    let sized = c.requires.0.indices-are in
    let told = c.link_corners.ensures.value ∙ ap (doubled (at M)) sized in
    record {
      first = only-row-7 p ∙ row-last HalfEdgeTwice (all-rows (row-7 M)) c.refuse.ensures told;
      chained = λ e.
          subst (λ (n : ℕ). Chained (at M) n c.link_corners.new.tables.head c.link_corners.new.tables.link) sized
          (c.link_corners.ensures.chained (refuse-none _ HalfEdgeTwice (sym (ap refused c.refuse.ensures) ∙ e)));
    }
