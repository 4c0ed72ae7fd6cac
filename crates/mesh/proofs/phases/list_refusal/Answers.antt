-- `list_refusal` meets its contract: each row's test is that of the mesh, since the lists have the lengths of the sizes.
use mathlib.Core.List.{List, [], ◌∷◌}
use mathlib.Core.Path.{◌∙◌}
use borrow.Author.Rules.{rules}
use Rattle.answer.specs.Table.{Row, row}
use Rattle.answer.specs.declared.refusal.Refusal.TheVariants.{Coordinate, Tag, Vertex, VertexTwice}
use Rattle.answer.proofs.TableLaws.{From, all-rows}
use Rattle.mesh.specs.IndexedMesh.{IndexedMesh, mesh_in}
use Rattle.mesh.specs.Refusal.{list_rows, tag_off, vertex_off, vertex_twice}
use Rattle.mesh.proofs.PhaseLaws.{row-out, row-on, row-last}
use Rattle.mesh.proofs.SizeLaws.{coordinates-sized, tags-sized, vertices-sized, twice-sized}
use Rattle.mesh.proofs.phases.list_refusal.Goals.{In_ok-refuse, In_ok-refuse-2, In_ok-refuse-3}
use Rattle.mesh.proofs.phases.list_refusal.Goals as goal

-- ---- the rows that are left behind 3, 4 and 5
abbrev from-6 : IndexedMesh → List Row
from-6 M = row (vertex_twice M) 6 ∷ []

abbrev from-5 : IndexedMesh → List Row
from-5 M = row (vertex_off M) 5 ∷ from-6 M

abbrev from-4 : IndexedMesh → List Row
from-4 M = row (tag_off M) 4 ∷ from-5 M

after-3 : (c : In_ok-refuse) → From (list_rows (mesh_in c.args.mesh)) (from-4 (mesh_in c.args.mesh))
after-3 c =
    let M = mesh_in c.args.mesh in
    row-on Coordinate (all-rows (list_rows M)) c.refuse.ensures (c.any_coordinate_off.ensures ∙ coordinates-sized M c.requires) c.in_ok-refuse.was

after-4 : (c : In_ok-refuse-2) → From (list_rows (mesh_in c.args.mesh)) (from-5 (mesh_in c.args.mesh))
after-4 c =
    let M = mesh_in c.args.mesh in
    row-on Tag (after-3 (goal.at.In_ok-refuse-2 c).In_ok-refuse) c.refuse-2.ensures (c.any_tag_off.ensures ∙ tags-sized M c.requires) c.in_ok-refuse-2.was

after-5 : (c : In_ok-refuse-3) → From (list_rows (mesh_in c.args.mesh)) (from-6 (mesh_in c.args.mesh))
after-5 c =
    let M = mesh_in c.args.mesh in
    row-on Vertex (after-4 (goal.at.In_ok-refuse-3 c).In_ok-refuse-2) c.refuse-3.ensures (c.any_vertex_off.ensures ∙ vertices-sized M c.requires)
    c.in_ok-refuse-3.was

-- ---- the answers, in the order of the code
pub returns-in_err-refuse : goal.returns-in_err-refuse
returns-in_err-refuse c =
    let M = mesh_in c.args.mesh in
    row-out Coordinate (all-rows (list_rows M)) c.refuse.ensures (c.any_coordinate_off.ensures ∙ coordinates-sized M c.requires)
    c.in_err-refuse.was (search rules)

pub returns-in_err-refuse-2 : goal.returns-in_err-refuse-2
returns-in_err-refuse-2 c =
    let M = mesh_in c.args.mesh in
    row-out Tag (after-3 (goal.at.returns-in_err-refuse-2 c).In_ok-refuse) c.refuse-2.ensures (c.any_tag_off.ensures ∙ tags-sized M c.requires)
    c.in_err-refuse-2.was (search rules)

pub returns-in_err-refuse-3 : goal.returns-in_err-refuse-3
returns-in_err-refuse-3 c =
    let M = mesh_in c.args.mesh in
    row-out Vertex (after-4 (goal.at.returns-in_err-refuse-3 c).In_ok-refuse-2) c.refuse-3.ensures
    (c.any_vertex_off.ensures ∙ vertices-sized M c.requires) c.in_err-refuse-3.was (search rules)

pub returns : goal.returns
returns c =
    let M = mesh_in c.args.mesh in
    row-last VertexTwice (after-5 (goal.at.returns c).In_ok-refuse-3) c.refuse-4.ensures (c.any_vertex_twice.ensures ∙ twice-sized M c.requires)
