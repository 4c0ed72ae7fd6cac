-- `late_refusal` meets its contract: the phases run in the order of the rows, and each decides its row for all vertices.
use mathlib.Core.Path.{◌≡◌, sym, ap, ◌∙◌}
use mathlib.Core.Bool.{true, not, ◌&&◌}
use Prim.Native.Nat.{ℕ, ◌<◌}
use lib.Dec.{eqb}
use mathlib.Core.List.{List, [], ◌∷◌}
use native.Mathlib.Omega.{arith}
use lib.ListN.{length, get_or-replicate}
use borrow.Author.Rules.{rules}
use Rattle.answer.specs.Table.{Row, row}
use Rattle.answer.specs.declared.refusal.Refusal.TheVariants.{Unused, Fan, Valence, InnerTag}
use Rattle.answer.proofs.TableLaws.{From, all-rows, refuse-passed}
use Rattle.finite.specs.Fold.{any_below}
use Rattle.limits.specs.Limits.{max_vertices, corner_tag}
use Rattle.mesh.specs.Fan.{valence, on_boundary, fan}
use Rattle.mesh.specs.IndexedMesh.{IndexedMesh, mesh_in, corners, at, tag}
use Rattle.mesh.specs.Refusal.{vertex_unused, fan_broken, valence_off, inner_tagged, late_rows}
use Rattle.mesh.proofs.ListLaws.{any-front}
use Rattle.mesh.proofs.PhaseLaws.{unused-table, row-out, row-on, row-last}
use Rattle.mesh.proofs.AcceptedLaws.{fan-false}
use Rattle.mesh.proofs.phases.late_refusal.Goals.{After-any_broken, After-any_valence_off, After-contains, In_ok-refuse, In_ok-refuse-2, In_ok-refuse-3}
use Rattle.mesh.proofs.phases.late_refusal.Goals as goal

-- ---- the rows that are left behind 8, 9 and 10
abbrev from-11 : IndexedMesh → List Row
from-11 M = row (inner_tagged M) 11 ∷ []

abbrev from-10 : IndexedMesh → List Row
from-10 M = row (valence_off (at M) (corners M) M.vertices) 10 ∷ from-11 M

abbrev from-9 : IndexedMesh → List Row
from-9 M = row (fan_broken (at M) (corners M) M.vertices) 9 ∷ from-10 M

-- ---- each test is that of the mesh, since the face list has the length of the sizes
unused : (c : After-contains) → (let M = mesh_in c.args.mesh in c.contains.result ≡ vertex_unused (at M) (corners M) M.vertices)
unfolding vertex_unused
unused c =
    let M = mesh_in c.args.mesh in
    c.contains.ensures.value
    ∙ any-front (λ k. eqb k 0) c.count_corners.new.valences 0 M.vertices (let v = c.requires.0.vertices-high in omega (arith, c.count_corners.auto.valences))
    ∙ unused-table M.vertices c.requires.0.vertices-high _ _ c.count_corners.ensures
    ∙ ap (λ (n : ℕ). any_below (λ p. eqb (valence (at M) n p) 0) M.vertices) c.requires.0.indices-are

broken : (c : After-any_broken) → (let M = mesh_in c.args.mesh in c.any_broken.result ≡ fan_broken (at M) (corners M) M.vertices)
broken c = let M = mesh_in c.args.mesh in c.any_broken.ensures ∙ ap (λ (n : ℕ). fan_broken (at M) n M.vertices) c.requires.0.indices-are

off : (c : After-any_valence_off) → (let M = mesh_in c.args.mesh in c.any_valence_off.result ≡ valence_off (at M) (corners M) M.vertices)
off c = let M = mesh_in c.args.mesh in c.any_valence_off.ensures ∙ ap (λ (n : ℕ). valence_off (at M) n M.vertices) c.requires.0.indices-are

-- ---- past each row
after-8 : (c : In_ok-refuse) → From (late_rows (mesh_in c.args.mesh)) (from-9 (mesh_in c.args.mesh))
after-8 c =
    row-on Unused (all-rows (late_rows (mesh_in c.args.mesh))) c.refuse.ensures (unused (goal.at.In_ok-refuse c).After-contains) c.in_ok-refuse.was

module _ (c : In_ok-refuse-2) where
  abbrev mesh₉ : IndexedMesh
  mesh₉ = mesh_in c.args.mesh

  after-9 : From (late_rows mesh₉) (from-10 mesh₉)
  after-9 =
      row-on Fan (after-8 (goal.at.In_ok-refuse-2 c).In_ok-refuse) c.refuse-2.ensures (broken (goal.at.In_ok-refuse-2 c).After-any_broken)
      c.in_ok-refuse-2.was

  -- the corners at each vertex form one fan
  whole : (p : ℕ) → p < mesh₉.vertices → fan (at mesh₉) (length mesh₉.indices) p ≡ true
  whole =
      fan-false (at mesh₉) (length mesh₉.indices) mesh₉.vertices
      (sym c.any_broken.ensures ∙ refuse-passed _ Fan (sym c.refuse-2.ensures ∙ c.in_ok-refuse-2.was))

after-10 : (c : In_ok-refuse-3) → From (late_rows (mesh_in c.args.mesh)) (from-11 (mesh_in c.args.mesh))
after-10 c =
    row-on Valence (after-9 (goal.at.In_ok-refuse-3 c).In_ok-refuse-2) c.refuse-3.ensures (off (goal.at.In_ok-refuse-3 c).After-any_valence_off)
    c.in_ok-refuse-3.was

-- ---- the answers, in the order of the code
pub count_corners-requires : goal.count_corners-requires
count_corners-requires c = (c.requires.1.twinned.indices, omega arith, λ p l. get_or-replicate max_vertices p 0 0 l)

pub returns-in_err-refuse : goal.returns-in_err-refuse
returns-in_err-refuse c =
    row-out Unused (all-rows (late_rows (mesh_in c.args.mesh))) c.refuse.ensures (unused (goal.at.returns-in_err-refuse c).After-contains)
    c.in_err-refuse.was (search rules)

pub returns-in_err-refuse-2 : goal.returns-in_err-refuse-2
returns-in_err-refuse-2 c =
    row-out Fan (after-8 (goal.at.returns-in_err-refuse-2 c).In_ok-refuse) c.refuse-2.ensures (broken (goal.at.returns-in_err-refuse-2 c).After-any_broken)
    c.in_err-refuse-2.was (search rules)

pub any_valence_off-requires-clause-by_index : goal.any_valence_off-requires-clause-by_index
any_valence_off-requires-clause-by_index c =
    whole (goal.at.any_valence_off-requires-clause-by_index c).In_ok-refuse-2

pub returns-in_err-refuse-3 : goal.returns-in_err-refuse-3
returns-in_err-refuse-3 c =
    row-out Valence (after-9 (goal.at.returns-in_err-refuse-3 c).In_ok-refuse-2) c.refuse-3.ensures
    (off (goal.at.returns-in_err-refuse-3 c).After-any_valence_off) c.in_err-refuse-3.was (search rules)

pub any_inner_tagged-requires-clause-by_index : goal.any_inner_tagged-requires-clause-by_index
any_inner_tagged-requires-clause-by_index c =
    whole (goal.at.any_inner_tagged-requires-clause-by_index c).In_ok-refuse-2

pub returns : goal.returns
unfolding inner_tagged
returns c =
    let M = mesh_in c.args.mesh in
    let told =
    c.any_inner_tagged.ensures
    ∙ ap (λ (n : ℕ). any_below (λ p. eqb (tag M p) corner_tag && not (on_boundary (at M) n p)) M.vertices) c.requires.0.indices-are in
    row-last InnerTag (after-10 (goal.at.returns c).In_ok-refuse-3) c.refuse-4.ensures told
