-- `fill_patches` meets its contract: the values, rules, weights, ends and links of the mesh make its corner points, and all these tables its patches.
use mathlib.Core.Path.{◌∙◌}
use Prim.Native.Nat.{◌*◌, ◌≤◌}
use native.Mathlib.Nat.{lt_of_lt_of_le}
use native.Mathlib.Omega.{arith}
use lib.ListN.{length, replicate}
use Rattle.std.specs.Prelude.{false, true}
use Rattle.finite.proofs.FilledLaws.{filled-ext}
use Rattle.limits.specs.Limits.{max_vertices, max_faces}
use Rattle.mesh.specs.IndexedMesh.{IndexedMesh, mesh_in}
use Rattle.patch.specs.PatchTables.{Rendered, Valued}
use Rattle.patch.specs.Written.{patch_lists, Tables}
use Rattle.patch.specs.Patch.{shape}
use Rattle.patch.proofs.TableLaws.{same-all, valence-seen, accepted-whole, accepted-indices, valence-range, accepted-valued}
use Rattle.patch.proofs.RuledLaws.{rendered-links, rendered-mesh, corner-source, ruled-points}
use Rattle.patch.proofs.SourceLaws.{source, number-written, mark-written}
use Rattle.patch.proofs.fill.fill_patches.Goals.{After-fill_corners, After-fill_values, Start}
use Rattle.patch.proofs.fill.fill_patches.Goals as goal

-- ---- the mesh fits the tables
module _ (s : Start) where
  abbrev mesh : IndexedMesh
  mesh = mesh_in s.args.mesh

  vertices-few : length s.args.mesh.tags.now ≤ max_vertices
  vertices-few = let size = s.requires.accepted.sized in omega (arith, size.tags-are, size.vertices-high)

  corners-few : length s.args.mesh.indices.now ≤ 4 * max_faces
  corners-few = let size = s.requires.accepted.sized in omega (arith, size.indices-are, size.faces-high)

pub render-requires : goal.render-requires
render-requires c =
    let s = (goal.at.render-requires c).Start in
    let a = s.requires.accepted in
    record {
      source = record {
        few = vertices-few s;
        indices = accepted-indices a;
        twinned = s.requires.twinned;
        valences-few = λ p l. rw (valence-seen (mesh s) (accepted-whole a) p) (valence-range a p (rw a.sized.tags-are at l)).1;
      };
      room = record { rules-listed = vertices-few s; weights-listed = corners-few s; ends-listed = corners-few s };
    }

-- ---- what the passes over the tags, the faces and the twins gave
module _ (c : After-fill_values) where
  abbrev begun : Start
  begun = (goal.at.After-fill_values c).Start

  rendered : Rendered (shape (mesh begun)) c.args.mesh.vertices c.render.new.rules c.render.new.weights c.render.new.ends
  rendered = rendered-mesh c.requires.accepted c.render.ensures

  told : Valued (mesh begun) c.fill_values.new.values
  told = accepted-valued c.requires.accepted c.fill_values.ensures

pub invariant_of-corners : goal.invariant_of-corners
invariant_of-corners c =
    let b = (goal.at.invariant_of-corners c).After-fill_values in
    let a = c.requires.accepted in
    let size = a.sized in
    record {
      serves = corner-source a (rendered b) (told b) (record {
        rules-listed = omega (arith, size.vertices-high, c.render.auto.rules);
        weights-listed = omega (arith, size.faces-high, c.render.auto.weights);
        ends-listed = omega (arith, size.faces-high, c.render.auto.ends);
      });
    }

pub fill_corners-requires : goal.fill_corners-requires
fill_corners-requires c =
    let few = c.requires.accepted.sized.vertices-high in
    record { points-room = omega (arith, few); flags-room = few; flagged = λ p l. same-all false true p (lt_of_lt_of_le l few) }

-- ---- before the patches are written: all tables
module _ (c : After-fill_corners) where
  abbrev read : After-fill_values
  read = (goal.at.After-fill_corners c).After-fill_values

  tables : Tables (mesh (begun read)) (patch_lists c.args.mesh.indices.now c.fill_values.new.values c.fill_links.new.links c.render.new.weights
      c.fill_corners.new.points c.fill_corners.new.flags)
  tables = record {
    values-are = told read;
    links-are = rendered-links c.requires.accepted (replicate (4 * max_faces) 0) c.requires.twinned c.fill_links.ensures;
    weights-are = (rendered read).weights-are;
    corners-are = ruled-points c.requires.accepted (rendered read) (told read) c.fill_corners.ensures;
  }

pub invariant_of-source : goal.invariant_of-source
invariant_of-source c =
    let few = c.requires.accepted.sized.vertices-high in
    let t = tables (goal.at.invariant_of-source c).After-fill_corners in
    record {
      serves =
          source c.requires.accepted t (omega (arith, few, c.fill_corners.auto.points)) (omega (arith, few, c.fill_corners.auto.flags));
    }

-- ---- the end
pub returns : goal.returns
returns c =
    let t = tables (goal.at.returns c).After-fill_corners in
    let a = c.requires.accepted in
    record {
      patches_after = c.write_patches.ensures.numbers-are ∙ filled-ext _ _ (number-written a t);
      marks_after = c.write_patches.ensures.marks-are ∙ filled-ext _ _ (mark-written a t);
    }
