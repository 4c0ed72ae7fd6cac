-- What the writer of the patches reads, and the numbers and marks that it writes.
--
--   PatchLists         the lists that a patch is written from: the faces, the tables of values, links and weights by corner, and those of the corner
--                      points and their flags by vertex
--   Source D           these lists serve every corner
--   Tables M D         the lists tell the mesh M: the coordinates of each corner, its twin and its weight, the corner point of each vertex and its mark
--   ForNumbered faces g m point, ForPatch faces g patch marks, ForPatches faces f patches marks   what is asked to write point m of face g, the patch of
--                      face g, those of f faces: the faces are there, and there is room
--   Narrow p            the control point p is within the range of the coordinates in units
--   point_with g e      the point with the coordinates g 0, g 1 and g 2, which is exact or not
--   kind_of q           the kind of point, for each case of the code's enum `Kind`
--   point_from D k c q  coordinate k of the point of kind q at corner c, in units: a corner point is looked up in the table of these
--   exact_from D c q    whether nothing is left in any coordinate of that point: for a corner point, its flag
--   marked_point D c q      that point with its mark
--   number_from D g i   number i of the 48 of face g, likewise
--   mark_from D g m     mark m of the 16 of face g, likewise
--   written_number D i, written_mark D i   what is written at place i of the patch list, and of the list of marks
--   PointWritten .., NumberedWritten .., PatchWritten .., PatchesWritten ..   a point of corner c, point m of face g, the patch of face g, those of f faces:
--                      the numbers are over the first places of the list, and the mark is handed back, or the marks are over the first of theirs
use Rattle.std.specs.Prelude.{◌≡◌, Bool, false, List, ℕ, ◌+◌, ◌*◌, ◌/◌, ◌%◌, ◌≤◌, ◌<◌, ℤ, pos, nat_abs, length, get_or}
use Rattle.finite.specs.Fold.{all_below, indicator}
use Rattle.finite.specs.Filled.{filled}
use Rattle.limits.specs.Limits.{max_coordinate}
use Rattle.corner.specs.Corner.{turn}
use Rattle.mesh.specs.HalfEdge.{twin}
use Rattle.mesh.specs.IndexedMesh.{IndexedMesh, corners, at}
use Rattle.mesh.specs.Tables.{Corners, Holds, vertex_of}
use Rattle.control.specs.Control.{units, exactly, weight_at, inner_at, along_at, before_at}
use Rattle.control.specs.declared.model.ControlPoint.{ControlPoint}
use Rattle.patch.specs.Point.{Kind, corner, along, before, inner, weight, corner_point}
use Rattle.patch.specs.Patch.{owner, kind, shape, view}
use Rattle.patch.specs.PatchTables.{Bounded, Valued, CornerPoints}
use Rattle.patch.specs.declared.writer.Kind as enum
use Rattle.patch.specs.declared.writer.Kind.TheVariants.{Corner, Along, Before, Inner}

pub record PatchLists : Type 0 where
  pub faces : List ℕ
  pub values : List ℤ
  pub links : List ℕ
  pub weights : List ℕ
  pub points : List ℤ
  pub flags : List Bool

abbrev pub patch_lists : List ℕ → List ℤ → List ℕ → List ℕ → List ℤ → List Bool → PatchLists
patch_lists faces values links weights points flags =
    record { faces = faces; values = values; links = links; weights = weights; points = points; flags = flags }

pub record Source (D : PatchLists) : Type 0 where
  pub whole : Corners (length D.faces)
  pub bounded : Bounded D.values
  pub pointed : (c k : ℕ) → c < length D.faces → k < 3 → 3 * vertex_of D.faces c + k < length D.points
  pub marked : (c : ℕ) → c < length D.faces → vertex_of D.faces c < length D.flags

pub record Tables (M : IndexedMesh) (D : PatchLists) : Type 0 where
  pub values-are : Valued M D.values
  pub links-are : Holds 0 D.links (corners M) (twin (at M) (corners M))
  pub weights-are : Holds 0 D.weights (corners M) (weight (shape M))
  pub corners-are : CornerPoints (λ k. corner_point (view M k)) M.vertices 3 D.points D.flags

pub record ForNumbered (faces : List ℕ) (g m : ℕ) (point : List ℤ) : Type 0 where
  pub face : 4 * g + 4 ≤ length faces
  pub sixteen : m < 16
  pub room : 3 ≤ length point

pub record ForPatch (faces : List ℕ) (g : ℕ) (patch : List ℤ) (marks : List ℕ) : Type 0 where
  pub face : 4 * g + 4 ≤ length faces
  pub patch-room : 48 ≤ length patch
  pub marks-room : 16 ≤ length marks

pub record ForPatches (faces : List ℕ) (f : ℕ) (patches : List ℤ) (marks : List ℕ) : Type 0 where
  pub listed : 4 * f ≤ length faces
  pub patches-room : 48 * f ≤ length patches
  pub marks-room : 16 * f ≤ length marks

pub record Narrow (p : ControlPoint ℤ) : Type 0 where
  pub x-small : nat_abs p.x ≤ 256 * max_coordinate
  pub y-small : nat_abs p.y ≤ 256 * max_coordinate
  pub z-small : nat_abs p.z ≤ 256 * max_coordinate

abbrev pub point_with : (ℕ → ℤ) → Bool → ControlPoint ℤ
point_with g e = record { x = g 0; y = g 1; z = g 2; exact = e }

abbrev pub kind_of : enum.Kind → Kind
kind_of Corner = corner
kind_of Along = along
kind_of Before = before
kind_of Inner = inner

unfoldable pub point_from : PatchLists → ℕ → ℕ → Kind → ℤ
point_from D k c corner = get_or D.points (3 * vertex_of D.faces c + k) (pos 0)
point_from D k c along = units (along_at D.values D.links D.weights k c)
point_from D k c before = units (before_at D.values D.links D.weights k c)
point_from D k c inner = units (inner_at D.values (weight_at D.weights c) k c)

unfoldable pub exact_from : PatchLists → ℕ → Kind → Bool
exact_from D c corner = get_or D.flags (vertex_of D.faces c) false
exact_from D c along = all_below (λ k. exactly (along_at D.values D.links D.weights k c)) 3
exact_from D c before = all_below (λ k. exactly (before_at D.values D.links D.weights k c)) 3
exact_from D c inner = all_below (λ k. exactly (inner_at D.values (weight_at D.weights c) k c)) 3

abbrev pub marked_point : PatchLists → ℕ → Kind → ControlPoint ℤ
marked_point D c q = point_with (λ k. point_from D k c q) (exact_from D c q)

unfoldable pub number_from : PatchLists → ℕ → ℕ → ℤ
number_from D g i = point_from D (i % 3) (turn (owner (i / 3)) (4 * g)) (kind (i / 3))

unfoldable pub mark_from : PatchLists → ℕ → ℕ → ℕ
mark_from D g m = indicator (exact_from D (turn (owner m) (4 * g)) (kind m))

unfoldable pub written_number : PatchLists → ℕ → ℤ
written_number D i = number_from D (i / 48) (i % 48)

unfoldable pub written_mark : PatchLists → ℕ → ℕ
written_mark D i = mark_from D (i / 16) (i % 16)

pub record PointWritten (D : PatchLists) (c : ℕ) (q : Kind) (point : List ℤ) (mark : ℕ) (point' : List ℤ) : Type 0 where
  pub numbers-are : point' ≡ filled (λ k. point_from D k c q) 3 point
  pub mark-is : mark ≡ indicator (exact_from D c q)

pub record NumberedWritten (D : PatchLists) (g m : ℕ) (point : List ℤ) (mark : ℕ) (point' : List ℤ) : Type 0 where
  pub numbers-are : point' ≡ filled (λ k. number_from D g (3 * m + k)) 3 point
  pub mark-is : mark ≡ mark_from D g m

pub record PatchWritten (D : PatchLists) (g : ℕ) (patch : List ℤ) (marks : List ℕ) (patch' : List ℤ) (marks' : List ℕ) : Type 0 where
  pub numbers-are : patch' ≡ filled (number_from D g) 48 patch
  pub marks-are : marks' ≡ filled (mark_from D g) 16 marks

pub record PatchesWritten (D : PatchLists) (f : ℕ) (patches : List ℤ) (marks : List ℕ) (patches' : List ℤ) (marks' : List ℕ) : Type 0 where
  pub numbers-are : patches' ≡ filled (written_number D) (48 * f) patches
  pub marks-are : marks' ≡ filled (written_mark D) (16 * f) marks
