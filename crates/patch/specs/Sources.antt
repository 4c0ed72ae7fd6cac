-- The lists that the code's structs hold.
--
--   lists_in s         those that the patches are written from
--   corners_in s       those that the corner points are written from
use Rattle.patch.specs.PatchTables.{CornerLists, corner_lists}
use Rattle.patch.specs.Written.{PatchLists, patch_lists}
use Rattle.patch.specs.declared.source.PatchSource.{PatchSource}
use Rattle.patch.specs.declared.corners.VertexSource.{VertexSource}

abbrev pub lists_in : PatchSource → PatchLists
lists_in s = patch_lists s.faces.now s.tables.values.now s.tables.links.now s.tables.weights.now s.points.now s.flags.now

abbrev pub corners_in : VertexSource → CornerLists
corners_in s = corner_lists s.positions.now s.faces.now s.values.now s.ends.now s.rules.now
