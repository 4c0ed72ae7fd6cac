-- `link_corners` meets its contract: the corners passed are chained and no half-edge among them runs as an earlier one does; the loop stops at
-- the first that does.
use mathlib.Core.Bool.{false}
use mathlib.Core.List.{List}
use mathlib.Core.Path.{◌≡◌}
use Prim.Native.Nat.{ℕ}
use Rattle.finite.specs.Fold.{any_below}
use Rattle.corner.specs.Corner.{next}
use Rattle.mesh.specs.HalfEdge.{runs}
use Rattle.mesh.specs.Tables.{vertex_of, Chained}
use Rattle.mesh.proofs.chain.link_corners.Given as goal

-- the corners below c are chained, and no half-edge of theirs runs as an earlier one does
pub record Linking (faces : List ℕ) (head link : List ℕ) (c : ℕ) : Type 0 where
  pub chained : Chained (vertex_of faces) c head link
  pub apart : any_below (λ d. any_below (runs (vertex_of faces) (vertex_of faces d) (vertex_of faces (next d))) d) c ≡ false

abbrev pub invariant-loop-c : goal.invariant-loop-c
invariant-loop-c l = Linking l.faces l.tables.head l.tables.link l.c
