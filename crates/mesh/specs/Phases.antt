-- What the groups of causes hand on to each other in the code, for the contracts of private functions.
--
--   EntriesMet M head link r   r is the first cause from 3 to 7 that M meets, and where it meets none, head and link are its chains
--   EarlyMet M own head link r   the same for all causes that are checked before the twins are written, with the call's own row met as `own`
--                     says
use Rattle.std.specs.Prelude.{◌≡◌, List, ℕ, Result}
use Rattle.std.proofs.Math.Option.{none}
use Rattle.answer.specs.declared.refusal.Refusal.{Refusal}
use Rattle.answer.specs.Table.{Row, first_met, refused}
use Rattle.mesh.specs.IndexedMesh.{IndexedMesh, corners, at}
use Rattle.mesh.specs.Refusal.{entry_rows, early_rows}
use Rattle.mesh.specs.Tables.{Chained}

pub record EntriesMet (M : IndexedMesh) (head link : List ℕ) (r : Result Unit Refusal) : Type 0 where
  pub first : first_met (entry_rows M) ≡ refused r
  pub chained : refused r ≡ none → Chained (at M) (corners M) head link

pub record EarlyMet (M : IndexedMesh) (own : Result Unit Refusal) (head link : List ℕ) (r : Result Unit Refusal) : Type 0 where
  pub first : (rows : List Row) → first_met rows ≡ refused own → first_met (early_rows M rows) ≡ refused r
  pub chained : refused r ≡ none → Chained (at M) (corners M) head link
