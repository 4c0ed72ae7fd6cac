-- What the patch call and the two sample calls give for one mesh and for two, whatever they are passed, and with it the claim.
--
--   sample_at patches n q, marked_at patches marks n q   the answers of the sample call and of the marked one at place q
--   Asked             what the calls for one mesh are passed: the mesh, the lists lent for it, and the place of the sample
--   LongEnough a      the lent lists have the places that the patch call asks for (rule R2, row 2)
--   Evaluated n a r b   r holds the answers of the patch call on the mesh with its lent lists, and of the sample calls at the place on the lists that
--                     it left, b
--   Witnessed n a o a' w b b'   w holds the answers for a, with one more sample of the first list at the place o, and for a'; b and b' are the lists
--                     afterwards; and of these answers the claim holds
use Rattle.std.specs.Prelude.{◌≡◌, false, List, ℕ, ℤ}
use Rattle.answer.specs.Table.{Answer, answered}
use Rattle.mesh.specs.IndexedMesh.{IndexedMesh}
use Rattle.mesh.specs.Refusal.{Accepted}
use Rattle.sample.specs.Answer.{sample_answer}
use Rattle.sample.specs.Marked.{marked_answer}
use Rattle.sample.specs.declared.model.Point.{Point}
use Rattle.sample.specs.declared.model.MarkedPoint.{MarkedPoint}
use Rattle.sample.specs.declared.model.Place.{Place as SamplePlace}
use Rattle.patch.specs.Answer.{Lent, lists_short, patch_list, marks_list, Patched}
use Rattle.surface.specs.Claim.{Claim}
use Rattle.surface.specs.declared.model.Evaluation.{Evaluation}
use Rattle.surface.specs.declared.model.Witness.{Witness}

abbrev pub sample_at : List ℤ → ℕ → SamplePlace → Answer Point
sample_at patches n q = sample_answer patches q.face n q.a q.b

abbrev pub marked_at : List ℤ → List ℕ → ℕ → SamplePlace → Answer MarkedPoint
marked_at patches marks n q = marked_answer patches marks q.face n q.a q.b

pub record Asked : Type 0 where
  pub mesh : IndexedMesh
  pub lists : Lent
  pub place : SamplePlace

abbrev pub asked : IndexedMesh → Lent → SamplePlace → Asked
asked M d q = record { mesh = M; lists = d; place = q }

abbrev pub LongEnough : Asked → Type 0
LongEnough a = lists_short a.mesh a.lists ≡ false

pub record Evaluated (n : ℕ) (a : Asked) (r : Evaluation) (b : Lent) : Type 0 where
  pub patched : Patched a.mesh a.lists r.mesh b
  pub sample-is : answered r.sample ≡ sample_at (patch_list a.mesh a.lists) n a.place
  pub marked-is : answered r.marked ≡ marked_at (patch_list a.mesh a.lists) (marks_list a.mesh a.lists) n a.place

pub record Witnessed (n : ℕ) (a : Asked) (o : SamplePlace) (a' : Asked) (w : Witness) (b b' : Lent) : Type 0 where
  pub first : Evaluated n a w.first b
  pub other-is : answered w.other ≡ sample_at (patch_list a.mesh a.lists) n o
  pub second : Evaluated n a' w.second b'
  pub claim : Accepted a.mesh → LongEnough a → Claim a.mesh a'.mesh a'.lists n a.place o a'.place w
