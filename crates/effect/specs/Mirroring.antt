-- A mesh and its mirror image: what the mirror call, the patch call and the sample calls give for both (rule E5).
--
--   exchanged q          the place (b, a) of the face of q, which is the place (a, b)
--   reflected_point p     the point p with x negated
--   reflected_answer s, reflected_marked s   the sample s with x negated, and a marked one with its mark kept; a refusal stays
--   mesh_left M d'        the mesh that the mirror call on M left in the lists d'
--   MirrorClaim n a a' r s s'   what the answer r of the mirror call and the answers s and s' show of each other, where the calls for the mesh were passed
--                        a, and those for the mesh that the mirror call left were passed a'
--   MirrorKeepsSamples   the claim, of whatever the calls hand back: its hypotheses are the records that they promise (`mirror-keeps-samples`)
use Rattle.std.specs.Prelude.{◌≡◌, false, ℕ, neg_ℤ, Result}
use Rattle.answer.specs.declared.refusal.Refusal.{Refusal}
use Rattle.answer.specs.Table.{Answer, result, refusal, answered as answer_of}
use Rattle.mesh.specs.IndexedMesh.{IndexedMesh, indexed}
use Rattle.mesh.specs.Refusal.{Accepted}
use Rattle.mesh.specs.Answer.{counts_of}
use Rattle.sample.specs.declared.model.Point.{Point}
use Rattle.sample.specs.declared.model.MarkedPoint.{MarkedPoint}
use Rattle.sample.specs.declared.model.Place.{Place as SamplePlace}
use Rattle.patch.specs.Answer.{Lent}
use Rattle.edit.specs.Mirror.{Outputs, outputs_off, MeshMirrored}
use Rattle.surface.specs.Claim.{OnMesh, sample_coordinate, sample_point}
use Rattle.surface.specs.Witness.{Asked, asked, LongEnough, Evaluated}
use Rattle.surface.specs.declared.model.Evaluation.{Evaluation}

abbrev pub exchanged : SamplePlace → SamplePlace
exchanged q = record { face = q.face; a = q.b; b = q.a }

abbrev pub reflected_point : Point → Point
reflected_point p = record { x = neg_ℤ p.x; y = p.y; z = p.z }

abbrev pub reflected_answer : Answer Point → Answer Point
reflected_answer (result p) = result (reflected_point p)
reflected_answer (refusal k) = refusal k

abbrev pub reflected_marked : Answer MarkedPoint → Answer MarkedPoint
reflected_marked (result p) = result (record { point = reflected_point p.point; exact = p.exact })
reflected_marked (refusal k) = refusal k

abbrev pub mesh_left : IndexedMesh → Outputs → IndexedMesh
mesh_left M d' = indexed M.vertices M.faces d'.positions d'.tags d'.indices

pub record MirrorClaim (n : ℕ) (a a' : Asked) (r : Result Unit Refusal) (s s' : Evaluation) : Type 0 where
  -- the mirror call is done, and what it left is an accepted mesh (rule E3)
  pub done : answer_of r ≡ result tt
  pub accepted : Accepted a'.mesh
  -- the patch call, given lists with room enough, gives the counts of the mesh for both (rule E3)
  pub counted : LongEnough a → answer_of s.mesh ≡ result (counts_of a.mesh)
  pub image-counted : LongEnough a' → answer_of s'.mesh ≡ result (counts_of a.mesh)
  -- the sample of the mesh is given, and turns up at (b, a) of the same face with x negated, y and z as they are (rule E4)
  pub answered : LongEnough a → OnMesh a.mesh n a.place → answer_of s.sample ≡ result (sample_point (sample_coordinate s.sample))
  pub reflected : LongEnough a → LongEnough a' → OnMesh a.mesh n a.place
      → a'.place ≡ exchanged a.place
      → answer_of s'.sample ≡ reflected_answer (answer_of s.sample)
  -- with the mark that it had (rule E4)
  pub marks-reflected : LongEnough a → LongEnough a' → OnMesh a.mesh n a.place
      → a'.place ≡ exchanged a.place
      → answer_of s'.marked ≡ reflected_marked (answer_of s.marked)

pub record MirrorKeepsSamples : Type 0 where
  pub claim : {M : IndexedMesh} {x x' : Outputs} {r : Result Unit Refusal} {n : ℕ} {d b d' b' : Lent} {q q' : SamplePlace} {s s' : Evaluation}
      -- the mirror call on M, with the lent lists x, answered r and left x'
      → MeshMirrored M x r x'
      -- the patch call on M, with the lent lists d, and the sample calls at q on what it left answered s
      → Evaluated n (asked M d q) s b
      -- and so did they for the lists that the mirror call left
      → Evaluated n (asked (mesh_left M x') d' q') s' b'
      → Accepted M → outputs_off M x ≡ false
      → MirrorClaim n (asked M d q) (asked (mesh_left M x') d' q') r s s'
