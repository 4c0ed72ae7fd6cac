-- The mirror image of a mesh, which the user calls the other foot (rule E1), and what the call that writes it answers and leaves in the three
-- lists that it is lent, whatever it is passed (rule E2).
--
--   reflected_corner c    the corner of the same face whose vertex corner c of the image has: the corners 0, 3, 2 and 1 for 0, 1, 2 and 3
--   reflected k z        coordinate k of the image of a vertex that has z there: x (k = 0) is negated, y and z stay
--   mirrored M           the mirror image of the mesh M
--   Outputs              the lists that the call is lent, for the positions, the tags and the indices of the image
--   outputs_off M d       a lent list has another length than the list of M that is written into it (rule R2, row 16)
--   mirror_refusal ..     the refusal that the call meets: one of the mesh, as it is checked where no twins are lent, or else row 16
--   mirror_answer ..      its answer: done, or the number of the refusal
--   MirrorLeft M d d'    d' are the lent lists d after the mirror call on the mesh M: whole lists of the image, or as they were after a refusal
--   MeshMirrored M d r d'   r is the answer of that call, and d' are the lists afterwards
use Rattle.std.specs.Prelude.{◌≡◌, Bool, not, ◌||◌, List, [], ◌∷◌, ℕ, zero, suc, ◌+◌, ◌-◌, ◌*◌, ◌/◌, ◌%◌, eqb, ℤ, neg_ℤ, length, Result}
use Rattle.std.proofs.Math.Option.{Option}
use Rattle.finite.specs.Filled.{list_below}
use Rattle.answer.specs.Table.{Row, row, Answer, answer_by, written_by, answered}
use Rattle.answer.specs.declared.refusal.Refusal.{Refusal}
use Rattle.mesh.specs.IndexedMesh.{IndexedMesh, indexed, corners, at, tag, coordinate}
use Rattle.mesh.specs.Answer.{mesh_refusal}

abbrev pub reflected_corner : ℕ → ℕ
reflected_corner c = c / 4 * 4 + (4 - c % 4) % 4

abbrev pub reflected : ℕ → ℤ → ℤ
reflected zero z = neg_ℤ z
reflected (suc k) z = z

abbrev pub mirrored : IndexedMesh → IndexedMesh
mirrored M =
    indexed M.vertices M.faces
    (list_below (λ i. reflected (i % 3) (coordinate M i)) (3 * M.vertices))
    (list_below (tag M) M.vertices)
    (list_below (λ c. at M (reflected_corner c)) (corners M))

-- two lists of different lengths
abbrev pub differ : ℕ → ℕ → Bool
differ m n = not (eqb m n)

pub record Outputs : Type 0 where
  pub positions : List ℤ
  pub tags : List ℕ
  pub indices : List ℕ

abbrev pub outputs : List ℤ → List ℕ → List ℕ → Outputs
outputs positions tags indices = record { positions = positions; tags = tags; indices = indices }

abbrev pub outputs_off : IndexedMesh → Outputs → Bool
outputs_off M d =
    differ (length d.positions) (length M.positions)
    || (differ (length d.tags) (length M.tags) || differ (length d.indices) (length M.indices))

abbrev pub mirror_rows : IndexedMesh → Outputs → List Row
mirror_rows M d = row (outputs_off M d) 16 ∷ []

abbrev pub mirror_refusal : IndexedMesh → Outputs → Option ℕ
mirror_refusal M d = mesh_refusal M [] (mirror_rows M d)

abbrev pub mirror_answer : IndexedMesh → Outputs → Answer Unit
mirror_answer M d = answer_by (mirror_refusal M d) tt

pub record MirrorLeft (M : IndexedMesh) (d d' : Outputs) : Type 0 where
  pub positions-are : d'.positions ≡ written_by (mirror_refusal M d) d.positions (mirrored M).positions
  pub tags-are : d'.tags ≡ written_by (mirror_refusal M d) d.tags (mirrored M).tags
  pub indices-are : d'.indices ≡ written_by (mirror_refusal M d) d.indices (mirrored M).indices

pub record MeshMirrored (M : IndexedMesh) (d : Outputs) (r : Result Unit Refusal) (d' : Outputs) : Type 0 where
  pub answer-is : answered r ≡ mirror_answer M d
  pub left : MirrorLeft M d d'
