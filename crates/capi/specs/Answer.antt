-- The answers of the library as the calls for C give them: a returned number, and lent numbers afterwards (rule A3). The numbers
-- of refusals begin at 1 (rule R2), so that 0 is left for success.
--
--   code answer           what a call returns: 0 for a result, else the number of the refusal
--   counted answer d      the four lent numbers afterwards, which held d: V, F, E and B, or d after a refusal
--   coordinates p         x, y and z of a point
--   placed answer d       the three lent numbers afterwards, which held d: x, y and z of the sample, or d after a refusal
--   unmarked answer       the answer without the mark: the sample, or the refusal
--   mark_stored answer m   the lent byte afterwards, which held m: 1 for an exact sample and 0 for another (rule S7), or m after a refusal
--   Read answer x y z x' y' z'   the three lent doubles x', y', z' afterwards, which held x, y, z: each exactly the sample over 256 (rule S5),
--                         or as they were after a refusal (rule R5)
--   first_corner corners f d   the lent place of a face's first corner afterwards, which held d: 4f, or d where the face has no corners
--   CornersTold, CountsStored, CheckStored, PatchesStored, SampleStored, MarkedStored, ReadingStored, LineStored, MirrorStored, TangentsStored   for
--                         each call, what it returns, and every lent number and list afterwards
use Rattle.std.specs.Prelude.{◌≡◌, List, [], ◌∷◌, ℕ, ◌*◌, ℤ, Float, length, take, drop}
use Rattle.finite.specs.Fold.{indicator}
use Rattle.answer.specs.Table.{Answer, result, refusal}
use Rattle.limits.specs.declared.model.Mesh.{Mesh}
use Rattle.corner.specs.Corner.{face_corners}
use Rattle.mesh.specs.IndexedMesh.{IndexedMesh}
use Rattle.mesh.specs.Answer.{check_answer, check_twins}
use Rattle.patch.specs.Answer.{lent, patch_answer, patch_twins, patch_list, marks_list}
use Rattle.sample.specs.Answer.{Over256}
use Rattle.sample.specs.declared.model.Point.{Point}
use Rattle.sample.specs.declared.model.MarkedPoint.{MarkedPoint}
use Rattle.line.specs.Line.{line_answer, LineLeft}
use Rattle.edit.specs.Mirror.{outputs, mirror_answer, MirrorLeft}
use Rattle.tangent.specs.Answer.{tangent_answer, tangents_after}

abbrev pub code : {A : Type 0} → Answer A → ℕ
code (result a) = 0
code (refusal k) = k

abbrev pub counted : Answer Mesh → List ℕ → List ℕ
counted (result m) d = m.vertices ∷ (m.faces ∷ (m.edges ∷ (m.boundary ∷ [])))
counted (refusal k) d = d

abbrev pub coordinates : Point → List ℤ
coordinates p = p.x ∷ (p.y ∷ (p.z ∷ []))

abbrev pub placed : Answer Point → List ℤ → List ℤ
placed (result p) d = coordinates p
placed (refusal k) d = d

abbrev pub unmarked : Answer MarkedPoint → Answer Point
unmarked (result p) = result p.point
unmarked (refusal k) = refusal k

abbrev pub mark_stored : Answer MarkedPoint → ℕ → ℕ
mark_stored (result p) m = indicator p.exact
mark_stored (refusal k) m = m

abbrev pub Read : Answer Point → Float → Float → Float → Float → Float → Float → Type 0
Read (result p) x y z x' y' z' = Over256 x' p.x × Over256 y' p.y × Over256 z' p.z
Read (refusal k) x y z x' y' z' = (x' ≡ x) × (y' ≡ y) × (z' ≡ z)

abbrev pub first_corner : List ℕ → ℕ → ℕ → ℕ
first_corner [] f d = d
first_corner (p ∷ ps) f d = 4 * f

pub record CornersTold (indices : List ℕ) (f d r d' : ℕ) : Type 0 where
  pub count-is : r ≡ length (face_corners indices f)
  pub first-is : d' ≡ first_corner (face_corners indices f) f d
  pub part-is : take r (drop d' indices) ≡ face_corners indices f

pub record CountsStored (answer : Answer Mesh) (c : List ℕ) (r : ℕ) (c' : List ℕ) : Type 0 where
  pub code_is : r ≡ code answer
  pub counts-are : c' ≡ counted answer c

pub record CheckStored (M : IndexedMesh) (d c : List ℕ) (r : ℕ) (d' c' : List ℕ) : Type 0 where
  pub stored : CountsStored (check_answer M d) c r c'
  pub twins-are : d' ≡ check_twins M d

pub record PatchesStored (M : IndexedMesh) (d : List ℕ) (e : List ℤ) (x c : List ℕ) (r : ℕ) (d' : List ℕ) (e' : List ℤ) (x' c' : List ℕ) : Type 0 where
  pub stored : CountsStored (patch_answer M (lent d e x)) c r c'
  pub twins-are : d' ≡ patch_twins M (lent d e x)
  pub patches-are : e' ≡ patch_list M (lent d e x)
  pub exact-are : x' ≡ marks_list M (lent d e x)

pub record SampleStored (answer : Answer Point) (d : List ℤ) (r : ℕ) (d' : List ℤ) : Type 0 where
  pub code_is : r ≡ code answer
  pub point-is : d' ≡ placed answer d

pub record MarkedStored (answer : Answer MarkedPoint) (d : List ℤ) (m r : ℕ) (d' : List ℤ) (m' : ℕ) : Type 0 where
  pub code_is : r ≡ code answer
  pub point-is : d' ≡ placed (unmarked answer) d
  pub mark-is : m' ≡ mark_stored answer m

pub record ReadingStored (answer : Answer Point) (x y z : Float) (r : ℕ) (x' y' z' : Float) : Type 0 where
  pub code_is : r ≡ code answer
  pub reading-is : Read answer x y z x' y' z'

pub record LineStored (patches : List ℤ) (f n b : ℕ) (line : List ℤ) (r : ℕ) (line' : List ℤ) : Type 0 where
  pub code_is : r ≡ code (line_answer patches f n b line)
  pub left : LineLeft patches f n b line line'

pub record MirrorStored (M : IndexedMesh) (x : List ℤ) (t i : List ℕ) (r : ℕ) (x' : List ℤ) (t' i' : List ℕ) : Type 0 where
  pub code_is : r ≡ code (mirror_answer M (outputs x t i))
  pub left : MirrorLeft M (outputs x t i) (outputs x' t' i')

pub record TangentsStored (M : IndexedMesh) (g : ℕ) (d : List ℤ) (r : ℕ) (d' : List ℤ) : Type 0 where
  pub code_is : r ≡ code (tangent_answer M g d)
  pub list-is : d' ≡ tangents_after M g d
