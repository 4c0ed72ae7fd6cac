-- Distance, marks, seam and renumbering: one claim about the numbers that the patch call and the two sample calls handed back (rules C11 and C12).
-- What it asks for is what the calls themselves ask for: no cause of refusal is met.
--
--   OnMesh M n q          q is a place of a face of M: the face is below F, and cause 14 is not met (rules C2 and S1)
--   unrounded M k f m         coordinate k of control point m of face f before rounding (rule C4)
--   Multiples M k f L x   L is a common multiple of the sixteen divisors: x m times each
--   exact_sum M k n q x    coordinate k of the exact surface at place q, times N^6 and the L of these multiples
--   coordinate_of answer k, sample_coordinate s k   coordinate k of a sample; 0 for a refusal
--   sample_point g             the point with the coordinates g 0, g 1 and g 2
--   is_exact answer, mark s   whether a marked sample is exact; a refusal is not
--   place_on n c t         place t of half-edge c, as the sample call is given it
--   place_matching r n q   the place of the renumbered mesh that matches q
--   Claim ..              what the answers w for the places q and o of M, and q' of M', show of each other
use Rattle.std.specs.Prelude.{◌≡◌, Bool, true, false, ℕ, zero, suc, ◌-◌, ◌*◌, ◌/◌, ◌%◌, ◌^◌, ◌≤◌, ◌<◌, ℤ, pos, nat_abs, ◌-ℤ◌, ◌*ℤ◌, Result}
use Rattle.answer.specs.declared.refusal.Refusal.{Refusal}
use Rattle.answer.specs.Table.{Answer, result, refusal, answered as answer_of}
use Rattle.mesh.specs.HalfEdge.{twin, boundary}
use Rattle.mesh.specs.IndexedMesh.{IndexedMesh, corners, at}
use Rattle.mesh.specs.Answer.{counts_of}
use Rattle.sample.specs.Bernstein.{numerator}
use Rattle.sample.specs.Refusal.{place_off}
use Rattle.sample.specs.declared.model.Point.{Point}
use Rattle.sample.specs.declared.model.MarkedPoint.{MarkedPoint}
use Rattle.sample.specs.declared.model.Place.{Place as SamplePlace}
use Rattle.mask.specs.Mask.{Fraction}
use Rattle.patch.specs.Patch.{patch_point, view}
use Rattle.patch.specs.Answer.{Lent, lists_short}
use Rattle.surface.specs.Renumbering.{Renumbering, Place, place, matching, on_side}
use Rattle.surface.specs.declared.model.Witness.{Witness}

abbrev pub OnMesh : IndexedMesh → ℕ → SamplePlace → Type 0
OnMesh M n q = (q.face < M.faces) × (place_off n q.a q.b ≡ false)

abbrev pub unrounded : IndexedMesh → ℕ → ℕ → ℕ → Fraction
unrounded M k f m = patch_point (view M k) (4 * f) m

abbrev pub Multiples : IndexedMesh → ℕ → ℕ → ℕ → (ℕ → ℕ) → Type 0
Multiples M k f L x = (m : ℕ) → m < 16 → L ≡ (unrounded M k f m).den * x m

abbrev pub exact_sum : IndexedMesh → ℕ → ℕ → SamplePlace → (ℕ → ℕ) → ℤ
exact_sum M k n q x = numerator n q.a q.b (λ m. pos 256 *ℤ (unrounded M k q.face m).num *ℤ pos (x m))

abbrev pub coordinate_of : Answer Point → ℕ → ℤ
coordinate_of (result p) zero = p.x
coordinate_of (result p) (suc zero) = p.y
coordinate_of (result p) (suc (suc k)) = p.z
coordinate_of (refusal k) j = pos 0

abbrev pub sample_coordinate : Result Point Refusal → ℕ → ℤ
sample_coordinate s k = coordinate_of (answer_of s) k

abbrev pub sample_point : (ℕ → ℤ) → Point
sample_point g = record { x = g 0; y = g 1; z = g 2 }

abbrev pub is_exact : Answer MarkedPoint → Bool
is_exact (result p) = p.exact
is_exact (refusal k) = false

abbrev pub mark : Result MarkedPoint Refusal → Bool
mark s = is_exact (answer_of s)

-- a place (a, b) of face f, as the sample call is given it
abbrev pub place_of : ℕ → Place → SamplePlace
place_of f p = record { face = f; a = p.a; b = p.b }

abbrev pub place_on : ℕ → ℕ → ℕ → SamplePlace
place_on n c t = place_of (c / 4) (on_side n (c % 4) t)

abbrev pub place_matching : {M M' : IndexedMesh} → Renumbering M M' → ℕ → SamplePlace → SamplePlace
place_matching r n q = place_of (r.face_map.to q.face) (matching n (r.start q.face) (place q.a q.b))

pub record Claim (M M' : IndexedMesh) (d' : Lent) (n : ℕ) (q o q' : SamplePlace) (w : Witness) : Type 0 where
  -- the patch call, given lists with room enough, accepts the mesh and gives its counts (rule C3),
  pub taken : answer_of w.first.mesh ≡ result (counts_of M)
  -- and the sample call then refuses no place of it (rule C3)
  pub answered : OnMesh M n q → answer_of w.first.sample ≡ result (sample_point (sample_coordinate w.first.sample))
  -- each sample within one unit of the exact surface, in each coordinate: |sample - exact| ≤ 1, both sides times N^6 and L (rule C5)
  pub distance : (k L : ℕ) (x : ℕ → ℕ) → OnMesh M n q → k < 3 → Multiples M k q.face L x
      → nat_abs (sample_coordinate w.first.sample k *ℤ pos (n ^ 6 * L) -ℤ exact_sum M k n q x) ≤ n ^ 6 * L
  -- the marked sample call refuses no place either: it gives the same point, and a mark (rule C12);
  pub marked-answered : OnMesh M n q
      → answer_of w.first.marked ≡ result (record { point = sample_point (sample_coordinate w.first.sample); exact = mark w.first.marked })
  -- a marked sample is the exact surface's own: sample = exact, both sides times N^6 and L (rule C12)
  pub exactness : (k L : ℕ) (x : ℕ → ℕ) → OnMesh M n q → k < 3 → Multiples M k q.face L x
      → mark w.first.marked ≡ true
      → sample_coordinate w.first.sample k *ℤ pos (n ^ 6 * L) ≡ exact_sum M k n q x
  -- place t of a half-edge that has a twin and place N - t of the twin have the same sample, number for number (rule C7)
  pub seam : (c t : ℕ) → c < corners M → boundary (at M) (corners M) c ≡ false → place_off n t 0 ≡ false
      → q ≡ place_on n c t
      → o ≡ place_on n (twin (at M) (corners M) c) (n - t)
      → answer_of w.first.sample ≡ answer_of w.other
  -- a renumbering M' is accepted as well, with the same four counts (rule C10),
  pub counted : Renumbering M M' → lists_short M' d' ≡ false → answer_of w.first.mesh ≡ answer_of w.second.mesh
  -- and has the same samples at matching places (rule C10)
  pub renumbered : (r : Renumbering M M') → lists_short M' d' ≡ false → OnMesh M n q
      → q' ≡ place_matching r n q
      → answer_of w.first.sample ≡ answer_of w.second.sample
  -- with the same marks (rule C12)
  pub marks-renumbered : (r : Renumbering M M') → lists_short M' d' ≡ false → OnMesh M n q
      → q' ≡ place_matching r n q
      → answer_of w.first.marked ≡ answer_of w.second.marked
