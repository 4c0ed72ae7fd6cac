-- The worked examples under a single theorem: what the definitions compute is what is stated.
use Rattle.std.specs.Prelude.{List, [], ◌∷◌, ◌++◌, ◌≡◌, refl, ℕ, ◌+◌, ◌-◌, ◌*◌, ℤ, pos, negsuc, replicate}
use Rattle.integer.specs.Nearest.{half_even, nearest_ℕ, nearest}
use Rattle.finite.specs.Fold.{fold_below}
use Rattle.finite.specs.Filled.{list_below, filled}
use Rattle.mesh.specs.IndexedMesh.{IndexedMesh, corners}
use Rattle.mesh.specs.HalfEdge.{is_twin, twin, boundary, same_way, doubled, joins, edges, boundaries}
use Rattle.mesh.specs.Fan.{valence, on_boundary, around, iterate, fan_by, fan}
use Rattle.mesh.specs.Refusal.{coordinate_off, tag_off, vertex_off, vertex_twice, half_edge_twice, vertex_unused, fan_broken, valence_off, inner_tagged}
use Rattle.answer.specs.Table.{Answer, result, refusal}
use Rattle.limits.specs.Range.{sizes_off}
use Rattle.limits.specs.declared.model.Mesh.{Mesh}
use Rattle.mesh.specs.Answer.{mesh_refusal, check_answer}
use Rattle.sample.specs.Bernstein.{bernstein, numerator, rounded}
use Rattle.sample.specs.Refusal.{face_off, control_off, place_off}
use Rattle.sample.specs.declared.model.Point as Sample
use Rattle.sample.specs.Answer.{sample_answer}
use Rattle.mask.specs.Mask.{corner_weight, inner_mask, edge_mask, boundary_edge_mask, smooth_corner_mask, boundary_corner_mask, vertex_mask}
use Rattle.patch.specs.Point.{weight, sharp, sharp_sum, ring_sum, fixed, corner_point, inner_point, edge_point, along_point, before_point, point}
use Rattle.patch.specs.Patch.{owner, kind, patch_point, patch_number, patches_after}
use Rattle.line.specs.Line.{line_short, line_answer, line_after}
use Rattle.edit.specs.Mirror.{mirrored, outputs, mirror_answer}
use Rattle.examples.specs.Meshes.{square, cube, pillow, doubled_face, bow_tie, strip, reentrant, tagged, open_fan_of_eight, open_fan_of_nine}

-- an example: what is computed, and what is stated
pub record Example : Type 0 where
  pub computed : List ℤ
  pub stated : List ℤ

abbrev pub example : List ℤ → List ℤ → Example
example computed stated = record { computed = computed; stated = stated }

abbrev pub computed_all : List Example → List (List ℤ)
computed_all [] = []
computed_all (e ∷ es) = e.computed ∷ computed_all es

abbrev pub stated_all : List Example → List (List ℤ)
stated_all [] = []
stated_all (e ∷ es) = e.stated ∷ stated_all es

-- the check's answer on a list of twins of the length asked for: V F E B, or the number of the refusal alone
abbrev pub numbers : Answer Mesh → List ℤ
numbers (result m) = pos m.vertices ∷ pos m.faces ∷ pos m.edges ∷ pos m.boundary ∷ []
numbers (refusal k) = pos k ∷ []

abbrev check_numbers : IndexedMesh → List ℤ
check_numbers M = numbers (check_answer M (replicate (corners M) 0))

-- control point b(i,j) of face f
abbrev pub control_point : IndexedMesh → ℕ → ℕ → ℕ → List ℤ
control_point M f i j =
    patch_number M (48 * f + 3 * (i + 4 * j)) ∷ patch_number M (48 * f + 3 * (i + 4 * j) + 1) ∷ patch_number M (48 * f + 3 * (i + 4 * j) + 2) ∷ []

-- the sample call's answer on the patch list of a mesh
abbrev sample_numbers : Answer Sample.Point → List ℤ
sample_numbers (result p) = p.x ∷ p.y ∷ p.z ∷ []
sample_numbers (refusal k) = pos k ∷ []

abbrev sampling_numbers : IndexedMesh → ℕ → ℕ → ℕ → ℕ → List ℤ
sampling_numbers M n f a b = sample_numbers (sample_answer (patches_after M []) f n a b)

-- the mirror call's answer, with so many places lent for positions, tags and faces: nothing where it is done, or the number of the refusal alone
abbrev pub refusal_number : Answer Unit → List ℤ
refusal_number (result done) = []
refusal_number (refusal k) = pos k ∷ []

abbrev mirroring : IndexedMesh → ℕ → ℕ → ℕ → List ℤ
mirroring M positions tags indices = refusal_number (mirror_answer M (outputs (replicate positions (pos 0)) (replicate tags 0) (replicate indices 0)))

-- the line call on the patch list of a mesh, with so many 7s lent: the number of a refusal, and then the list afterwards
abbrev line_numbers : List ℤ → ℕ → ℕ → ℕ → List ℤ → List ℤ
line_numbers patches f n b line = refusal_number (line_answer patches f n b line) ++ line_after patches f n b line

abbrev lined : IndexedMesh → ℕ → ℕ → ℕ → ℕ → List ℤ
lined M n f b places = line_numbers (patches_after M []) f n b (replicate places (pos 7))

-- three coordinates that are not negative, and the same with x negated, which is above 0
abbrev pub xyz : ℕ → ℕ → ℕ → List ℤ
xyz x y z = pos x ∷ pos y ∷ pos z ∷ []

abbrev minus_x : ℕ → ℕ → ℕ → List ℤ
minus_x x y z = negsuc (x - 1) ∷ pos y ∷ pos z ∷ []

abbrev pub naturals : List ℕ → List ℤ
naturals [] = []
naturals (n ∷ ns) = pos n ∷ naturals ns

-- The square's control points and samples (rules X1 and X2); the cube's counts, corner point, inner point and edge point at (24,24,24) (rule X3);
-- the roundings of 1/2, 3/2, 5/2, -1/2, -3/2 (rule X4); a face and its own back, so that every n is 2, one face named twice, and two faces
-- that share a vertex but no half-edge (rule X5); two faces side by side, with boundary vertices of one face and of two (rule X6); the square as an accepted
-- mesh (rule X1); the strip with a boundary vertex tagged 1 and 2, and the cube with a tagged vertex (rule X7); open fans of eight and nine faces
-- (rule X8); the mirror image of the strip: its lists, counts, control points and a sample, beside that of the strip, and the mirror call on lists that
-- fit, that are too long and too short, and on a refused mesh with a list that is too long (rule X12); the line call on the second face of the strip,
-- with a list that fits, one that is longer, one that is too short, and refusals that come before that one (rule X13); three faces about a vertex, beside
-- vertices of one face and of two (rule X14).
pub examples : List Example
examples =
    example (control_point square 0 1 0) (xyz 1792 0 0)
    ∷ example (control_point square 0 1 1) (xyz 1792 1792 0)
    ∷ example (control_point square 0 2 1) (xyz 3584 1792 0)
    ∷ example (sampling_numbers square 2 0 1 0) (xyz 2688 0 0)
    ∷ example (sampling_numbers square 2 0 1 1) (xyz 2688 2688 0)
    ∷ example (sampling_numbers square 3 0 1 1) (xyz 1792 1792 0)
    ∷ example (check_numbers cube) (pos 8 ∷ pos 6 ∷ pos 12 ∷ pos 0 ∷ [])
    ∷ example (control_point cube 0 0 0) (xyz 3072 3072 3072)
    ∷ example (control_point cube 0 1 1) (xyz 1536 1536 6144)
    ∷ example (control_point cube 0 1 0) (xyz 1536 3840 3840)
    ∷ example (nearest (pos 1) 2 ∷ []) (pos 0 ∷ [])
    ∷ example (nearest (pos 3) 2 ∷ []) (pos 2 ∷ [])
    ∷ example (nearest (pos 5) 2 ∷ []) (pos 2 ∷ [])
    ∷ example (nearest (negsuc 0) 2 ∷ []) (pos 0 ∷ [])
    ∷ example (nearest (negsuc 2) 2 ∷ []) (negsuc 1 ∷ [])
    ∷ example (check_numbers pillow) (pos 10 ∷ [])
    ∷ example (check_numbers doubled_face) (pos 7 ∷ [])
    ∷ example (check_numbers bow_tie) (pos 9 ∷ [])
    ∷ example (check_numbers strip) (pos 6 ∷ pos 2 ∷ pos 7 ∷ pos 6 ∷ [])
    ∷ example (control_point strip 0 1 1) (xyz 768 768 0)
    ∷ example (control_point strip 0 2 1) (xyz 1536 768 0)
    ∷ example (control_point strip 0 3 1) (xyz 2304 768 256)
    ∷ example (control_point strip 0 3 0) (xyz 2304 0 384)
    ∷ example (control_point strip 1 1 1) (xyz 3072 768 512)
    ∷ example (control_point strip 1 2 1) (xyz 3840 768 1024)
    ∷ example (control_point strip 1 3 0) (xyz 4608 0 2304)
    ∷ example (check_numbers square) (pos 4 ∷ pos 1 ∷ pos 4 ∷ pos 4 ∷ [])
    ∷ example (check_numbers (tagged strip (0 ∷ 1 ∷ 0 ∷ 0 ∷ 0 ∷ 0 ∷ []))) (pos 6 ∷ pos 2 ∷ pos 7 ∷ pos 6 ∷ [])
    ∷ example (control_point (tagged strip (0 ∷ 1 ∷ 0 ∷ 0 ∷ 0 ∷ 0 ∷ [])) 0 3 0) (xyz 2304 0 0)
    ∷ example (check_numbers (tagged strip (0 ∷ 2 ∷ 0 ∷ 0 ∷ 0 ∷ 0 ∷ []))) (pos 4 ∷ [])
    ∷ example (check_numbers (tagged cube (0 ∷ 0 ∷ 0 ∷ 0 ∷ 0 ∷ 0 ∷ 0 ∷ 1 ∷ []))) (pos 11 ∷ [])
    ∷ example (check_numbers open_fan_of_eight) (pos 18 ∷ pos 8 ∷ pos 25 ∷ pos 18 ∷ [])
    ∷ example (check_numbers open_fan_of_nine) (pos 10 ∷ [])
    ∷ example (mirrored strip).positions (xyz 0 0 0 ++ minus_x 9 0 0 ++ minus_x 18 0 9 ++ minus_x 18 9 0 ++ minus_x 9 9 0 ++ xyz 0 9 0)
    ∷ example (naturals (mirrored (tagged strip (0 ∷ 1 ∷ 0 ∷ 0 ∷ 0 ∷ 0 ∷ []))).tags) (naturals (0 ∷ 1 ∷ 0 ∷ 0 ∷ 0 ∷ 0 ∷ []))
    ∷ example (naturals (mirrored strip).indices) (naturals (0 ∷ 5 ∷ 4 ∷ 1 ∷ 1 ∷ 4 ∷ 3 ∷ 2 ∷ []))
    ∷ example (check_numbers (mirrored strip)) (pos 6 ∷ pos 2 ∷ pos 7 ∷ pos 6 ∷ [])
    ∷ example (control_point (mirrored strip) 0 1 2) (minus_x 1536 768 0)
    ∷ example (control_point (mirrored strip) 0 1 3) (minus_x 2304 768 256)
    ∷ example (control_point (mirrored strip) 0 0 3) (minus_x 2304 0 384)
    ∷ example (control_point (mirrored strip) 1 1 1) (minus_x 3072 768 512)
    ∷ example (sampling_numbers strip 3 0 2 0) (xyz 1536 0 114)
    ∷ example (sampling_numbers (mirrored strip) 3 0 0 2) (minus_x 1536 0 114)
    ∷ example (mirroring strip 18 6 8) []
    ∷ example (mirroring strip 18 7 8) (pos 16 ∷ [])
    ∷ example (mirroring strip 18 6 7) (pos 16 ∷ [])
    ∷ example (mirroring (tagged cube (0 ∷ 0 ∷ 0 ∷ 0 ∷ 0 ∷ 0 ∷ 0 ∷ 1 ∷ [])) 25 8 24) (pos 11 ∷ [])
    ∷ example (lined strip 2 1 0 9) (xyz 2304 0 384 ++ xyz 3456 0 1200 ++ xyz 4608 0 2304)
    ∷ example (lined strip 2 1 1 10) (xyz 2304 1152 192 ++ xyz 3456 1152 600 ++ xyz 4608 1152 1152 ++ (pos 7 ∷ []))
    ∷ example (lined strip 2 1 1 8) (pos 17 ∷ replicate 8 (pos 7))
    ∷ example (lined strip 2 1 3 8) (pos 14 ∷ replicate 8 (pos 7))
    ∷ example (lined strip 33 1 3 102) (pos 14 ∷ replicate 102 (pos 7))
    ∷ example (lined strip 0 2 1 0) (pos 12 ∷ [])
    ∷ example (check_numbers reentrant) (pos 8 ∷ pos 3 ∷ pos 10 ∷ pos 8 ∷ [])
    ∷ example (control_point reentrant 0 1 1) (xyz 8448 8448 0)
    ∷ example (control_point reentrant 0 2 1) (xyz 16896 8448 0)
    ∷ example (control_point reentrant 0 2 2) (xyz 18432 18432 0)
    ∷ example (control_point reentrant 0 3 3) (xyz 29568 29568 0)
    ∷ []

pub examples-hold : computed_all examples ≡ stated_all examples
unfolding examples half_even nearest_ℕ nearest fold_below list_below filled
    is_twin twin boundary same_way doubled joins edges boundaries valence on_boundary around iterate fan_by fan
    sizes_off coordinate_off tag_off vertex_off vertex_twice half_edge_twice vertex_unused fan_broken valence_off inner_tagged mesh_refusal
    corner_weight inner_mask edge_mask boundary_edge_mask smooth_corner_mask boundary_corner_mask vertex_mask weight sharp sharp_sum ring_sum fixed
    corner_point inner_point edge_point along_point before_point point owner kind patch_point patch_number
    bernstein numerator rounded face_off control_off place_off sample_answer line_short
examples-hold = refl
