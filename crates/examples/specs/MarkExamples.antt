-- The marks of worked meshes and the marked samples, each computed from the definitions (rule X17).
use Rattle.std.specs.Prelude.{List, [], ◌∷◌, ◌++◌, ◌≡◌, refl, ℕ, ◌*◌, ℤ, pos, replicate, drop}
use Rattle.integer.specs.Nearest.{half_even, nearest_ℕ, nearest, remainder}
use Rattle.finite.specs.Fold.{fold_below, indicator}
use Rattle.finite.specs.Filled.{list_below, filled}
use Rattle.answer.specs.Table.{Answer, result, refusal}
use Rattle.limits.specs.Range.{sizes_off}
use Rattle.mesh.specs.IndexedMesh.{IndexedMesh, corners}
use Rattle.mesh.specs.HalfEdge.{is_twin, twin, boundary, same_way, doubled, joins, edges, boundaries}
use Rattle.mesh.specs.Fan.{valence, on_boundary, around, iterate, fan_by, fan}
use Rattle.mesh.specs.Refusal.{coordinate_off, tag_off, vertex_off, vertex_twice, half_edge_twice, vertex_unused, fan_broken, valence_off, inner_tagged}
use Rattle.mesh.specs.Answer.{mesh_refusal}
use Rattle.mask.specs.Mask.{corner_weight, inner_mask, edge_mask, boundary_edge_mask, smooth_corner_mask, boundary_corner_mask, vertex_mask}
use Rattle.patch.specs.Point.{weight, sharp, sharp_sum, ring_sum, fixed, corner_point, inner_point, edge_point, along_point, before_point, point}
use Rattle.patch.specs.Patch.{owner, kind, patch_point, patch_number, patches_after, point_exact, patch_mark, marks_after}
use Rattle.patch.specs.Answer.{lent, patch_answer, marks_list}
use Rattle.sample.specs.Bernstein.{bernstein, numerator, rounded}
use Rattle.sample.specs.Refusal.{face_off, control_off, place_off}
use Rattle.sample.specs.Marked.{marks_off, patch_marked, division_whole, marked_answer}
use Rattle.sample.specs.declared.model.MarkedPoint.{MarkedPoint}
use Rattle.examples.specs.Meshes.{square, strip, raised_strip, narrow_square}
use Rattle.examples.specs.Examples.{Example, example, computed_all, stated_all, numbers, control_point, xyz, naturals}

-- the list of marks after the patch call, which was lent so many 7s for it, and lists of twins and patches that fit
abbrev marks_left : IndexedMesh → ℕ → List ℤ
marks_left M places = naturals (marks_list M (lent (replicate (corners M) 0) (replicate (48 * M.faces) (pos 0)) (replicate places 7)))

-- the answer of that call
abbrev patching_numbers : IndexedMesh → ℕ → List ℤ
patching_numbers M places = numbers (patch_answer M (lent (replicate (corners M) 0) (replicate (48 * M.faces) (pos 0)) (replicate places 7)))

-- the marked sample: x, y, z and 1 or 0 for exact or not, or the number of the refusal alone
abbrev marked_numbers : Answer MarkedPoint → List ℤ
marked_numbers (result p) = p.point.x ∷ p.point.y ∷ p.point.z ∷ pos (indicator p.exact) ∷ []
marked_numbers (refusal k) = pos k ∷ []

abbrev marked_in : List ℤ → List ℕ → ℕ → ℕ → ℕ → ℕ → List ℤ
marked_in patches marks n f a b = marked_numbers (marked_answer patches marks f n a b)

-- the marked sample of the two lists of a mesh
abbrev marking_numbers : IndexedMesh → ℕ → ℕ → ℕ → ℕ → List ℤ
marking_numbers M n f a b = marked_in (patches_after M []) (marks_after M []) n f a b

-- three coordinates of a sample that is exact, and of one that is not
abbrev exact_at : ℕ → ℕ → ℕ → List ℤ
exact_at x y z = xyz x y z ++ (pos 1 ∷ [])

abbrev inexact_at : ℕ → ℕ → ℕ → List ℤ
inexact_at x y z = xyz x y z ++ (pos 0 ∷ [])

-- the patch list of the square, and that with a first control value one beyond the limit
abbrev square_patches : List ℤ
square_patches = patches_after square []

abbrev far_patches : List ℤ
far_patches = pos 268435457 ∷ drop 1 square_patches

-- four marks, those of one j; and sixteen of which the sixth is 2
abbrev four : ℕ → ℕ → ℕ → ℕ → List ℕ
four a b c d = a ∷ b ∷ c ∷ d ∷ []

abbrev sixth_two : List ℕ
sixth_two = replicate 5 1 ++ (2 ∷ replicate 10 1)

unfoldable pub marks : List Example
marks =
    -- nothing is left; a place more is lent, which is not touched
    example (marks_left strip 32) (naturals (replicate 32 1))
    ∷ example (marks_left strip 33) (naturals (replicate 32 1 ++ (7 ∷ [])))
    ∷ example (marks_left square 16) (naturals (replicate 16 1))
    -- only z leaves something
    ∷ example (marks_left raised_strip 32)
    (naturals (four 1 1 1 0 ++ four 1 1 1 0 ++ four 1 1 1 0 ++ four 1 1 1 1 ++ four 0 0 0 1 ++ four 0 0 0 0 ++ four 0 0 0 0 ++ four 1 1 1 1))
    ∷ example (control_point raised_strip 0 3 0) (xyz 2304 0 427)
    -- only x leaves something
    ∷ example (marks_left narrow_square 16) (naturals (four 1 0 0 1 ++ four 1 0 0 1 ++ four 1 0 0 1 ++ four 1 0 0 1))
    -- a place too few: 2, and an untouched list
    ∷ example (patching_numbers strip 32) (pos 6 ∷ pos 2 ∷ pos 7 ∷ pos 6 ∷ [])
    ∷ example (patching_numbers strip 31) (pos 2 ∷ [])
    ∷ example (marks_left strip 31) (naturals (replicate 31 7))
    ∷ []

unfoldable pub marked_samples : List Example
marked_samples =
    -- the sample's own division leaves nothing; it leaves something, although all bytes are 1
    example (marking_numbers strip 2 0 1 1) (exact_at 1152 1152 24)
    ∷ example (marking_numbers strip 3 0 1 1) (inexact_at 768 768 9)
    -- bytes of points that weigh nothing here count too
    ∷ example (marking_numbers raised_strip 1 0 0 0) (inexact_at 0 0 0)
    ∷ example (marking_numbers square 2 0 1 0) (exact_at 2688 0 0)
    ∷ example (marking_numbers square 2 0 1 1) (exact_at 2688 2688 0)
    ∷ example (marking_numbers square 7 0 1 1) (exact_at 768 768 0)
    -- a byte 2 is not 1
    ∷ example (marked_in square_patches sixth_two 2 0 1 1) (inexact_at 2688 2688 0)
    -- 15 marks: 12, before 13
    ∷ example (marked_in square_patches (replicate 15 1) 2 0 1 1) (pos 12 ∷ [])
    ∷ example (marked_in far_patches (replicate 15 1) 2 0 1 1) (pos 12 ∷ [])
    ∷ example (marked_in far_patches (replicate 16 1) 2 0 1 1) (pos 13 ∷ [])
    ∷ []

pub marks-hold : computed_all marks ≡ stated_all marks
unfolding marks half_even nearest_ℕ nearest remainder fold_below list_below filled
    is_twin twin boundary same_way doubled joins edges boundaries valence on_boundary around iterate fan_by fan
    sizes_off coordinate_off tag_off vertex_off vertex_twice half_edge_twice vertex_unused fan_broken valence_off inner_tagged mesh_refusal
    corner_weight inner_mask edge_mask boundary_edge_mask smooth_corner_mask boundary_corner_mask vertex_mask weight sharp sharp_sum ring_sum fixed
    corner_point inner_point edge_point along_point before_point point owner kind patch_point patch_number point_exact patch_mark
marks-hold = refl

pub marked-samples-hold : computed_all marked_samples ≡ stated_all marked_samples
unfolding marked_samples half_even nearest_ℕ nearest remainder fold_below list_below filled is_twin twin boundary valence on_boundary
    corner_weight inner_mask edge_mask boundary_edge_mask smooth_corner_mask boundary_corner_mask vertex_mask weight sharp sharp_sum ring_sum fixed
    corner_point inner_point edge_point along_point before_point point owner kind patch_point patch_number point_exact patch_mark
    bernstein numerator rounded face_off control_off place_off marks_off patch_marked division_whole marked_answer
marked-samples-hold = refl
