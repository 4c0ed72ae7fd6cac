-- The tangents of two worked meshes, all 72 numbers of a face each, and what the call answers, each computed from the definitions (rule X16).
use Rattle.std.specs.Prelude.{List, [], ◌∷◌, ◌++◌, ◌≡◌, refl, ℕ, ℤ, pos, neg_ℤ, replicate}
use Rattle.integer.specs.Nearest.{half_even, nearest_ℕ, nearest}
use Rattle.finite.specs.Fold.{fold_below}
use Rattle.finite.specs.Filled.{list_below}
use Rattle.mesh.specs.IndexedMesh.{IndexedMesh}
use Rattle.mesh.specs.HalfEdge.{is_twin, twin, boundary, same_way, doubled}
use Rattle.mesh.specs.Fan.{valence, on_boundary, around, iterate, fan_by, fan}
use Rattle.mesh.specs.Refusal.{coordinate_off, tag_off, vertex_off, vertex_twice, half_edge_twice, vertex_unused, fan_broken, valence_off, inner_tagged}
use Rattle.mesh.specs.Answer.{mesh_refusal}
use Rattle.limits.specs.Range.{sizes_off}
use Rattle.mask.specs.Mask.{corner_weight, inner_mask, edge_mask, boundary_edge_mask}
use Rattle.cosine.specs.Cosine.{cosines, cosine}
use Rattle.cosine.specs.Root.{root}
use Rattle.cosine.specs.Weight.{chain, multiple_cosine, hypotenuse, weight_by}
use Rattle.patch.specs.Point.{weight, sharp, inner_point, edge_point, along_point, before_point, point}
use Rattle.patch.specs.Patch as Patch
use Rattle.patch.specs.Patch.{owner, patch_point}
use Rattle.tangent.specs.Vector.{corner_vector, end_vector, middle_vector, inner_vector, start_into, end_into}
use Rattle.tangent.specs.Tangent.{vector, row_of, tangent, tangent_number, tangent_list}
use Rattle.tangent.specs.Answer.{face_open, tangent_answer}
use Rattle.examples.specs.Meshes.{cube, strip, tagged, boxes, grid}
use Rattle.examples.specs.Examples.{Example, example, computed_all, stated_all, refusal_number}

abbrev neg : ℕ → ℤ
neg n = neg_ℤ (pos n)

abbrev vec : ℤ → ℤ → ℤ → List ℤ
vec x y z = x ∷ y ∷ z ∷ []

-- the number that the call refuses with, on a list of so many places; nothing where it writes the tangents
abbrev refused_tangents : IndexedMesh → ℕ → ℕ → List ℤ
refused_tangents M g n = refusal_number (tangent_answer M g (replicate n (pos 0)))

-- the cube, face 0: four corners of three faces each. Four rows of u, then three of v
abbrev cube_tangents : List ℤ
cube_tangents =
    vec (neg 7076) (pos 3538) (pos 3538) ++ vec (neg 9216) (pos 0) (pos 0) ++ vec (neg 7076) (neg 3538) (neg 3538)
    ++ vec (neg 6322) (pos 1893) (pos 7502) ++ vec (neg 9216) (pos 0) (pos 0) ++ vec (neg 6322) (neg 1893) (neg 7502)
    ++ vec (neg 6322) (neg 1893) (pos 7502) ++ vec (neg 9216) (pos 0) (pos 0) ++ vec (neg 6322) (pos 1893) (neg 7502)
    ++ vec (neg 7076) (neg 3538) (pos 3538) ++ vec (neg 9216) (pos 0) (pos 0) ++ vec (neg 7076) (pos 3538) (neg 3538)
    ++ vec (pos 3538) (neg 7076) (pos 3538) ++ vec (pos 1893) (neg 6322) (pos 7502)
    ++ vec (neg 1893) (neg 6322) (pos 7502) ++ vec (neg 3538) (neg 7076) (pos 3538)
    ++ vec (pos 0) (neg 9216) (pos 0) ++ vec (pos 0) (neg 9216) (pos 0)
    ++ vec (pos 0) (neg 9216) (pos 0) ++ vec (pos 0) (neg 9216) (pos 0)
    ++ vec (neg 3538) (neg 7076) (neg 3538) ++ vec (neg 1893) (neg 6322) (neg 7502)
    ++ vec (pos 1893) (neg 6322) (neg 7502) ++ vec (pos 3538) (neg 7076) (neg 3538)

-- the boxes, face 2: corners of three, four, five and four faces
abbrev box_tangents : List ℤ
box_tangents =
    vec (pos 4505) (neg 1916) (pos 2831) ++ vec (pos 6912) (neg 417) (pos 780) ++ vec (pos 7936) (pos 0) (pos 213)
    ++ vec (pos 4601) (neg 1749) (pos 5308) ++ vec (pos 6879) (neg 927) (pos 372) ++ vec (pos 7964) (pos 422) (pos 983)
    ++ vec (pos 4069) (neg 853) (pos 5124) ++ vec (pos 8781) (pos 744) (pos 1068) ++ vec (pos 7256) (pos 1682) (pos 1058)
    ++ vec (pos 4224) (pos 384) (pos 5376) ++ vec (pos 8730) (pos 0) (pos 1407) ++ vec (pos 5911) (neg 264) (neg 2309)
    ++ vec (neg 2032) (pos 4496) (pos 2831) ++ vec (neg 2016) (pos 4747) (pos 5308)
    ++ vec (neg 1068) (pos 4098) (pos 5124) ++ vec (pos 256) (pos 4096) (pos 5376)
    ++ vec (neg 123) (pos 6543) (pos 780) ++ vec (neg 543) (pos 6495) (pos 372)
    ++ vec (pos 1359) (pos 8166) (pos 1068) ++ vec (pos 561) (pos 8166) (pos 1407)
    ++ vec (pos 427) (pos 7424) (pos 213) ++ vec (pos 945) (pos 7465) (pos 983)
    ++ vec (pos 2257) (pos 6681) (pos 1058) ++ vec (pos 170) (pos 5444) (neg 2309)

unfoldable pub answers : List Example
answers =
    -- nothing is met; no such face; another length; both: row 12 is before row 18
    example (refused_tangents cube 5 72) []
    ∷ example (refused_tangents cube 6 72) (pos 12 ∷ [])
    ∷ example (refused_tangents cube 5 71) (pos 18 ∷ [])
    ∷ example (refused_tangents cube 5 73) (pos 18 ∷ [])
    ∷ example (refused_tangents cube 6 71) (pos 12 ∷ [])
    -- a cause of the mesh is before both
    ∷ example (refused_tangents (tagged cube (0 ∷ 0 ∷ 0 ∷ 0 ∷ 0 ∷ 0 ∷ 0 ∷ 1 ∷ [])) 6 71) (pos 11 ∷ [])
    -- every corner on the boundary; three of them; two of them; none
    ∷ example (refused_tangents strip 0 72) (pos 18 ∷ [])
    ∷ example (refused_tangents grid 0 72) (pos 18 ∷ [])
    ∷ example (refused_tangents grid 1 72) (pos 18 ∷ [])
    ∷ example (refused_tangents grid 4 72) []
    ∷ []

pub cube-tangents-hold : tangent_list cube 0 ≡ cube_tangents
unfolding half_even nearest_ℕ nearest fold_below list_below is_twin twin boundary valence on_boundary around iterate
    corner_weight inner_mask edge_mask boundary_edge_mask weight sharp inner_point edge_point along_point before_point point owner Patch.kind patch_point
    cosines cosine root chain multiple_cosine hypotenuse weight_by
    corner_vector end_vector middle_vector inner_vector start_into end_into vector row_of tangent tangent_number
cube-tangents-hold = refl

pub box-tangents-hold : tangent_list boxes 2 ≡ box_tangents
unfolding half_even nearest_ℕ nearest fold_below list_below is_twin twin boundary valence on_boundary around iterate
    corner_weight inner_mask edge_mask boundary_edge_mask weight sharp inner_point edge_point along_point before_point point owner Patch.kind patch_point
    cosines cosine root chain multiple_cosine hypotenuse weight_by
    corner_vector end_vector middle_vector inner_vector start_into end_into vector row_of tangent tangent_number
box-tangents-hold = refl

pub tangent-answers-hold : computed_all answers ≡ stated_all answers
unfolding answers fold_below is_twin twin boundary same_way doubled valence on_boundary around iterate fan_by fan
    sizes_off coordinate_off tag_off vertex_off vertex_twice half_edge_twice vertex_unused fan_broken valence_off inner_tagged mesh_refusal face_open
tangent-answers-hold = refl
