-- The hypotheses of `TangentClaim` can be met: whatever the tangent call is passed, there is an answer and a list as it promises them; the cube
-- is an accepted mesh, its first two faces that meet have an edge in common and no corner at a boundary vertex. That each choice of numbers is
-- a renumbering is a law of `surface` (`renumbering`).
use mathlib.Core.Path.{◌≡◌, refl}
use mathlib.Core.Bool.{false}
use mathlib.Core.List.{List, [], ◌∷◌}
use Prim.Native.Nat.{ℕ}
use native.Mathlib.Omega.{arith}
use lib.IntN.{ℤ, pos}
use lib.ListN.{replicate}
use Rattle.finite.specs.Fold.{fold_below}
use Rattle.answer.specs.Table.{result_of}
use Rattle.answer.proofs.TableLaws.{result-of}
use Rattle.limits.specs.Range.{sizes_off}
use Rattle.mesh.specs.IndexedMesh.{IndexedMesh, indexed}
use Rattle.mesh.specs.HalfEdge.{is_twin, twin, boundary, same_way, doubled}
use Rattle.mesh.specs.Fan.{valence, on_boundary, around, iterate, fan_by, fan}
use Rattle.mesh.specs.Refusal.{coordinate_off, tag_off, vertex_off, vertex_twice, half_edge_twice}
use Rattle.mesh.specs.Refusal.{vertex_unused, fan_broken, valence_off, inner_tagged, Accepted}
use Rattle.tangent.specs.Answer.{face_open, tangent_answer, tangents_after, TangentsGiven}
use Rattle.tangency.specs.Claim.{Edge}

pub tangents-met : (M : IndexedMesh) (g : ℕ) (d : List ℤ) → TangentsGiven M g d (result_of (tangent_answer M g d)) (tangents_after M g d)
tangents-met M g d = record { answer-is = result-of (tangent_answer M g d); list-is = refl }

-- ---- the cube, with all its vertices at the origin
abbrev cube : IndexedMesh
cube =
    indexed 8 6 (replicate 24 (pos 0)) (replicate 8 0)
    (7 ∷ 6 ∷ 4 ∷ 5 ∷ 0 ∷ 2 ∷ 3 ∷ 1 ∷ 0 ∷ 1 ∷ 5 ∷ 4 ∷ 2 ∷ 6 ∷ 7 ∷ 3 ∷ 0 ∷ 4 ∷ 6 ∷ 2 ∷ 1 ∷ 3 ∷ 7 ∷ 5 ∷ [])

pub cube-met : Accepted cube × Edge cube 0 0 3 × (face_open cube 0 ≡ false) × (face_open cube 3 ≡ false)
unfolding Accepted fold_below is_twin twin boundary same_way doubled valence on_boundary around iterate fan_by fan face_open
    sizes_off coordinate_off tag_off vertex_off vertex_twice half_edge_twice vertex_unused fan_broken valence_off inner_tagged
cube-met = (refl, record { below = omega arith; inner = refl; face = refl; other = refl }, refl, refl)
