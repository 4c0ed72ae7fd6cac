-- The hypotheses of `MirrorKeepsSamples` can be met: whatever the calls are passed, there are answers and lists as they promise them, and the
-- square is an accepted mesh.
use mathlib.Core.Path.{◌≡◌, refl}
use mathlib.Core.Bool.{false}
use mathlib.Core.List.{[], ◌∷◌}
use Prim.Native.Nat.{ℕ}
use lib.IntN.{pos}
use lib.ListN.{replicate}
use Rattle.finite.specs.Fold.{fold_below}
use Rattle.answer.specs.Table.{written_by, result_of}
use Rattle.answer.proofs.TableLaws.{result-of}
use Rattle.limits.specs.Range.{sizes_off}
use Rattle.mesh.specs.IndexedMesh.{IndexedMesh, indexed}
use Rattle.mesh.specs.HalfEdge.{is_twin, twin, boundary, same_way, doubled}
use Rattle.mesh.specs.Fan.{valence, on_boundary, around, iterate, fan_by, fan}
use Rattle.mesh.specs.Refusal.{coordinate_off, tag_off, vertex_off, vertex_twice, half_edge_twice, vertex_unused, fan_broken, valence_off, inner_tagged}
use Rattle.mesh.specs.Refusal.{Accepted}
use Rattle.patch.specs.Answer.{Lent, lent, patch_answer, patch_twins, patch_list, marks_list}
use Rattle.edit.specs.Mirror.{mirrored, Outputs, outputs, mirror_refusal, mirror_answer, outputs_off, MeshMirrored}
use Rattle.surface.specs.Witness.{sample_at, marked_at, asked, Evaluated}
use Rattle.sample.specs.declared.model.Place.{Place as SamplePlace}
use Rattle.surface.specs.declared.model.Evaluation.{Evaluation}

-- ---- whatever the calls are passed
pub mirror-met : (M : IndexedMesh) (x : Outputs) → (let met = mirror_refusal M x in
    MeshMirrored M x (result_of (mirror_answer M x)) (outputs (written_by met x.positions (mirrored M).positions)
    (written_by met x.tags (mirrored M).tags) (written_by met x.indices (mirrored M).indices)))
mirror-met M x =
    record { answer-is = result-of (mirror_answer M x); left = record { positions-are = refl; tags-are = refl; indices-are = refl } }

abbrev evaluation : IndexedMesh → Lent → ℕ → SamplePlace → Evaluation
evaluation M d n q = record {
  mesh = result_of (patch_answer M d);
  sample = result_of (sample_at (patch_list M d) n q);
  marked = result_of (marked_at (patch_list M d) (marks_list M d) n q);
}

pub evaluated-met : (M : IndexedMesh) (d : Lent) (n : ℕ) (q : SamplePlace)
    → Evaluated n (asked M d q) (evaluation M d n q) (lent (patch_twins M d) (patch_list M d) (marks_list M d))
evaluated-met M d n q = record {
  patched = record { answer-is = result-of (patch_answer M d); twins-are = refl; patches-are = refl; marks-are = refl };
  sample-is = result-of (sample_at (patch_list M d) n q);
  marked-is = result-of (marked_at (patch_list M d) (marks_list M d) n q);
}

-- ---- the square, with all its vertices at the origin, and lent lists of its lengths
abbrev square : IndexedMesh
square = indexed 4 1 (replicate 12 (pos 0)) (replicate 4 0) (0 ∷ 1 ∷ 2 ∷ 3 ∷ [])

pub accepted-met : Accepted square × (outputs_off square (outputs (replicate 12 (pos 0)) (replicate 4 0) (replicate 4 0)) ≡ false)
unfolding Accepted fold_below is_twin twin boundary same_way doubled valence on_boundary around iterate fan_by fan
    sizes_off coordinate_off tag_off vertex_off vertex_twice half_edge_twice vertex_unused fan_broken valence_off inner_tagged
accepted-met = (refl, refl)
