-- The claim about the answers that the calls gave for a mesh and for its mirror image, from the laws of the image.
use mathlib.Core.Path.{◌≡◌, sym, ap, ◌∙◌, subst}
use mathlib.Core.Bool.{false}
use mathlib.Core.Option.{none}
use Prim.Native.Nat.{ℕ, ◌*◌, ◌<◌}
use native.Mathlib.Omega.{arith}
use Rattle.std.specs.Prelude.{Result}
use Rattle.answer.specs.declared.refusal.Refusal.{Refusal}
use Rattle.answer.specs.Table.{result, answered as answer_of}
use Rattle.mesh.specs.IndexedMesh.{IndexedMesh}
use Rattle.mesh.specs.WellFormed.{WellFormed}
use Rattle.mesh.specs.Answer.{counts_of}
use Rattle.mesh.proofs.AcceptedLaws.{accepted-well-formed, well-formed-accepted}
use Rattle.sample.proofs.RefusalLaws.{place-on}
use Rattle.patch.specs.Patch.{view}
use Rattle.patch.specs.Answer.{Lent, lists_short, patch_list, marks_list}
use Rattle.symmetry.proofs.WellFormedMoves.{alike-well-formed, alike-counts}
use Rattle.edit.specs.Mirror.{reflected, mirrored, Outputs, outputs_off, mirror_refusal, MeshMirrored}
use Rattle.edit.proofs.AnswerLaws.{nothing-met}
use Rattle.surface.specs.Claim.{OnMesh}
use Rattle.surface.specs.Renumbering.{place}
use Rattle.surface.specs.Witness.{sample_at, marked_at, asked, Evaluated}
use Rattle.sample.specs.declared.model.Place.{Place as SamplePlace}
use Rattle.surface.specs.declared.model.Evaluation.{Evaluation}
use Rattle.surface.proofs.FaceSamples.{sample_from}
use Rattle.surface.proofs.MarkLaws.{mark_from}
use Rattle.surface.proofs.AnsweredLaws.{place_none}
use Rattle.surface.proofs.ClaimLaws.{answer_from, marked_answer_from}
use Rattle.surface.proofs.WitnessLaws.{accepted-answer, sample-from, marked_by}
use Rattle.effect.specs.Mirroring.{exchanged, reflected_answer, reflected_marked, mesh_left, MirrorClaim, MirrorKeepsSamples}
use Rattle.effect.proofs.FromMirror.{alike, sample-mirrored, mark-mirrored}

-- ---- the image of an accepted mesh
module _ {M : IndexedMesh} (a : WellFormed M) where
  image-formed : WellFormed (mirrored M)
  image-formed = alike-well-formed a (alike a)

  image-counts : counts_of (mirrored M) ≡ counts_of M
  image-counts = let k = alike-counts a (alike a) in rw (k.0, k.1)

  -- a place of the mesh, with a and b exchanged, is one of the image
  image-place : (n : ℕ) (q : SamplePlace) → OnMesh M n q → OnMesh (mirrored M) n (exchanged q)
  image-place n q on =
      let s = place-on n q.a q.b on.1 in
      (on.0, place_none n q.a q.b _ _ on.1 (omega (arith, s.2, s.3)) (omega (arith, s.2, s.3)))

  module _ (n : ℕ) (q : SamplePlace) (on : OnMesh M n q) where
    image-coordinate : (k : ℕ) → k < 3
        → sample_from (view (mirrored M) k) n (4 * q.face) (place q.b q.a) ≡ reflected k (sample_from (view M k) n (4 * q.face) (place q.a q.b))
    image-coordinate k h = let s = place-on n q.a q.b on.1 in sample-mirrored a n s.0 q.face q.a q.b k on.0 s.2 s.3 h

    image-mark : mark_from (view (mirrored M)) n (4 * q.face) (place q.b q.a) ≡ mark_from (view M) n (4 * q.face) (place q.a q.b)
    image-mark = let s = place-on n q.a q.b on.1 in mark-mirrored a n s.0 q.face q.a q.b on.0 s.2 s.3

    image-sample : answer_from (mirrored M) n q.face (place q.b q.a) ≡ reflected_answer (answer_from M n q.face (place q.a q.b))
    image-sample = rw (image-coordinate 0 (omega arith), image-coordinate 1 (omega arith), image-coordinate 2 (omega arith))

    image-marked : marked_answer_from (mirrored M) n q.face (place q.b q.a) ≡ reflected_marked (marked_answer_from M n q.face (place q.a q.b))
    image-marked = rw (image-coordinate 0 (omega arith), image-coordinate 1 (omega arith), image-coordinate 2 (omega arith), image-mark)

  -- ---- what the mirror call gave and left
  module _ {x x' : Outputs} {r : Result Unit Refusal} (mirror : MeshMirrored M x r x') (on : outputs_off M x ≡ false) where
    unmet : mirror_refusal M x ≡ none
    unmet = nothing-met M x (well-formed-accepted a) on

    mirror-done : answer_of r ≡ result tt
    mirror-done = mirror.answer-is ∙ rw unmet

    image-left : mirrored M ≡ mesh_left M x'
    image-left = let left = mirror.left in rw (left.positions-are, left.tags-are, left.indices-are, unmet)

-- ---- what the patch call and the sample calls gave
evaluated-sample : {M : IndexedMesh} → WellFormed M → {d b : Lent} {n : ℕ} {q : SamplePlace} {r : Evaluation}
    → Evaluated n (asked M d q) r b → lists_short M d ≡ false → OnMesh M n q → answer_of r.sample ≡ answer_from M n q.face (place q.a q.b)
evaluated-sample a {d} {n = n} {q = q} gave long on = gave.sample-is ∙ sample-from d a long n q on

evaluated-marked : {M : IndexedMesh} → WellFormed M → {d b : Lent} {n : ℕ} {q : SamplePlace} {r : Evaluation}
    → Evaluated n (asked M d q) r b → lists_short M d ≡ false → OnMesh M n q → answer_of r.marked ≡ marked_answer_from M n q.face (place q.a q.b)
evaluated-marked a {d} {n = n} {q = q} gave long on = gave.marked-is ∙ marked_by d a long n q on

module _ {M : IndexedMesh} (a : WellFormed M) {d d' b b' : Lent} {n : ℕ} {q q' : SamplePlace}
    {s s' : Evaluation} (first : Evaluated n (asked M d q) s b) (second : Evaluated n (asked (mirrored M) d' q') s' b') where
  -- the image's samples at the place with a and b exchanged
  module _ (long : lists_short (mirrored M) d' ≡ false) (on : OnMesh M n q) (at : q' ≡ exchanged q) where
    turned_up : answer_of s'.sample ≡ answer_from (mirrored M) n q.face (place q.b q.a)
    turned_up =
        second.sample-is
        ∙ ap (sample_at (patch_list (mirrored M) d') n) at
        ∙ sample-from d' (image-formed a) long n (exchanged q) (image-place a n q on)

    marked-turned-up : answer_of s'.marked ≡ marked_answer_from (mirrored M) n q.face (place q.b q.a)
    marked-turned-up =
        second.marked-is
        ∙ ap (marked_at (patch_list (mirrored M) d') (marks_list (mirrored M) d') n) at
        ∙ marked_by d' (image-formed a) long n (exchanged q) (image-place a n q on)

  claim : {r : Result Unit Refusal} → answer_of r ≡ result tt → MirrorClaim n (asked M d q) (asked (mirrored M) d' q') r s s'
  claim done = record {
    done = done;
    accepted = well-formed-accepted (image-formed a);
    counted = λ long. first.patched.answer-is ∙ accepted-answer d a long;
    image-counted = λ long. second.patched.answer-is ∙ accepted-answer d' (image-formed a) long ∙ ap result (image-counts a);
    answered = λ long on. rw (evaluated-sample a first long on);
    reflected = λ long long' on at. turned_up long' on at ∙ image-sample a n q on ∙ sym (ap reflected_answer (evaluated-sample a first long on));
    marks-reflected = λ long long' on at.
        marked-turned-up long' on at ∙ image-marked a n q on ∙ sym (ap reflected_marked (evaluated-marked a first long on));
  }

-- the claim, of what the calls for the mesh and for the lists that the mirror call left handed back
pub mirror-keeps-samples : MirrorKeepsSamples
mirror-keeps-samples = record {
  claim = λ {M} {r = r} {n = n} {d = d} {d' = d'} {b' = b'} {q = q} {q' = q'} {s = s} {s' = s'} mirror first second accepted on.
      let a = accepted-well-formed accepted in
      subst (λ (N : IndexedMesh). Evaluated n (asked N d' q') s' b' → MirrorClaim n (asked M d q) (asked N d' q') r s s') (image-left a mirror on)
      (λ there. claim a first there (mirror-done a mirror on)) second;
}
