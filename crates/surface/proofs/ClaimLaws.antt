-- The parts of the claim, of the definitions: what the sample calls answer on the lists of an accepted mesh.
--
--   sample_on M d n f p   what the sample call answers for face f at place p, on the patch list of M written over d
--   answer_from M n f p   the same, by the control points
--   marked_on, marked_answer_from   likewise for the marked sample call, with the marks of M written over x
use mathlib.Core.Path.{◌≡◌, sym, ap, ◌∙◌}
use mathlib.Core.Bool.{false}
use mathlib.Core.List.{List}
use Prim.Native.Nat.{ℕ, ◌-◌, ◌*◌, ◌/◌, ◌%◌, ◌^◌, ◌≤◌, ◌<◌}
use native.Mathlib.Omega.{arith}
use lib.IntN.{ℤ, pos, nat_abs, ◌-ℤ◌, ◌*ℤ◌}
use lib.ListN.{length}
use Rattle.answer.specs.Table.{Answer, result}
use Rattle.corner.specs.Corner.{turn}
use Rattle.mesh.specs.HalfEdge.{twin, boundary}
use Rattle.mesh.specs.IndexedMesh.{IndexedMesh, corners, at}
use Rattle.mesh.specs.WellFormed.{WellFormed}
use Rattle.mesh.proofs.AcceptedLaws.{accepted-corners}
use Rattle.sample.specs.Bernstein.{rounded, coordinate_at}
use Rattle.sample.specs.Refusal.{place_off}
use Rattle.sample.specs.Answer.{sample_answer}
use Rattle.sample.specs.Marked.{marked_answer}
use Rattle.sample.specs.declared.model.Point.{Point}
use Rattle.sample.specs.declared.model.MarkedPoint.{MarkedPoint}
use Rattle.sample.proofs.SampleLaws.{rounded-ext}
use Rattle.sample.proofs.RefusalLaws.{place-on}
use Rattle.control.specs.Control.{units}
use Rattle.patch.specs.Patch.{patch_point, view, patches_after, marks_after}
use Rattle.patch.proofs.PointLaws.{patch-divisor}
use Rattle.symmetry.proofs.WellFormedMoves.{alike-well-formed}
use Rattle.correspondence.proofs.PointMoves.{patch-moves}
use Rattle.surface.specs.Renumbering.{Renumbering, Place, matching, on_side}
use Rattle.surface.specs.Claim.{OnMesh, unrounded, Multiples, exact_sum, sample_point}
use Rattle.sample.specs.declared.model.Place.{Place as SamplePlace}
use Rattle.surface.proofs.FromRenumbering.{alike, face-begins, position-moves}
use Rattle.surface.proofs.FaceSamples.{sample_from, Within, matching-within, side-within, sample-matching}
use Rattle.surface.proofs.Seam.{twin_inside, seam}
use Rattle.surface.proofs.Distance.{distance}
use Rattle.surface.proofs.MarkLaws.{mark_from, same-marks, mark-matching, mark-written}
use Rattle.surface.proofs.AnsweredLaws.{coordinate-written, place_none, sample-answered, marked-answered}

abbrev pub sample_on : IndexedMesh → List ℤ → ℕ → ℕ → Place → Answer Point
sample_on M d n f p = sample_answer (patches_after M d) f n p.a p.b

abbrev pub answer_from : IndexedMesh → ℕ → ℕ → Place → Answer Point
answer_from M n f p = result (sample_point (λ k. sample_from (view M k) n (4 * f) p))

abbrev pub marked_on : IndexedMesh → List ℤ → List ℕ → ℕ → ℕ → Place → Answer MarkedPoint
marked_on M d x n f p = marked_answer (patches_after M d) (marks_after M x) f n p.a p.b

abbrev pub marked_answer_from : IndexedMesh → ℕ → ℕ → Place → Answer MarkedPoint
marked_answer_from M n f p = result (record { point = sample_point (λ k. sample_from (view M k) n (4 * f) p); exact = mark_from (view M) n (4 * f) p })

-- answers whose coordinates are equal
same_answer : (M M' : IndexedMesh) (n f f' : ℕ) (p p' : Place)
    → ((k : ℕ) → k < 3 → sample_from (view M k) n (4 * f) p ≡ sample_from (view M' k) n (4 * f') p') → answer_from M n f p ≡ answer_from M' n f' p'
same_answer M M' n f f' p p' h = rw (h 0 (omega arith), h 1 (omega arith), h 2 (omega arith))

-- what the sample call gives, by the control points
pub sampled-from : {M : IndexedMesh} → WellFormed M → (d : List ℤ) → 48 * M.faces ≤ length d → (n f : ℕ) (p : Place)
    → f < M.faces → place_off n p.a p.b ≡ false → sample_on M d n f p ≡ answer_from M n f p
sampled-from {M} a d long n f p l on =
    sample-answered a d f n p.a p.b long l on
    ∙ rw (
      coordinate-written M d f n p.a p.b 0 l (omega arith),
      coordinate-written M d f n p.a p.b 1 l (omega arith),
      coordinate-written M d f n p.a p.b 2 l (omega arith),
    )

same-marked : (M M' : IndexedMesh) (n f f' : ℕ) (p p' : Place)
    → ((k : ℕ) → k < 3 → sample_from (view M k) n (4 * f) p ≡ sample_from (view M' k) n (4 * f') p')
    → mark_from (view M) n (4 * f) p ≡ mark_from (view M') n (4 * f') p'
    → marked_answer_from M n f p ≡ marked_answer_from M' n f' p'
same-marked M M' n f f' p p' h e = rw (h 0 (omega arith), h 1 (omega arith), h 2 (omega arith), e)

-- what the marked sample call gives, by the control points
pub marked_from : {M : IndexedMesh} → WellFormed M → (d : List ℤ) (x : List ℕ) → 48 * M.faces ≤ length d → 16 * M.faces ≤ length x → (n f : ℕ) (p : Place)
    → f < M.faces → place_off n p.a p.b ≡ false → marked_on M d x n f p ≡ marked_answer_from M n f p
marked_from {M} a d x long room n f p l on =
    marked-answered a d x f n p.a p.b long room l on
    ∙ rw (
      coordinate-written M d f n p.a p.b 0 l (omega arith),
      coordinate-written M d f n p.a p.b 1 l (omega arith),
      coordinate-written M d f n p.a p.b 2 l (omega arith),
      mark-written M d x f n p l,
    )

-- a face of M' has the control points of the face of M, seen from the corner at which it begins
module _ {M M' : IndexedMesh} (r : Renumbering M M') (a : WellFormed M) (k : ℕ) (axis : k < 3) (f : ℕ) (face : f < M.faces) where
  patch-renumbered : (m : ℕ) → m < 16 → patch_point (view M' k) (4 * r.face_map.to f) m ≡ patch_point (view M k) (turn (r.start f) (4 * f)) m
  patch-renumbered m b =
      ap (λ (c : ℕ). patch_point (view M' k) c m) (sym (face-begins r f face))
      ∙ patch-moves a (alike r) (view M k).value (view M' k).value (λ p l. position-moves r p k l axis) (turn (r.start f) (4 * f)) (omega arith) m b

  sample-renumbered : (n : ℕ) (p : Place) → Within n p
      → sample_from (view M' k) n (4 * r.face_map.to f) (matching n (r.start f) p) ≡ sample_from (view M k) n (4 * f) p
  sample-renumbered n p w =
      rounded-ext n _ _ (λ m b. ap units (patch-renumbered m b)) ∙ sample-matching (view M k) n (r.start f) (4 * f) p w

mark-renumbered : {M M' : IndexedMesh} (r : Renumbering M M') (a : WellFormed M) (f : ℕ) → f < M.faces → (n : ℕ) (p : Place) → Within n p
    → mark_from (view M') n (4 * r.face_map.to f) (matching n (r.start f) p) ≡ mark_from (view M) n (4 * f) p
mark-renumbered {M} {M'} r a f face n p w =
    same-marks (view M') (view M) n _ _ (matching n (r.start f) p) (λ k m h b. patch-renumbered r a k h f face m b)
    ∙ mark-matching (view M) n (r.start f) (4 * f) p w

-- a sample is that of the exact surface's control points, rounded
exact-rounded : (M : IndexedMesh) (d : List ℤ) (f n x y k : ℕ) → f < M.faces → k < 3
    → coordinate_at (patches_after M d) f n x y k ≡ rounded n x y (λ m. units (unrounded M k f m))
exact-rounded M d f n x y k l h = coordinate-written M d f n x y k l h

module _ {M : IndexedMesh} (a : WellFormed M) (d : List ℤ) (long : 48 * M.faces ≤ length d) (n : ℕ) where
  pub distance-on : (q : SamplePlace) (k L : ℕ) (x : ℕ → ℕ) → OnMesh M n q → k < 3 → Multiples M k q.face L x
      → nat_abs (coordinate_at (patches_after M d) q.face n q.a q.b k *ℤ pos (n ^ 6 * L) -ℤ exact_sum M k n q x) ≤ n ^ 6 * L
  distance-on q k L x on h common =
      let s = place-on n q.a q.b on.1 in
      rw (exact-rounded M d q.face n q.a q.b k on.0 h)
      (distance n q.a q.b s.0 s.2 s.3 (unrounded M k q.face) L x (λ m _. patch-divisor a q.face m k on.0 h) common)

  -- place t of half-edge c
  on-side : (c t : ℕ) → c < corners M → place_off n t 0 ≡ false → sample_on M d n (c / 4) (on_side n (c % 4) t) ≡ answer_from M n (c / 4) (on_side n (c % 4) t)
  on-side c t l on =
      let w = side-within n (c % 4) t (place-on n t 0 on).2 in
      sampled-from a d long n (c / 4) (on_side n (c % 4) t) (omega arith) (place_none n t 0 _ _ on w.0 w.1)

  pub seam-on : (c t : ℕ) → c < corners M → boundary (at M) (corners M) c ≡ false → place_off n t 0 ≡ false
      → sample_on M d n (c / 4) (on_side n (c % 4) t) ≡ sample_on M d n (twin (at M) (corners M) c / 4) (on_side n (twin (at M) (corners M) c % 4) (n - t))
  seam-on c t l e on =
      let whole = accepted-corners a in
      on-side c t l on
      ∙ same_answer M M n _ _ _ _ (λ k _. seam (view M k) whole a.simple c l e n t (place-on n t 0 on).2)
      ∙ sym (on-side _ (n - t) (twin_inside (view M 0) whole a.simple c l e) (place_none n t 0 _ _ on (omega arith) (omega arith)))

  pub renumbered-on : {M' : IndexedMesh} (r : Renumbering M M') (d' : List ℤ) → 48 * M'.faces ≤ length d'
      → (f : ℕ) (p : Place) → f < M.faces → place_off n p.a p.b ≡ false
      → sample_on M d n f p ≡ sample_on M' d' n (r.face_map.to f) (matching n (r.start f) p)
  renumbered-on {M'} r d' long' f p l on =
      let s = place-on n p.a p.b on in
      let w = matching-within n (r.start f) p (s.2, s.3) in
      sampled-from a d long n f p l on
      ∙ sym (same_answer M' M n _ _ _ _ (λ k h. sample-renumbered r a k h f l n p (s.2, s.3)))
      ∙ sym (sampled-from (alike-well-formed a (alike r)) d' long' n (r.face_map.to f) (matching n (r.start f) p)
      (rw r.same-faces (r.face_map.to_below f l)) (place_none n p.a p.b _ _ on w.0 w.1))

  pub marks-renumbered-on : (x : List ℕ) → 16 * M.faces ≤ length x
      → {M' : IndexedMesh} (r : Renumbering M M') (d' : List ℤ) (x' : List ℕ) → 48 * M'.faces ≤ length d' → 16 * M'.faces ≤ length x'
      → (f : ℕ) (p : Place) → f < M.faces → place_off n p.a p.b ≡ false
      → marked_on M d x n f p ≡ marked_on M' d' x' n (r.face_map.to f) (matching n (r.start f) p)
  marks-renumbered-on x room {M'} r d' x' long' room' f p l on =
      let s = place-on n p.a p.b on in
      let w = matching-within n (r.start f) p (s.2, s.3) in
      marked_from a d x long room n f p l on
      ∙ sym (same-marked M' M n _ _ _ _ (λ k h. sample-renumbered r a k h f l n p (s.2, s.3)) (mark-renumbered r a f l n p (s.2, s.3)))
      ∙ sym (marked_from (alike-well-formed a (alike r)) d' x' long' room' n (r.face_map.to f) (matching n (r.start f) p)
      (rw r.same-faces (r.face_map.to_below f l)) (place_none n p.a p.b _ _ on w.0 w.1))
