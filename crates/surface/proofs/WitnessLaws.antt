-- The claim about the answers that the calls gave, from the claim about the definitions.
use mathlib.Core.Path.{◌≡◌, refl, sym, ap, ap₂, ◌∙◌}
use mathlib.Core.Bool.{false}
use mathlib.Core.List.{List, [], ◌++◌}
use mathlib.Core.Option.{none}
use Prim.Native.Nat.{ℕ, zero, suc, ◌*◌, ◌≤◌, ◌<◌}
use native.Mathlib.Omega.{arith}
use lib.Dec.{ltb}
use lib.IntN.{ℤ}
use lib.ListN.{length}
use borrow.Author.Tests.{ltb-false}
use Rattle.finite.proofs.AnyAll.{or-false}
use Rattle.answer.specs.Table.{Answer, result, answered as answer_of}
use Rattle.answer.proofs.TableLaws.{none-append}
use Rattle.mesh.specs.IndexedMesh.{IndexedMesh, corners}
use Rattle.mesh.specs.Refusal.{early_rows, late_rows}
use Rattle.mesh.specs.WellFormed.{WellFormed}
use Rattle.mesh.specs.Answer.{counts_of, mesh_refusal}
use Rattle.mesh.proofs.AcceptedLaws.{accepted-early, accepted-late, accepted-well-formed}
use Rattle.sample.specs.Bernstein.{coordinate_at}
use Rattle.sample.specs.Marked.{sample_exact}
use Rattle.sample.specs.declared.model.Point.{Point}
use Rattle.patch.specs.Patch.{patches_after, marks_after}
use Rattle.patch.specs.Answer.{Lent, patches_short, marks_short, lists_short, patch_rows, patch_answer, patch_list, marks_list, Patched}
use Rattle.symmetry.proofs.WellFormedMoves.{alike-well-formed, alike-counts}
use Rattle.surface.specs.Claim.{OnMesh, coordinate_of, sample_coordinate, sample_point, is_exact, Claim}
use Rattle.surface.specs.Renumbering.{place}
use Rattle.surface.specs.Witness.{sample_at, marked_at, Asked, asked, Evaluated, Witnessed}
use Rattle.sample.specs.declared.model.Place.{Place as SamplePlace}
use Rattle.surface.specs.declared.model.Evaluation.{Evaluation}
use Rattle.surface.specs.declared.model.Witness.{Witness}
use Rattle.surface.proofs.FromRenumbering.{alike}
use Rattle.surface.proofs.Exactness.{exact-on}
use Rattle.surface.proofs.AnsweredLaws.{sample-answered, marked-answered}
use Rattle.surface.proofs.ClaimLaws.{answer_from, marked_answer_from, sampled-from, marked_from, distance-on, seam-on, renumbered-on, marks-renumbered-on}

-- what the three calls gave, the sample calls on the lists that the patch call left
pub evaluated : {n : ℕ} {a : Asked} {r : Evaluation} {b : Lent} → Patched a.mesh a.lists r.mesh b
    → answer_of r.sample ≡ sample_at b.patches n a.place → answer_of r.marked ≡ marked_at b.patches b.marks n a.place → Evaluated n a r b
evaluated {n} {a} patched sample marks = record {
  patched = patched;
  sample-is = sample ∙ ap (λ (t : List ℤ). sample_at t n a.place) patched.patches-are;
  marked-is = marks ∙ ap₂ (λ (t : List ℤ) (u : List ℕ). marked_at t u n a.place) patched.patches-are patched.marks-are;
}

-- a coordinate of three numbers given by their places
coordinate-of : (g : ℕ → ℤ) (k : ℕ) → k < 3 → coordinate_of (result (sample_point g)) k ≡ g k
coordinate-of g zero l = refl
coordinate-of g (suc zero) l = refl
coordinate-of g (suc (suc zero)) l = refl
coordinate-of g (suc (suc (suc k))) l = absurd (let bad : ⊥ = omega arith in bad)

-- what the patch call answers for an accepted mesh, on lists that are long enough, and what stands in the patch list and the marks afterwards
module _ {M : IndexedMesh} (d : Lent) (a : WellFormed M) (long : lists_short M d ≡ false) where
  unmet : mesh_refusal M (patch_rows M d) [] ≡ none
  unfolding mesh_refusal
  unmet =
      none-append (early_rows M (patch_rows M d)) (late_rows M ++ []) (accepted-early a (patch_rows M d) (rw long))
      ∙ none-append (late_rows M) [] (accepted-late a)

  pub accepted-answer : patch_answer M d ≡ result (counts_of M)
  accepted-answer = rw unmet

  accepted-list : patch_list M d ≡ patches_after M d.patches
  accepted-list = rw unmet

  accepted-marks : marks_list M d ≡ marks_after M d.marks
  accepted-marks = rw unmet

  written-long : (patches_short M d.patches ≡ false) × (marks_short M d.marks ≡ false)
  written-long = or-false (patches_short M d.patches) (marks_short M d.marks) (or-false (ltb (length d.twins) (corners M)) _ long).1

  patches-long : 48 * M.faces ≤ length d.patches
  patches-long = ltb-false (length d.patches) (48 * M.faces) written-long.0

  marks-long : 16 * M.faces ≤ length d.marks
  marks-long = ltb-false (length d.marks) (16 * M.faces) written-long.1

  -- samples on those lists
  sample-on : (n : ℕ) (q : SamplePlace) → sample_at (patch_list M d) n q ≡ sample_at (patches_after M d.patches) n q
  sample-on n q = ap (λ (t : List ℤ). sample_at t n q) accepted-list

  marked-on : (n : ℕ) (q : SamplePlace)
      → marked_at (patch_list M d) (marks_list M d) n q ≡ marked_at (patches_after M d.patches) (marks_after M d.marks) n q
  marked-on n q = ap₂ (λ (t : List ℤ) (u : List ℕ). marked_at t u n q) accepted-list accepted-marks

  -- the same, by the control points
  pub sample-from : (n : ℕ) (q : SamplePlace) → OnMesh M n q
      → sample_at (patch_list M d) n q ≡ answer_from M n q.face (place q.a q.b)
  sample-from n q on = sample-on n q ∙ sampled-from a d.patches patches-long n q.face (place q.a q.b) on.0 on.1

  pub marked_by : (n : ℕ) (q : SamplePlace) → OnMesh M n q
      → marked_at (patch_list M d) (marks_list M d) n q ≡ marked_answer_from M n q.face (place q.a q.b)
  marked_by n q on =
      marked-on n q ∙ marked_from a d.patches d.marks patches-long marks-long n q.face (place q.a q.b) on.0 on.1

module _ {M M' : IndexedMesh} {d d' b b' : Lent} {n : ℕ} {q q' : SamplePlace} (o : SamplePlace) (w : Witness)
    (first : Evaluated n (asked M d q) w.first b) (second : Evaluated n (asked M' d' q') w.second b')
    (other-is : answer_of w.other ≡ sample_at (patch_list M d) n o) where
  module _ (a : WellFormed M) (long : lists_short M d ≡ false) where
    abbrev after : List ℤ
    after = patches_after M d.patches

    abbrev marks : List ℕ
    marks = marks_after M d.marks

    -- the coordinates of the first sample, by the definitions
    abbrev expected : ℕ → ℤ
    expected = coordinate_at after q.face n q.a q.b

    here : answer_of w.first.sample ≡ sample_at after n q
    here = first.sample-is ∙ sample-on d a long n q

    gave : OnMesh M n q → answer_of w.first.sample ≡ result (sample_point expected)
    gave on = here ∙ sample-answered a d.patches q.face n q.a q.b (patches-long d a long) on.0 on.1

    gave-number : OnMesh M n q → (k : ℕ) → k < 3 → sample_coordinate w.first.sample k ≡ expected k
    gave-number on k h = ap (λ (t : Answer Point). coordinate_of t k) (gave on) ∙ coordinate-of expected k h

    here-marked : answer_of w.first.marked ≡ marked_at after marks n q
    here-marked = first.marked-is ∙ marked-on d a long n q

    gave-marked : OnMesh M n q
        → answer_of w.first.marked ≡ result (record { point = sample_point expected; exact = sample_exact after marks q.face n q.a q.b })
    gave-marked on =
        here-marked
        ∙ marked-answered a d.patches d.marks q.face n q.a q.b (patches-long d a long) (marks-long d a long) on.0 on.1

    claim : Claim M M' d' n q o q' w
    claim = record {
      taken = first.patched.answer-is ∙ accepted-answer d a long;
      answered = λ on. rw (gave on);
      distance = λ k L y on h common. rw (gave-number on k h) (distance-on a d.patches (patches-long d a long) n q k L y on h common);
      marked-answered = λ on. rw (gave on, gave-marked on);
      exactness = λ k L y on h common set.
          rw (gave-number on k h) (exact-on M d.patches d.marks n q on.0 (sym (ap is_exact (gave-marked on)) ∙ set) k L y h common);
      seam = λ c t h inner on at-q at-o.
          here ∙ ap (sample_at after n) at-q ∙ seam-on a d.patches (patches-long d a long) n c t h inner on
          ∙ sym (other-is ∙ sample-on d a long n o ∙ ap (sample_at after n) at-o);
      counted = λ r long'.
          let k = alike-counts a (alike r) in
          first.patched.answer-is ∙ accepted-answer d a long
          ∙ sym (second.patched.answer-is ∙ accepted-answer d' (alike-well-formed a (alike r)) long'
          ∙ rw (k.0, k.1, r.same-vertices, r.same-faces));
      renumbered = λ r long' on at-q'.
          let a' = alike-well-formed a (alike r) in
          here
          ∙ renumbered-on a d.patches (patches-long d a long) n r d'.patches (patches-long d' a' long') q.face (place q.a q.b) on.0 on.1
          ∙ sym (second.sample-is ∙ sample-on d' a' long' n q' ∙ ap (sample_at (patches_after M' d'.patches) n) at-q');
      marks-renumbered = λ r long' on at-q'.
          let a' = alike-well-formed a (alike r) in
          here-marked
          ∙ marks-renumbered-on a d.patches (patches-long d a long) n d.marks (marks-long d a long) r d'.patches d'.marks
          (patches-long d' a' long') (marks-long d' a' long') q.face (place q.a q.b) on.0 on.1
          ∙ sym (second.marked-is ∙ marked-on d' a' long' n q' ∙ ap (marked_at (patches_after M' d'.patches) (marks_after M' d'.marks) n) at-q');
    }

-- what `witness` gave: the calls for both meshes, and one more sample of the list that the first patch call left
pub witnessed : {n : ℕ} {a a' : Asked} {o : SamplePlace} {w : Witness} {b b' : Lent}
    → Evaluated n a w.first b → answer_of w.other ≡ sample_at b.patches n o → Evaluated n a' w.second b' → Witnessed n a o a' w b b'
witnessed {n} {o = o} {w = w} first other second =
    let other-is = other ∙ ap (λ (t : List ℤ). sample_at t n o) first.patched.patches-are in
    record { first = first; other-is = other-is; second = second; claim = λ a long. claim o w first second other-is (accepted-well-formed a) long }
