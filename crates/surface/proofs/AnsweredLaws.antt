-- The sample calls on the lists of an accepted mesh: none of their causes to refuse is met, and their samples are those of the control points.
use mathlib.Core.Path.{◌≡◌}
use mathlib.Core.Bool.{false}
use mathlib.Core.List.{List}
use Prim.Native.Nat.{ℕ, ◌+◌, ◌*◌, ◌≤◌, ◌<◌}
use native.Mathlib.Omega.{arith}
use lib.IntN.{ℤ, pos, nat_abs}
use lib.ListN.{length, get_or}
use borrow.Author.Tests.{le-ltb}
use Rattle.finite.proofs.AnyAll.{any_none}
use Rattle.answer.specs.Table.{result}
use Rattle.mesh.specs.IndexedMesh.{IndexedMesh}
use Rattle.mesh.specs.WellFormed.{WellFormed}
use Rattle.sample.specs.Bernstein.{rounded, coordinate_at}
use Rattle.sample.specs.Refusal.{max_control, min_steps, max_steps, face_off, control_off, place_off}
use Rattle.sample.specs.Answer.{point_at, sample_answer}
use Rattle.sample.specs.Marked.{marks_off, sample_exact, marked_answer}
use Rattle.sample.proofs.SampleLaws.{rounded-ext}
use Rattle.sample.proofs.RefusalLaws.{place-on}
use Rattle.patch.specs.Patch.{control_value, view, patches_after, marks_after}
use Rattle.patch.proofs.WrittenLaws.{written-length, written_at, written-bound, marks-length}

-- 12
face-none : (M : IndexedMesh) (d : List ℤ) (f : ℕ) → 48 * M.faces ≤ length d → f < M.faces → face_off (patches_after M d) f ≡ false
unfolding face_off
face-none M d f long l = le-ltb (length (patches_after M d)) (48 * f + 48) (rw (written-length M d long) (omega arith))

marks-none : (M : IndexedMesh) (x : List ℕ) (f : ℕ) → 16 * M.faces ≤ length x → f < M.faces → marks_off (marks_after M x) f ≡ false
unfolding marks_off
marks-none M x f long l = le-ltb (length (marks_after M x)) (16 * f + 16) (rw (marks-length M x long) (omega arith))

-- 13
control-none : {M : IndexedMesh} → WellFormed M → (d : List ℤ) (f : ℕ) → f < M.faces → control_off (patches_after M d) f ≡ false
unfolding control_off
control-none {M} a d f l =
    any_none _ 48 (λ i b. le-ltb max_control (nat_abs (get_or (patches_after M d) (48 * f + i) (pos 0))) (written-bound a d (48 * f + i) (omega arith)))

-- 14, at any other place for the same N
pub place_none : (n a b x y : ℕ) → place_off n a b ≡ false → x ≤ n → y ≤ n → place_off n x y ≡ false
unfolding place_off
place_none n a b x y on hx hy =
    let s = place-on n a b on in
    rw (le-ltb n min_steps s.0, le-ltb max_steps n s.1, le-ltb n x hx, le-ltb n y hy)

pub sample-answered : {M : IndexedMesh} → WellFormed M → (d : List ℤ) (f n a b : ℕ) → 48 * M.faces ≤ length d → f < M.faces → place_off n a b ≡ false
    → sample_answer (patches_after M d) f n a b ≡ result (point_at (patches_after M d) f n a b)
unfolding sample_answer
sample-answered {M} acc d f n a b long l on = rw (face-none M d f long l, control-none acc d f l, on)

pub marked-answered : {M : IndexedMesh} → WellFormed M → (d : List ℤ) (x : List ℕ) (f n a b : ℕ) → 48 * M.faces ≤ length d → 16 * M.faces ≤ length x
    → f < M.faces → place_off n a b ≡ false
    → marked_answer (patches_after M d) (marks_after M x) f n a b
    ≡ result (record { point = point_at (patches_after M d) f n a b; exact = sample_exact (patches_after M d) (marks_after M x) f n a b })
unfolding marked_answer
marked-answered {M} acc d x f n a b long room l on = rw (face-none M d f long l, marks-none M x f room l, control-none acc d f l, on)

pub coordinate-written : (M : IndexedMesh) (d : List ℤ) (f n a b k : ℕ) → f < M.faces → k < 3
    → coordinate_at (patches_after M d) f n a b k ≡ rounded n a b (control_value (view M k) (4 * f))
coordinate-written M d f n a b k l h = rounded-ext n a b (λ m r. written_at M d f m k l r h)
