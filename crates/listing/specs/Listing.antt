-- What is printed of a file: its whole text, line by line, and the stretches that it is handed out in.
--
--   joined f n             the texts f 0, f 1, .., f (n - 1), one behind the other
--   line_of answer f a b    the line of a sample. No sample of an accepted file is refused (surface/specs/Claim.antt, `answered`); of a refused one
--                          it would be the refusal's
--   face_text patches n f   the lines of face f: by b, in each b by a, both from 0 upwards (rule F10)
--   listing answer patches   the line of counts, then the lines of each face in turn; of a refused file its one line (rule F10). From the answer
--                          of opening the file and the patch list that this left
--   line_count answer, line_at answer patches i   how many lines that is, and line i. proofs/ListingLaws.antt: the lines, one behind the other, are
--                          the listing
--   Stored t before after r   the text t stands at the front of a list, which is as it was behind it; r is its length
--   handed_count answer     how many lines are handed out: all of them, where F and N are within their upper limits
--   fitting text left places   how many of the texts text 0, text 1, .., text (left - 1) are put into so many places: the least number j such that fewer
--                          than 128 are left behind the first j of them; all of them, where none is such
--   lines_from, lines_fitting   the lines of a file from one on, and how many of them are put into so many places
--   Stretched answer patches line before r after   what was put into a buffer: the lines from `line` on, as many as fit, and the number of the next one
use Rattle.std.specs.Prelude.{◌≡◌, cond, ◌&&◌, List, [], ◌++◌, ℕ, zero, suc, ◌+◌, ◌-◌, ◌*◌, ◌/◌, ◌%◌, ◌≤◌, leb, ltb, ℤ, length, drop}
use Rattle.std.proofs.Math.Option.{get_or}
use Rattle.answer.specs.Table.{Answer, result, refusal}
use Rattle.finite.specs.Fold.{least_below}
use Rattle.limits.specs.Limits.{max_faces}
use Rattle.sample.specs.Refusal.{max_steps}
use Rattle.sample.specs.Answer.{sample_answer}
use Rattle.sample.specs.declared.model.Point.{Point}
use Rattle.meshfile.specs.declared.model.Tessellation.{Tessellation}
use Rattle.text.specs.Text.{counts_line, sample_line, refusal_line, line_places}
use Rattle.listing.specs.declared.model.Stretch.{Stretch}

unfoldable pub joined : (ℕ → List ℕ) → ℕ → List ℕ
joined f zero = []
joined f (suc n) = joined f n ++ f n

abbrev pub line_of : Answer Point → ℕ → ℕ → ℕ → List ℕ
line_of (result p) f a b = sample_line f a b p.x p.y p.z
line_of (refusal k) f a b = refusal_line k

abbrev pub sample_text : List ℤ → ℕ → ℕ → ℕ → ℕ → List ℕ
sample_text patches n f b a = line_of (sample_answer patches f n a b) f a b

abbrev pub face_text : List ℤ → ℕ → ℕ → List ℕ
face_text patches n f = joined (λ b. joined (λ a. sample_text patches n f b a) (n + 1)) (n + 1)

abbrev pub counts_text : Tessellation → List ℕ
counts_text t = counts_line t.mesh.vertices t.mesh.faces t.mesh.edges t.mesh.boundary

unfoldable pub listing : Answer Tessellation → List ℤ → List ℕ
listing (result t) patches = counts_text t ++ joined (face_text patches t.steps) t.mesh.faces
listing (refusal k) patches = refusal_line k

abbrev pub line_count : Answer Tessellation → ℕ
line_count (result t) = 1 + t.mesh.faces * (t.steps + 1) * (t.steps + 1)
line_count (refusal k) = 1

-- line i + 1 of an accepted file, for m = N + 1 samples along a side
abbrev pub sample_text_at : List ℤ → ℕ → ℕ → List ℕ
sample_text_at patches n i = sample_text patches n (i / (n + 1) / (n + 1)) (i / (n + 1) % (n + 1)) (i % (n + 1))

abbrev pub line_at : Answer Tessellation → List ℤ → ℕ → List ℕ
line_at (result t) patches zero = counts_text t
line_at (result t) patches (suc i) = sample_text_at patches t.steps i
line_at (refusal k) patches i = refusal_line k

pub record Stored (t before after : List ℕ) (r : ℕ) : Type 0 where
  pub length-is : r ≡ length t
  pub fits : length t ≤ length before
  pub list : after ≡ t ++ drop (length t) before

-- the line of counts alone where a size is above its limit, as in no answer of opening a file
abbrev pub handed_count : Answer Tessellation → ℕ
handed_count (result t) = cond (leb t.mesh.faces max_faces && leb t.steps max_steps) (line_count (result t)) 1
handed_count (refusal k) = 1

abbrev pub lines_from : Answer Tessellation → List ℤ → ℕ → ℕ → List ℕ
lines_from answer patches line j = line_at answer patches (line + j)

unfoldable pub fitting : (ℕ → List ℕ) → ℕ → ℕ → ℕ
fitting text left places = get_or (least_below (λ j. ltb (places - length (joined text j)) line_places) left) left

abbrev pub lines_fitting : Answer Tessellation → List ℤ → ℕ → ℕ → ℕ
lines_fitting answer patches line places = fitting (lines_from answer patches line) (handed_count answer - line) places

pub record Stretched (answer : Answer Tessellation) (patches : List ℤ) (line : ℕ) (before : List ℕ) (r : Stretch) (after : List ℕ) : Type 0 where
  pub line-is : r.line ≡ line + lines_fitting answer patches line (length before)
  pub stored : Stored (joined (lines_from answer patches line) (lines_fitting answer patches line (length before))) before after r.length
