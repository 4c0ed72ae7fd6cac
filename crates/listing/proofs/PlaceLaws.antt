-- The lines of a mesh by the places of its samples: a line that is handed out behind the counts is that of a sample, and the lines of its row follow.
use mathlib.Core.Path.{◌≡◌, sym, ap, ◌∙◌}
use mathlib.Core.Bool.{Bool, true, false, cond, ◌&&◌}
use mathlib.Core.List.{List}
use Prim.Native.Nat.{ℕ, zero, suc, ◌+◌, ◌-◌, ◌*◌, ◌≤◌, ◌<◌}
use native.Mathlib.Nat.{mul-le-mul_right}
use native.Mathlib.Omega.{arith}
use lib.Dec.{leb, ltb}
use lib.IntN.{ℤ}
use borrow.Author.Tests.{leb-true, le-leb, ltb-true, ltb-false}
use Rattle.answer.specs.Table.{result}
use Rattle.finite.proofs.FoldLaws.{bool_cases}
use Rattle.finite.proofs.AnyAll.{and-true}
use Rattle.limits.specs.Limits.{max_faces}
use Rattle.sample.specs.Refusal.{max_steps}
use Rattle.meshfile.specs.declared.model.Tessellation.{Tessellation}
use Rattle.listing.specs.Listing.{sample_text, sample_text_at, line_count, line_at, handed_count, lines_from}
use Rattle.listing.specs.Place.{index, Placed, LinesPut}
use Rattle.sample.specs.declared.model.Place.{Place}
use Rattle.listing.specs.declared.model.Lines.{Lines}
use Rattle.listing.proofs.ListingLaws.{text_at, place-below}
use Rattle.listing.proofs.RowLaws.{run-ext}

-- ---- how many lines are handed out
-- F and N are within their upper limits
abbrev able : Tessellation → Bool
able t = leb t.mesh.faces max_faces && leb t.steps max_steps

count_by : (t : Tessellation) (b : Bool) → able t ≡ b → handed_count (result t) ≡ cond b (line_count (result t)) 1
count_by t b e = ap (λ (x : Bool). cond x (line_count (result t)) 1) e

pub count-all : (t : Tessellation) → t.mesh.faces ≤ max_faces → t.steps ≤ max_steps → line_count (result t) ≡ handed_count (result t)
count-all t f l = sym (count_by t true (rw (le-leb t.mesh.faces max_faces f, le-leb t.steps max_steps l)))

-- where a line behind the counts is handed out, N is within its limit, and all lines are handed out
pub record Handed (t : Tessellation) : Type 0 where
  pub steps-few : t.steps ≤ max_steps
  pub all : handed_count (result t) ≡ line_count (result t)

pub handed : (t : Tessellation) (line : ℕ) → 0 < line → line < handed_count (result t) → Handed t
handed t line some l =
    bool_cases (able t)
    (λ e. record {
      steps-few = leb-true t.steps max_steps (and-true (leb t.mesh.faces max_faces) (leb t.steps max_steps) e).1;
      all = count_by t true e;
    })
    (λ e. absurd (omega (arith, some, l, count_by t false e)))

-- ---- the rows
-- a place whose number is below that of all samples is one of a face
face-below : (n faces : ℕ) (p : Place) → index n p < faces * (n + 1) * (n + 1) → p.face < faces
face-below n faces p l =
    bool_cases (ltb p.face faces) (ltb-true p.face faces) (λ e.
    let row : faces * (n + 1) ≤ p.face * (n + 1) + p.b = omega (arith, mul-le-mul_right (n + 1) (ltb-false p.face faces e)) in
    absurd (omega (arith, l, mul-le-mul_right (n + 1) row)))

-- the lines behind the counts, by their numbers in the file
line-later : (t : Tessellation) (patches : List ℤ) (line j : ℕ) → 0 < line
    → line_at (result t) patches (line + j) ≡ sample_text_at patches t.steps (line - 1 + j)
line-later t patches zero j some = absurd (omega arith)
line-later t patches (suc i) j some =
    ap (line_at (result t) patches) (let e : suc i + j ≡ suc (i + j) = omega arith in e)
    ∙ ap (sample_text_at patches t.steps) (let e : i + j ≡ suc i - 1 + j = omega arith in e)

-- lines of the row of p are the lines from that of p on
module _ (t : Tessellation) (patches : List ℤ) (line : ℕ) (p : Place) (some : 0 < line) (l : line < handed_count (result t))
    (placed : Placed t.steps p) (here : index t.steps p ≡ line - 1) where
  row-text : (j : ℕ) → j < t.steps + 1 - p.a → sample_text patches t.steps p.face p.b (p.a + j) ≡ lines_from (result t) patches line j
  row-text j q =
      sym (text_at patches t.steps p.face p.b (p.a + j) placed.b-within (omega (arith, q)))
      ∙ ap (sample_text_at patches t.steps)
      (let z : (p.face * (t.steps + 1) + p.b) * (t.steps + 1) + (p.a + j) ≡ line - 1 + j = omega (arith, here) in z)
      ∙ sym (line-later t patches line j some)

  row_within : t.steps + 1 - p.a ≤ handed_count (result t) - line
  row_within =
      let n = t.steps in
      let faces = t.mesh.faces in
      let all = (handed t line some l).all in
      let below : p.face < faces = face-below n faces p (omega (arith, all, here, l, some)) in
      omega (arith, all, here, some, place-below n faces p.face p.b n (omega arith) placed.b-within below, placed.a-within)

  pub row-run : {before after : List ℕ} {r : Lines}
      → LinesPut (λ j. sample_text patches t.steps p.face p.b (p.a + j)) (t.steps + 1 - p.a) before r after
      → LinesPut (lines_from (result t) patches line) (handed_count (result t) - line) before r after
  row-run run = run-ext row_within row-text run
