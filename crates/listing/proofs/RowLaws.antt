-- Lines in a buffer: a run of them, a loop that stores runs one behind the other, and the same over the lines of a file.
use mathlib.Core.Path.{◌≡◌, sym, ap, ◌∙◌, subst}
use mathlib.Core.List.{List, ◌++◌}
use Prim.Native.Nat.{ℕ, ◌+◌, ◌-◌, ◌≤◌, ◌<◌, max}
use native.Mathlib.Nat.{le_trans, le-max_right}
use native.Mathlib.Omega.{arith}
use lib.Dec.{ltb}
use lib.IntN.{ℤ}
use lib.ListN.{length, take, drop, length-append, length-take, length-drop}
use borrow.Author.Tests.{ltb-true, ltb-false}
use Rattle.answer.specs.Table.{Answer}
use Rattle.finite.proofs.FoldLaws.{bool_cases}
use Rattle.meshfile.specs.declared.model.Tessellation.{Tessellation}
use Rattle.text.specs.Text.{line_places, Printed}
use Rattle.listing.specs.Listing.{joined, line_at, Stored, handed_count, lines_from, lines_fitting, Stretched}
use Rattle.listing.specs.Place.{Room, LinesPut}
use Rattle.listing.specs.declared.model.Lines.{Lines}
use Rattle.listing.proofs.ListingLaws.{joined-ext, joined-add}
use Rattle.listing.proofs.FittingLaws.{fitting-is}
use Rattle.listing.proofs.StretchLaws.{stored-none, stored-length, stored-behind, printed-stored}

-- ---- a run of lines
-- of other texts that are the same, where more may follow
pub run-ext : {t u : ℕ → List ℕ} {most end : ℕ} {before after : List ℕ} {r : Lines} → most ≤ end → ((j : ℕ) → j < most → t j ≡ u j)
    → LinesPut t most before r after → LinesPut u end before r after
run-ext {t} {u} {most} {end} {before} {after} {r} l h s = record {
  some = s.some;
  within = omega (arith, l, s.within);
  room = λ k q. subst (λ (x : List ℕ). line_places ≤ length before - length x) (same k (omega (arith, q))) (s.room k q);
  stored = subst (λ (x : List ℕ). Stored x before after r.length) (same r.count (omega arith)) s.stored;
}
  where
    same : (k : ℕ) → k ≤ r.count → joined t k ≡ joined u k
    same k q = joined-ext t u k (λ j i. h j (omega (arith, i, q, s.within)))

-- of one line
pub run-one : (t : ℕ → List ℕ) (most : ℕ) {before after : List ℕ} {r : ℕ} → 0 < most → line_places ≤ length before → length after ≡ length before
    → Printed (t 0) before after r → LinesPut t most before (record { count = 1; length = r }) after
unfolding joined
run-one t most {before} l room same q = record {
  some = omega arith;
  within = l;
  room = λ k o. subst (λ (i : ℕ). line_places ≤ length before - length (joined t i)) (let z : 0 ≡ k = omega (arith, o) in z) (omega arith);
  stored = printed-stored room same q;
}

-- ---- a loop that stores lines
--   Running text from end before after a at   the lines text 0, text 1, .. with the numbers from `from` up to a, which is no further than `end`, are
--                          stored, each where the buffer had room for a line
pub record Running (text : ℕ → List ℕ) (from end : ℕ) (before after : List ℕ) (a at : ℕ) : Type 0 where
  pub on : from ≤ a
  pub within : a ≤ end
  pub room : (k : ℕ) → k < a - from → Room text (length before) k
  pub stored : Stored (joined text (a - from)) before after at

pub running-start : (text : ℕ → List ℕ) (from end : ℕ) (out : List ℕ) → from ≤ end → Running text from end out out from 0
unfolding joined
running-start text from end out l = record {
  on = omega arith;
  within = l;
  room = λ k q. absurd (omega (arith, q));
  stored = subst (λ (k : ℕ). Stored (joined text k) out out 0) (let z : 0 ≡ from - from = omega arith in z) (stored-none out);
}

module _ {text : ℕ → List ℕ} {from end : ℕ} {before after : List ℕ} {a at : ℕ} (g : Running text from end before after a at) where
  -- behind what is stored the buffer has as much room as behind the lines
  room-left : length after - at ≡ length before - length (joined text (a - from))
  room-left = omega (arith, g.stored.length-is, stored-length g.stored)

  -- a run more, in the part behind what is stored
  module _ (k : List ℕ) (r : Lines) {most : ℕ} (run : LinesPut (λ j. text (a - from + j)) most (take (length after - at) (drop at after)) r k) where
    room-more : (i : ℕ) → i < r.count → Room text (length before) (a - from + i)
    room-more i l =
        let part : length (take (length after - at) (drop at after)) ≡ length after - at = rw (length-take, length-drop) (omega arith) in
        rw (joined-add, length-append) (omega (arith, run.room i l, part, room-left))

    pub running_more : a + r.count ≤ end
        → Running text from end before (take at after ++ (k ++ drop (length after - at) (drop at after))) (a + r.count) (at + r.length)
    running_more l = record {
      on = omega (arith, g.on);
      within = l;
      room = λ i q.
          bool_cases (ltb i (a - from))
          (λ e. g.room i (ltb-true i (a - from) e))
          (λ e.
          let far : a - from ≤ i = ltb-false i (a - from) e in
          subst (λ (j : ℕ). Room text (length before) j) (let z : a - from + (i - (a - from)) ≡ i = omega (arith, far) in z)
          (room-more (i - (a - from)) (omega (arith, far, q, g.on))));
      stored =
          subst (λ (x : List ℕ). Stored x before (take at after ++ (k ++ drop (length after - at) (drop at after))) (at + r.length))
          (sym (joined-add text (a - from) r.count) ∙ ap (joined text) (let z : a - from + r.count ≡ a + r.count - from = omega (arith, g.on) in z))
          (stored-behind g.stored run.stored);
    }

  -- where not even one line was stored, the buffer has no room for one
  pub running-stuck : from ≡ a → line_places ≤ length before → length after - at < line_places → ⊥
  unfolding joined
  running-stuck e room tight =
      let none : length (joined text (a - from)) ≡ 0 = ap (λ (k : ℕ). length (joined text k)) (let z : a - from ≡ 0 = omega (arith, e) in z) in
      omega (arith, none, tight, room, room-left)

  pub running-end : (from ≡ a → ⊥) → LinesPut text (end - from) before (record { count = a - from; length = at }) after
  running-end moved = record {
    some = omega (arith, g.on, moved);
    within = omega (arith, g.within, g.on);
    room = g.room;
    stored = g.stored;
  }

-- ---- a loop that stores the lines of a file from one on
module _ (answer : Answer Tessellation) (patches : List ℤ) (line : ℕ) {lines : ℕ} {before after : List ℕ} {to at : ℕ} (is : lines ≡ handed_count answer)
    (g : Running (lines_from answer patches line) line (max line lines) before after to at) where
  -- a run of the lines from `to` on
  pub running-lines : (k : List ℕ) (r : Lines) → to < lines
      → LinesPut (lines_from answer patches to) (handed_count answer - to) (take (length after - at) (drop at after)) r k
      → Running (lines_from answer patches line) line (max line lines) before (take at after ++ (k ++ drop (length after - at) (drop at after)))
      (to + r.count) (at + r.length)
  running-lines k r l run =
      running_more g k r
      (run-ext {end = handed_count answer - to} (omega arith)
      (λ j _. ap (line_at answer patches) (let z : to + j ≡ line + (to - line + j) = omega (arith, g.on) in z)) run)
      (le_trans (let z : to + r.count ≤ lines = omega (arith, run.within, is, l) in z) (le-max_right line lines))

  -- where no line is left, or the buffer has no room for one, the stretch is whole
  pub running-stretched : (to < lines → length after - at < line_places) → Stretched answer patches line before (record { line = to; length = at }) after
  running-stretched full = record {
    line-is = omega (arith, g.on, count);
    stored = subst (λ (n : ℕ). Stored (joined (lines_from answer patches line) n) before after at) count g.stored;
  }
    where
      count : to - line ≡ lines_fitting answer patches line (length before)
      count =
          fitting-is (lines_from answer patches line) (handed_count answer - line) (length before) (to - line) (omega (arith, g.within, is))
          g.room (λ l. omega (arith, full (omega (arith, l, is)), room-left g))
