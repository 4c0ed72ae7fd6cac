-- Stretches of lines in a buffer: what is stored, and that the stretches, one behind the other, are the listing.
use mathlib.Core.Path.{◌≡◌, refl, sym, ap, ap₂, ◌∙◌}
use mathlib.Core.Bool.{false}
use mathlib.Core.List.{List, [], ◌++◌, append_assoc, append-nil}
use Prim.Native.Nat.{ℕ, ◌+◌, ◌-◌, ◌≤◌, ◌<◌}
use native.Mathlib.Omega.{arith}
use lib.Dec.{ltb}
use lib.IntN.{ℤ}
use lib.ListN.{length, take, drop, length-append, length-drop}
use lib.Seq.{take-append_seam, drop-append_seam, drop-drop}
use borrow.Author.Tests.{le-ltb}
use Rattle.answer.specs.Table.{Answer}
use Rattle.finite.proofs.FilledLaws.{part-lent, behind-lent}
use Rattle.meshfile.specs.declared.model.Tessellation.{Tessellation}
use Rattle.text.specs.Text.{line_places, Printed}
use Rattle.text.proofs.TextLaws.{printed-within}
use Rattle.listing.specs.Listing.{joined, listing, line_count, line_at, Stored, handed_count, lines_from, Stretched}
use Rattle.listing.specs.declared.model.Stretch.{Stretch}
use Rattle.listing.proofs.ListingLaws.{joined-add, lines-listing}
use Rattle.listing.proofs.FittingLaws.{fitting-within, fitting-some}

-- ---- what stands at the front of a buffer
pub stored-none : (l : List ℕ) → Stored [] l l 0
stored-none l = record { length-is = refl; fits = omega arith; list = refl }

pub stored-length : {t l m : List ℕ} {r : ℕ} → Stored t l m r → length m ≡ length l
stored-length {t} {l} s = ap length s.list ∙ length-append t (drop (length t) l) ∙ omega (arith, length-drop (length t) l, s.fits)

-- a line that had room is stored
pub printed-stored : {u l k : List ℕ} {r : ℕ} → line_places ≤ length l → length k ≡ length l → Printed u l k r → Stored u l k r
printed-stored {u} {l} {k} {r} room same q = record { length-is = long; fits = omega (arith, long, printed-within same q); list = q.list ∙ rw enough }
  where
    enough : ltb (length l) line_places ≡ false
    enough = le-ltb (length l) line_places room

    long : r ≡ length u
    long = q.places ∙ rw enough

-- more text, in the part behind what is stored
pub stored-behind : {t l m u k : List ℕ} {p r : ℕ} → Stored t l m p → Stored u (take (length m - p) (drop p m)) k r
    → Stored (t ++ u) l (take p m ++ (k ++ drop (length m - p) (drop p m))) (p + r)
stored-behind {t} {l} {m} {u} {k} {p} {r} s q = record {
  length-is = omega (arith, s.length-is, q.length-is, length-append t u);
  fits = omega (arith, length-append t u, s.length-is, q.fits, ap length (part-lent m p), length-drop p m, stored-length s);
  list = ap₂ ◌++◌ front (ap₂ ◌++◌ text (behind-lent m p)) ∙ whole;
}
  where
    front : take p m ≡ t
    front = rw (s.length-is, s.list) (take-append_seam t (drop (length t) l))

    rest-is : drop p m ≡ drop (length t) l
    rest-is = rw (s.length-is, s.list) (drop-append_seam t (drop (length t) l))

    text : k ≡ u ++ drop (length u) (drop (length t) l)
    text = q.list ∙ ap (λ (x : List ℕ). u ++ drop (length u) x) (part-lent m p ∙ rest-is)

    whole : t ++ ((u ++ drop (length u) (drop (length t) l)) ++ []) ≡ (t ++ u) ++ drop (length (t ++ u)) l
    whole =
        ap (λ (x : List ℕ). t ++ x) (append-nil (u ++ drop (length u) (drop (length t) l)))
        ∙ sym (append_assoc t u (drop (length u) (drop (length t) l)))
        ∙ ap (λ (x : List ℕ). (t ++ u) ++ x) (drop-drop (length u) (length t) l ∙ ap (λ (i : ℕ). drop i l) (sym (length-append t u)))

-- ---- a loop over the stretches: each leads on where a line and room are left, and none leads beyond the last line
module _ {answer : Answer Tessellation} {patches : List ℤ} {line : ℕ} {before after : List ℕ} {r : Stretch}
    (s : Stretched answer patches line before r after) where
  pub leads-on : line < handed_count answer → line_places ≤ length before → line < r.line
  leads-on more room =
      omega (arith, s.line-is, fitting-some (lines_from answer patches line) (handed_count answer - line) (length before) (omega arith) room)

  pub leads-within : line ≤ handed_count answer → r.line ≤ handed_count answer
  leads-within l = omega (arith, s.line-is, fitting-within (lines_from answer patches line) (handed_count answer - line) (length before))

-- ---- the stretches, one behind the other
pub data Stretches (answer : Answer Tessellation) (patches : List ℤ) : ℕ → List ℕ → Type 0 where
  begun : Stretches answer patches 0 []
  further : {line : ℕ} {t before after : List ℕ} {r : Stretch} → Stretches answer patches line t → Stretched answer patches line before r after
      → Stretches answer patches r.line (t ++ take r.length after)

taken : {t l m : List ℕ} {r : ℕ} → Stored t l m r → take r m ≡ t
taken {t} {l} s = rw (s.length-is, s.list) (take-append_seam t (drop (length t) l))

-- what was handed out is the lines so far,
pub stretches-lines : (answer : Answer Tessellation) (patches : List ℤ) (line : ℕ) (t : List ℕ) → Stretches answer patches line t
    → t ≡ joined (line_at answer patches) line
unfolding joined
stretches-lines answer patches line t begun = refl
stretches-lines answer patches line t (further {line = i} {t = u} h s) =
    ap₂ ◌++◌ (stretches-lines answer patches i u h) (taken s.stored)
    ∙ sym (joined-add (line_at answer patches) i _)
    ∙ ap (joined (line_at answer patches)) (sym s.line-is)

-- and at the end the listing
pub stretches-listing : (answer : Answer Tessellation) (patches : List ℤ) (t : List ℕ) → Stretches answer patches (line_count answer) t
    → t ≡ listing answer patches
stretches-listing answer patches t h = stretches-lines answer patches (line_count answer) t h ∙ lines-listing answer patches
