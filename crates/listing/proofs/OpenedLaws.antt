-- The text of a file that was opened: all of its lines are handed out, and the stretches, up to the last line, are its listing.
use mathlib.Core.Path.{◌≡◌, refl, sym, subst}
use mathlib.Core.List.{List}
use Prim.Native.Nat.{ℕ}
use lib.IntN.{ℤ}
use Rattle.std.specs.Prelude.{Result, Ok, Err}
use Rattle.answer.specs.declared.refusal.Refusal.{Refusal}
use Rattle.answer.specs.Table.{answered}
use Rattle.meshfile.specs.declared.model.Tessellation.{Tessellation}
use Rattle.meshfile.specs.Answer.{FileOpened}
use Rattle.meshfile.proofs.OpenLaws.{opened-within}
use Rattle.listing.specs.Listing.{listing, line_count, handed_count}
use Rattle.listing.proofs.StretchLaws.{Stretches, stretches-listing}
use Rattle.listing.proofs.PlaceLaws.{count-all}

opened-handed : {b : List ℕ} {d d' : List ℤ} (r : Result Tessellation Refusal) → FileOpened b d r d' → line_count (answered r) ≡ handed_count (answered r)
opened-handed (Ok t) s = let w = opened-within s refl in count-all t w.0 w.1
opened-handed (Err e) s = refl

pub opened-listing : {b : List ℕ} {d d' : List ℤ} (r : Result Tessellation Refusal) (patches : List ℤ) (t : List ℕ) → FileOpened b d r d'
    → Stretches (answered r) patches (handed_count (answered r)) t → t ≡ listing (answered r) patches
opened-listing r patches t s h =
    stretches-listing (answered r) patches t (subst (λ (n : ℕ). Stretches (answered r) patches n t) (sym (opened-handed r s)) h)
