-- How many lines fit: a number that is so many is the only one, it is no more than are left, and at least one where a line and room are left.
use mathlib.Core.Path.{◌≡◌, sym, ap, ◌∙◌}
use mathlib.Core.Logic.{⊎_elim}
use mathlib.Core.Option.{Option, get_or}
use mathlib.Core.List.{List}
use Prim.Native.Nat.{ℕ, ◌-◌, ◌≤◌, ◌<◌}
use native.Mathlib.Nat.{eq-or-lt_of_le}
use native.Mathlib.Omega.{arith}
use lib.Dec.{ltb}
use lib.ListN.{length}
use borrow.Author.Tests.{le-ltb, lt-ltb, ltb-true}
use Rattle.finite.proofs.Least.{least-hit, least-miss, least-cases}
use Rattle.text.specs.Text.{line_places}
use Rattle.listing.specs.Listing.{joined, fitting}
use Rattle.listing.specs.Place.{Room}

module _ (text : ℕ → List ℕ) (left places : ℕ) where
  -- so many had room, and one more is not left or has none
  pub fitting-is : (count : ℕ) → count ≤ left → ((k : ℕ) → k < count → Room text places k) → (count < left → places - length (joined text count) < line_places)
      → count ≡ fitting text left places
  unfolding fitting
  fitting-is count within room full =
      ⊎_elim
      (λ e. e ∙ sym (ap (λ (o : Option ℕ). get_or o left) (least-miss _ left (λ k l. le-ltb _ line_places (room k (omega (arith, e, l)))))))
      (λ l.
      sym (ap (λ (o : Option ℕ). get_or o left)
      (least-hit _ left count l (lt-ltb _ line_places (full l)) (λ k q. le-ltb _ line_places (room k q)))))
      (eq-or-lt_of_le within)

  pub fitting-within : fitting text left places ≤ left
  unfolding fitting
  fitting-within =
      ⊎_elim
      (λ w. rw w.1 (omega (arith, w.2)))
      (λ w. rw w.0 (omega arith))
      (least-cases (λ j. ltb (places - length (joined text j)) line_places) left)

  pub fitting-some : 0 < left → line_places ≤ places → 0 < fitting text left places
  unfolding fitting joined
  fitting-some some room =
      ⊎_elim
      (λ w.
      let full : places - length (joined text w.0) < line_places = ltb-true _ line_places w.3 in
      let later : 0 ≡ w.0 → ⊥ = λ e. omega (arith, room, full, ap (λ (k : ℕ). length (joined text k)) (sym e)) in
      rw w.1 (omega (arith, later)))
      (λ w. rw w.0 some)
      (least-cases (λ j. ltb (places - length (joined text j)) line_places) left)
