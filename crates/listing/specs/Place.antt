-- The samples in the order of their lines, for the contracts of private functions.
--
--   index n p         how many samples come before place p, where each side has n + 1
--   Placed n p        a and b are places along a side, and n is within the upper limit of N
--   Room text places k   behind the texts text 0, .., text (k - 1) so many places have room for a line
--   LinesPut text most before r after   what was put into a buffer: the lines text 0, text 1, .. one behind the other, at least one, at most so many,
--                     each where the buffer had room for a line
use Rattle.std.specs.Prelude.{ℕ, ◌+◌, ◌-◌, ◌*◌, ◌≤◌, ◌<◌, List, length}
use Rattle.sample.specs.Refusal.{max_steps}
use Rattle.text.specs.Text.{line_places}
use Rattle.listing.specs.Listing.{joined, Stored}
use Rattle.sample.specs.declared.model.Place.{Place}
use Rattle.listing.specs.declared.model.Lines.{Lines}

abbrev pub index : ℕ → Place → ℕ
index n p = (p.face * (n + 1) + p.b) * (n + 1) + p.a

pub record Placed (n : ℕ) (p : Place) : Type 0 where
  pub a-within : p.a ≤ n
  pub b-within : p.b ≤ n
  pub steps-few : n ≤ max_steps

abbrev pub Room : (ℕ → List ℕ) → ℕ → ℕ → Type 0
Room text places k = line_places ≤ places - length (joined text k)

pub record LinesPut (text : ℕ → List ℕ) (most : ℕ) (before : List ℕ) (r : Lines) (after : List ℕ) : Type 0 where
  pub some : 0 < r.count
  pub within : r.count ≤ most
  pub room : (k : ℕ) → k < r.count → Room text (length before) k
  pub stored : Stored (joined text r.count) before after r.length
