-- Which numbers the table of refusals has (rule R2): 1 to 18.
use Rattle.std.specs.Prelude.{Bool, ◌&&◌, ℕ, ltb, leb}

abbrev pub listed : ℕ → Bool
listed k = ltb 0 k && leb k 18
