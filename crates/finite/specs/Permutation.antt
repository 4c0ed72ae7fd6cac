-- A permutation of the numbers below n, given with its inverse: what a renumbering of vertices, faces or corners is.
use Rattle.std.specs.Prelude.{◌≡◌, ℕ, ◌<◌}

pub record Permutation (n : ℕ) : Type 0 where
  pub to : ℕ → ℕ
  pub from : ℕ → ℕ
  pub to_below : (k : ℕ) → k < n → to k < n
  pub from-below : (k : ℕ) → k < n → from k < n
  pub from-to : (k : ℕ) → k < n → from (to k) ≡ k
  pub to-from : (k : ℕ) → k < n → to (from k) ≡ k
