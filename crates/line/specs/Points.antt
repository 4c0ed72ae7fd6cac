-- What only the contracts of private functions cite: the points of a line.
--
--   Curved n d curve   N in its range, its divisor N^6, and the four values of a curve, each at most N^3 times the limit of a control value
--   curve_coordinate n curve a   the curve at a: the sum of its values by the weights of a, over N^6, rounded once
--   curve_in c k        the curve of coordinate k
--   Drawable curves n line   three such curves, and room in the list for their line
use Rattle.std.specs.Prelude.{◌≡◌, List, ℕ, zero, suc, ◌*◌, ◌^◌, ◌≤◌, ◌<◌, ℤ, pos, nat_abs, ◌*ℤ◌, length, get_or}
use Rattle.integer.specs.Nearest.{nearest}
use Rattle.finite.specs.Fold.{sum_below_ℤ}
use Rattle.sample.specs.Bernstein.{bernstein}
use Rattle.sample.specs.Refusal.{max_control, min_steps, max_steps}
use Rattle.sample.specs.declared.model.Curves.{Curves}
use Rattle.line.specs.Line.{line_length}

pub record Curved (n divisor : ℕ) (curve : List ℤ) : Type 0 where
  pub least : min_steps ≤ n
  pub most : n ≤ max_steps
  pub over : divisor ≡ n ^ 6
  pub size : (i : ℕ) → i < 4 → nat_abs (get_or curve i (pos 0)) ≤ n ^ 3 * max_control

abbrev pub curve_coordinate : ℕ → List ℤ → ℕ → ℤ
curve_coordinate n curve a = nearest (sum_below_ℤ (λ i. pos (bernstein n a i) *ℤ get_or curve i (pos 0)) 4) (n ^ 6)

abbrev pub curve_in : Curves → ℕ → List ℤ
curve_in c zero = c.x
curve_in c (suc zero) = c.y
curve_in c (suc (suc k)) = c.z

pub record Drawable (curves : Curves) (n : ℕ) (line : List ℤ) : Type 0 where
  pub curved : (k : ℕ) → k < 3 → Curved n curves.divisor (curve_in curves k)
  pub room : line_length n ≤ length line
