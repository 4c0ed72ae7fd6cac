-- The samples, of one coordinate (rules S2 to S4).
--
--   bernstein n a i  the weight Wi of place a, for N = n: the cubic Bernstein polynomial times N^3 (rule S2)
--   numerator n a b g   the sum of Wi(a) Wj(b) b(i,j) over all i and j, for the control values g m of points m = i + 4j (rule S3)
--   rounded n a b g  that sum over N^6, rounded once (rules S3 and I2)
--   control_at patches f k m   coordinate k of control point m of face f: its patch fills the 48 places from 48f on, three for each point
--                    (rules S4 and B12)
--   coordinate_at     coordinate k of the sample of face f at (a, b)
use Rattle.std.specs.Prelude.{List, ℕ, zero, suc, ◌+◌, ◌-◌, ◌*◌, ◌^◌, ℤ, pos, ◌*ℤ◌, get_or}
use Rattle.integer.specs.Nearest.{nearest}
use Rattle.finite.specs.Fold.{sum_below_ℤ}

unfoldable pub bernstein : ℕ → ℕ → ℕ → ℕ
bernstein n a zero = (n - a) * (n - a) * (n - a)
bernstein n a (suc zero) = 3 * a * (n - a) * (n - a)
bernstein n a (suc (suc zero)) = 3 * a * a * (n - a)
bernstein n a (suc (suc (suc i))) = a * a * a

unfoldable pub numerator : ℕ → ℕ → ℕ → (ℕ → ℤ) → ℤ
numerator n a b g = sum_below_ℤ (λ j. sum_below_ℤ (λ i. pos (bernstein n a i * bernstein n b j) *ℤ g (i + 4 * j)) 4) 4

unfoldable pub rounded : ℕ → ℕ → ℕ → (ℕ → ℤ) → ℤ
rounded n a b g = nearest (numerator n a b g) (n ^ 6)

abbrev pub control_at : List ℤ → ℕ → ℕ → ℕ → ℤ
control_at patches f k m = get_or patches (48 * f + 3 * m + k) (pos 0)

abbrev pub coordinate_at : List ℤ → ℕ → ℕ → ℕ → ℕ → ℕ → ℤ
coordinate_at patches f n a b k = rounded n a b (control_at patches f k)
