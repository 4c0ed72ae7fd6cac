-- Where nothing is left, neither by the control values nor by the sample, the sample is on the exact surface (rule C12).
use mathlib.Core.Path.{◌≡◌, sym, ap, ◌∙◌}
use mathlib.Core.Bool.{true}
use mathlib.Core.List.{List}
use Prim.Native.Nat.{ℕ, ◌+◌, ◌*◌, ◌^◌, ◌<◌}
use native.Mathlib.Omega.{arith}
use lib.IntN.{ℤ, pos, ◌+ℤ◌, ◌*ℤ◌}
use lib.ListN.{get_or}
use borrow.Author.Tests.{eqb-true}
use Rattle.integer.proofs.Difference.{int, nat, ◌⊛◌, prove-eq}
use Rattle.integer.proofs.WholeLaws.{whole-product}
use Rattle.finite.proofs.FoldLaws.{fold-ext}
use Rattle.finite.proofs.AnyAll.{and-true, all_true}
use Rattle.finite.proofs.IntegerSum.{sum-scale}
use Rattle.sample.specs.Bernstein.{numerator, rounded, control_at, coordinate_at}
use Rattle.sample.specs.Marked.{patch_marked, division_whole, sample_exact}
use Rattle.sample.proofs.SampleLaws.{point_weight, numerator-ext, numerator-sixteen}

-- a common factor of the control values
numerator-scaled : (n a b : ℕ) (g : ℕ → ℤ) (l : ℤ) → numerator n a b (λ m. g m *ℤ l) ≡ numerator n a b g *ℤ l
numerator-scaled n a b g l =
    numerator-sixteen n a b (λ m. g m *ℤ l)
    ∙ fold-ext (pos 0) ◌+ℤ◌ 16 (λ m _.
    let w = point_weight n a b m in
    prove-eq (nat w ⊛ (int (g m) ⊛ int l)) (int l ⊛ (nat w ⊛ int (g m))) (omega arith))
    ∙ sum-scale l (λ m. pos (point_weight n a b m) *ℤ g m) 16
    ∙ ap (λ (z : ℤ). l *ℤ z) (sym (numerator-sixteen n a b g))
    ∙ prove-eq (int l ⊛ int (numerator n a b g)) (int (numerator n a b g) ⊛ int l) (omega arith)

-- Where each control value g m is the fraction num m / den m itself, and r is their sum over n^6 itself, r is the same sum of the fractions, over n^6.
-- Both sides are times n^6 and times L, a common multiple of the divisors: L = den m * q m.
pub exact-sample : (n a b : ℕ) (num : ℕ → ℤ) (den q : ℕ → ℕ) (L : ℕ) (g : ℕ → ℤ) (r : ℤ)
    → ((m : ℕ) → m < 16 → L ≡ den m * q m)
    → ((m : ℕ) → m < 16 → num m ≡ g m *ℤ pos (den m))
    → numerator n a b g ≡ r *ℤ pos (n ^ 6)
    → r *ℤ pos (n ^ 6 * L) ≡ numerator n a b (λ m. num m *ℤ pos (q m))
exact-sample n a b num den q L g r common points own =
    prove-eq (int r ⊛ (nat (n ^ 6) ⊛ nat L)) ((int r ⊛ nat (n ^ 6)) ⊛ nat L) (omega arith)
    ∙ ap (λ (z : ℤ). z *ℤ pos L) (sym own)
    ∙ sym (numerator-scaled n a b g (pos L))
    ∙ numerator-ext n a b (λ m l.
    ap (λ (k : ℕ). g m *ℤ pos k) (common m l)
    ∙ prove-eq (int (g m) ⊛ (nat (den m) ⊛ nat (q m))) ((int (g m) ⊛ nat (den m)) ⊛ nat (q m)) (omega arith)
    ∙ ap (λ (z : ℤ). z *ℤ pos (q m)) (sym (points m l)))

-- ---- what a mark says
module _ (patches : List ℤ) (marks : List ℕ) (f n a b : ℕ) (set : sample_exact patches marks f n a b ≡ true) where
  both : (patch_marked marks f ≡ true) × (division_whole patches f n a b ≡ true)
  both = and-true (patch_marked marks f) (division_whole patches f n a b) set

  -- each of the sixteen bytes is 1
  pub exact-byte : (m : ℕ) → m < 16 → get_or marks (16 * f + m) 0 ≡ 1
  unfolding patch_marked
  exact-byte m l = eqb-true (get_or marks (16 * f + m) 0) 1 (all_true _ 16 both.0 m l)

  -- coordinate k times n^6 is its sum
  pub exact-division : (k : ℕ) → k < 3 → numerator n a b (control_at patches f k) ≡ coordinate_at patches f n a b k *ℤ pos (n ^ 6)
  unfolding division_whole rounded
  exact-division k l = whole-product (numerator n a b (control_at patches f k)) (n ^ 6) (all_true _ 3 both.1 k l)
