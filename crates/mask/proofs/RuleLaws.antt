-- A corner point that is made by the rule of its vertex is the one of the definitions, in value and in mark: its fraction is the same, with both parts
-- multiplied.
--
--   Scaled q q'      the fraction q' is q, both its parts multiplied by one number above 0
use mathlib.Core.Path.{◌≡◌, refl}
use mathlib.Core.Bool.{Bool, true, false, cond, ◌||◌}
use Prim.Native.Nat.{ℕ, ◌+◌, ◌-◌, ◌*◌, ◌≤◌, ◌<◌}
use native.Mathlib.Nat.{mul-pos}
use native.Mathlib.Omega.{arith}
use lib.Dec.{eqb}
use lib.IntN.{ℤ, pos, ◌*ℤ◌}
use borrow.Author.Tests.{lt-ltb}
use Rattle.integer.proofs.Difference.{int, nat, ◌⊕◌, ◌⊛◌, prove-eq}
use Rattle.limits.specs.Limits.{corner_tag}
use Rattle.mask.specs.Mask.{Fraction, smooth_corner_mask, boundary_corner_mask, vertex_mask, sharp_corner_mask, max_sharpness, corner_rule, corner_mask}

pub record Scaled (q q' : Fraction) : Type 0 where
  pub by : ℕ
  pub above : 0 < by
  pub divided : 0 < q.den
  pub num-is : q'.num ≡ q.num *ℤ pos by
  pub den-is : q'.den ≡ q.den * by

-- without sharpness it is the mask over 6, with both parts multiplied by 16
pub sharp-none : (p s : ℤ) → Scaled (boundary_corner_mask p s) (sharp_corner_mask 0 p s)
unfolding boundary_corner_mask sharp_corner_mask
sharp-none p s = record {
  by = 16;
  above = omega arith;
  divided = omega arith;
  num-is = prove-eq (nat 64 ⊛ int p ⊕ nat 16 ⊛ int s) ((nat 4 ⊛ int p ⊕ int s) ⊛ nat 16) (omega arith);
  den-is = refl;
}

-- with all of it, the vertex itself, with both parts multiplied by 96
pub sharp-most : (p s : ℤ) → Scaled (vertex_mask p) (sharp_corner_mask max_sharpness p s)
unfolding vertex_mask sharp_corner_mask
sharp-most p s = record {
  by = 96;
  above = omega arith;
  divided = omega arith;
  num-is = prove-eq (nat 96 ⊛ int p ⊕ nat 0 ⊛ int s) (int p ⊛ nat 96) (omega arith);
  den-is = refl;
}

-- the rule of an inner vertex has its number of faces, that of a boundary vertex its sharpness
pub rule-inside : (tag n : ℕ) → corner_rule true tag n ≡ max_sharpness + n
unfolding corner_rule
rule-inside tag n = refl

pub rule-boundary : (tag n : ℕ) → corner_rule false tag n ≤ max_sharpness
unfolding corner_rule
rule-boundary tag n = at_most (eqb tag corner_tag || eqb n 1)
  where
    at_most : (fixed : Bool) → cond fixed max_sharpness 0 ≤ max_sharpness
    at_most true = omega arith
    at_most false = omega arith

pub rule-most : (inside : Bool) (tag n : ℕ) → corner_rule inside tag n ≤ max_sharpness + n
rule-most true tag n = rw (rule-inside tag n) (omega arith)
rule-most false tag n = omega (arith, rule-boundary tag n)

pub smooth-rule : (n : ℕ) (p ring sharp : ℤ) → 0 < n → Scaled (smooth_corner_mask n p ring) (corner_mask (max_sharpness + n) p ring sharp)
unfolding smooth_corner_mask corner_mask
smooth-rule n p ring sharp l =
    let faces : max_sharpness + n - max_sharpness ≡ n = omega arith in
    rw (lt-ltb max_sharpness (max_sharpness + n) (omega arith), faces)
    (record {
      by = 1;
      above = omega arith;
      divided = mul-pos l (omega arith);
      num-is = prove-eq (nat (n * n) ⊛ int p ⊕ int ring) ((nat (n * n) ⊛ int p ⊕ int ring) ⊛ nat 1) (omega arith);
      den-is = omega arith;
    })

-- every rule gives the corner point of its case
pub rule-scaled : (inside : Bool) (tag n : ℕ) (p ring sharp : ℤ) → 0 < n
    → Scaled (cond inside (smooth_corner_mask n p ring) (cond (eqb tag corner_tag || eqb n 1) (vertex_mask p) (boundary_corner_mask p sharp)))
    (corner_mask (corner_rule inside tag n) p ring sharp)
unfolding corner_rule corner_mask
rule-scaled true tag n p ring sharp l = smooth-rule n p ring sharp l
rule-scaled false tag n p ring sharp l = on-boundary (eqb tag corner_tag || eqb n 1)
  where
    on-boundary : (fixed : Bool) → Scaled (cond fixed (vertex_mask p) (boundary_corner_mask p sharp)) (corner_mask (cond fixed max_sharpness 0) p ring sharp)
    on-boundary true = sharp-most p sharp
    on-boundary false = sharp-none p sharp
