-- The fractions of the masks are small for all numbers of 32 bits and all weights of 16.
--
--   Narrow a       the four values of a face are of 32 bits
use Prim.Native.Nat.{ℕ, ◌*◌, ◌+◌, ◌-◌, ◌≤◌, ◌<◌, ◌^◌}
use native.Mathlib.Nat.{mul-le-mul}
use native.Mathlib.Omega.{arith}
use lib.Dec.{ltb}
use lib.IntN.{ℤ, pos, negsuc, nat_abs, ◌*ℤ◌}
use lib.Signed.{mag}
use borrow.Author.Tests.{ltb-false}
use Rattle.integer.proofs.Laws.{abs-+, abs-*}
use Rattle.finite.proofs.FoldLaws.{bool_cases}
use Rattle.mask.specs.Mask.{Fraction, inner_mask, edge_mask, boundary_edge_mask, smooth_corner_mask, sharp_corner_mask, max_sharpness, corner_mask}
use Rattle.mask.specs.declared.model.FaceValues.{FaceValues}
use Rattle.mask.proofs.LinearLaws.{Related, bounds, inner-mask, edge-mask, boundary-edge-mask}

-- ---- numbers of 32 bits
pub abs-narrow : (z : ℤ) → mag z < 2 ^ 31 → nat_abs z ≤ 2 ^ 31 * 1
abs-narrow (pos n) l = omega arith
abs-narrow (negsuc n) l = omega arith

pub record Narrow (a : FaceValues) : Type 0 where
  pub here : nat_abs a.here ≤ 2 ^ 31 * 1
  pub next : nat_abs a.next ≤ 2 ^ 31 * 1
  pub across : nat_abs a.across ≤ 2 ^ 31 * 1
  pub prev : nat_abs a.prev ≤ 2 ^ 31 * 1

pub narrow : (a : FaceValues) → mag a.here < 2 ^ 31 → mag a.next < 2 ^ 31 → mag a.across < 2 ^ 31 → mag a.prev < 2 ^ 31 → Narrow a
narrow a h n c p =
    record { here = abs-narrow a.here h; next = abs-narrow a.next n; across = abs-narrow a.across c; prev = abs-narrow a.prev p }

-- a fraction whose divisor is above 0, and which is within 2^31
abbrev Sized : Fraction → Type 0
Sized q = Related (λ k z _. nat_abs z ≤ 2 ^ 31 * k) q q

inner-sized : (w : ℕ) (a : FaceValues) → Narrow a → Sized (inner_mask w a.here a.next a.prev a.across)
inner-sized w a s = inner-mask (bounds (2 ^ 31)) w s.here s.next s.prev s.across

edge-sized : (w : ℕ) (a b : FaceValues) → Narrow a → Narrow b → Sized (edge_mask w a.here a.next a.prev b.across a.across b.prev)
edge-sized w a b s t = edge-mask (bounds (2 ^ 31)) w s.here s.next s.prev t.across s.across t.prev

sharp-sized : (p q : ℤ) → nat_abs p ≤ 2 ^ 31 * 1 → nat_abs q ≤ 2 ^ 31 * 1 → Sized (boundary_edge_mask p q)
sharp-sized p q l m = boundary-edge-mask (bounds (2 ^ 31)) l m

pub inner-small : (w : ℕ) (a : FaceValues) → w < 65536 → Narrow a → nat_abs (inner_mask w a.here a.next a.prev a.across).num ≤ 2 ^ 54
unfolding inner_mask
inner-small w a l s = omega (arith, (inner-sized w a s).related)

pub edge-small : (w : ℕ) (a b : FaceValues) → w < 65536 → Narrow a → Narrow b
    → nat_abs (edge_mask w a.here a.next a.prev b.across a.across b.prev).num ≤ 2 ^ 54
unfolding edge_mask
edge-small w a b l s t = omega (arith, (edge-sized w a b s t).related)

pub sharp-small : (p q : ℤ) → nat_abs p ≤ 2 ^ 31 * 1 → nat_abs q ≤ 2 ^ 31 * 1 → nat_abs (boundary_edge_mask p q).num ≤ 2 ^ 54
unfolding boundary_edge_mask
sharp-small p q l m = omega (arith, (sharp-sized p q l m).related)

-- ---- the corner point, for every rule of 8 bits
smooth-small : (n : ℕ) (p s : ℤ) → n < 256 → nat_abs p ≤ 2 ^ 31 * 1 → nat_abs s ≤ 2 ^ 31 * 1 → nat_abs (smooth_corner_mask n p s).num ≤ 2 ^ 54
unfolding smooth_corner_mask
smooth-small n p s l hp hs =
    let square = mul-le-mul {n₁ = n} {m₁ = n} {n₂ = 256} {m₂ = 256} (omega arith) (omega arith) in
    let product = mul-le-mul {n₁ = n * n} {m₁ = nat_abs p} {n₂ = 65536} {m₂ = 2 ^ 31} (omega arith) (omega arith) in
    omega (arith, abs-+ (pos (n * n) *ℤ p) s, abs-* (pos (n * n)) p)

boundary-small : (g : ℕ) (p s : ℤ) → g ≤ max_sharpness → nat_abs p ≤ 2 ^ 31 * 1 → nat_abs s ≤ 2 ^ 31 * 1 → nat_abs (sharp_corner_mask g p s).num ≤ 2 ^ 54
unfolding sharp_corner_mask
boundary-small g p s l hp hs =
    let first = mul-le-mul {n₁ = 64 + 2 * g} {m₁ = nat_abs p} {n₂ = 96} {m₂ = 2 ^ 31} (omega arith) (omega arith) in
    let second = mul-le-mul {n₁ = max_sharpness - g} {m₁ = nat_abs s} {n₂ = 16} {m₂ = 2 ^ 31} (omega arith) (omega arith) in
    omega (arith, abs-+ (pos (64 + 2 * g) *ℤ p) (pos (max_sharpness - g) *ℤ s), abs-* (pos (64 + 2 * g)) p, abs-* (pos (max_sharpness - g)) s)

pub corner-small : (r : ℕ) (p ring sharp : ℤ) → r < 256 → nat_abs p ≤ 2 ^ 31 * 1 → nat_abs ring ≤ 2 ^ 31 * 1 → nat_abs sharp ≤ 2 ^ 31 * 1
    → nat_abs (corner_mask r p ring sharp).num ≤ 2 ^ 54
unfolding corner_mask
corner-small r p ring sharp l hp hr hs =
    bool_cases (ltb max_sharpness r)
    (λ e. rw e (smooth-small (r - max_sharpness) p ring (omega arith) hp hr))
    (λ e. rw e (boundary-small r p sharp (ltb-false max_sharpness r e) hp hs))
