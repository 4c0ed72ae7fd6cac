-- What the masks keep: every relation between two coordinates of the vertices that 0, sums and non-negative weights keep. Each mask's
-- weights sum to its divisor, so its two numerators are related with the divisor.
--
--   Linear R          R k z z' of two sums z and z', whose weights sum to k, holds where it holds term by term
--   Related R q q'    two fractions with one divisor above 0, and their numerators related with it
--   bounds B          the instance for sizes: a sum of terms within B, with weights that sum to k, is within B k
use mathlib.Core.Path.{◌≡◌, refl, subst}
use Prim.Native.Nat.{ℕ, ◌+◌, ◌-◌, ◌*◌, ◌≤◌, ◌<◌}
use native.Mathlib.Nat.{mul-pos, mul-le-mul_left}
use native.Mathlib.Omega.{arith}
use lib.IntN.{ℤ, pos, nat_abs, ◌+ℤ◌, ◌*ℤ◌}
use Rattle.integer.proofs.Laws.{abs-+, abs-*}
use Rattle.mask.specs.Mask.{Fraction, inner_mask, edge_mask, boundary_edge_mask, smooth_corner_mask, boundary_corner_mask, vertex_mask}
use Rattle.mask.specs.Mask.{sharp_corner_mask, max_sharpness}

pub record Linear (R : ℕ → ℤ → ℤ → Type 0) : Type 0 where
  pub nil : R 0 (pos 0) (pos 0)
  pub plus : {k l : ℕ} {y y' z z' : ℤ} → R k y y' → R l z z' → R (k + l) (y +ℤ z) (y' +ℤ z')
  pub scale : (j : ℕ) {k : ℕ} {z z' : ℤ} → R k z z' → R (j * k) (pos j *ℤ z) (pos j *ℤ z')

pub record Related (R : ℕ → ℤ → ℤ → Type 0) (q q' : Fraction) : Type 0 where
  pub positive : 0 < q.den
  pub same : q'.den ≡ q.den
  pub related : R q.den q.num q'.num

module _ {R : ℕ → ℤ → ℤ → Type 0} (L : Linear R) where
  pub cast : {k l : ℕ} {z z' : ℤ} → k ≡ l → R k z z' → R l z z'
  cast {k} {l} {z} {z'} e h = subst (λ (j : ℕ). R j z z') e h

  -- twice the two neighbours of a corner, and the vertex across
  pub ring : {e f g e' f' g' : ℤ} → R 1 e e' → R 1 f f' → R 1 g g' → R 5 (pos 2 *ℤ e +ℤ pos 2 *ℤ f +ℤ g) (pos 2 *ℤ e' +ℤ pos 2 *ℤ f' +ℤ g')
  ring he hf hg = L.plus (L.plus (L.scale 2 he) (L.scale 2 hf)) hg

  pub inner-mask : (w : ℕ) {p e f g p' e' f' g' : ℤ} → R 1 p p' → R 1 e e' → R 1 f f' → R 1 g g'
      → Related R (inner_mask w p e f g) (inner_mask w p' e' f' g')
  unfolding inner_mask
  inner-mask w hp he hf hg = record {
    positive = omega arith;
    same = refl;
    related = cast (let s : w * 1 + 2 * 1 + 2 * 1 + 1 ≡ w + 5 = omega arith in s)
        (L.plus (L.plus (L.plus (L.scale w hp) (L.scale 2 he)) (L.scale 2 hf)) hg);
  }

  pub edge-mask : (w : ℕ) {p q a b c d p' q' a' b' c' d' : ℤ} → R 1 p p' → R 1 q q' → R 1 a a' → R 1 b b' → R 1 c c' → R 1 d d'
      → Related R (edge_mask w p q a b c d) (edge_mask w p' q' a' b' c' d')
  unfolding edge_mask
  edge-mask w hp hq ha hb hc hd = record {
    positive = omega arith;
    same = refl;
    related = cast (let s : 2 * w * 1 + 4 * 1 + 2 * 1 + 2 * 1 + 1 + 1 ≡ 2 * w + 10 = omega arith in s)
        (L.plus (L.plus (L.plus (L.plus (L.plus (L.scale (2 * w) hp) (L.scale 4 hq)) (L.scale 2 ha)) (L.scale 2 hb)) hc) hd);
  }

  pub boundary-edge-mask : {p q p' q' : ℤ} → R 1 p p' → R 1 q q' → Related R (boundary_edge_mask p q) (boundary_edge_mask p' q')
  unfolding boundary_edge_mask
  boundary-edge-mask hp hq = record { positive = omega arith; same = refl; related = L.plus (L.scale 2 hp) hq }

  pub smooth-corner-mask : (n : ℕ) {p s p' s' : ℤ} → 0 < n → R 1 p p' → R (5 * n) s s' → Related R (smooth_corner_mask n p s) (smooth_corner_mask n p' s')
  unfolding smooth_corner_mask
  smooth-corner-mask n l hp hs = record {
    positive = mul-pos l (omega arith);
    same = refl;
    related = cast (let s : n * n * 1 + 5 * n ≡ n * (n + 5) = omega arith in s) (L.plus (L.scale (n * n) hp) hs);
  }

  pub boundary-corner-mask : {p s p' s' : ℤ} → R 1 p p' → R 2 s s' → Related R (boundary_corner_mask p s) (boundary_corner_mask p' s')
  unfolding boundary_corner_mask
  boundary-corner-mask hp hs = record { positive = omega arith; same = refl; related = L.plus (L.scale 4 hp) hs }

  pub sharp-corner-mask : (g : ℕ) {p s p' s' : ℤ} → g ≤ max_sharpness → R 1 p p' → R 2 s s' → Related R (sharp_corner_mask g p s) (sharp_corner_mask g p' s')
  unfolding sharp_corner_mask
  sharp-corner-mask g l hp hs = record {
    positive = omega arith;
    same = refl;
    related = cast (let t : (64 + 2 * g) * 1 + (max_sharpness - g) * 2 ≡ 96 = omega arith in t)
        (L.plus (L.scale (64 + 2 * g) hp) (L.scale (max_sharpness - g) hs));
  }

  pub vertex-mask : {p p' : ℤ} → R 1 p p' → Related R (vertex_mask p) (vertex_mask p')
  unfolding vertex_mask
  vertex-mask hp = record { positive = omega arith; same = refl; related = hp }

pub bounds : (B : ℕ) → Linear (λ k z _. nat_abs z ≤ B * k)
bounds B = record {
  nil = omega arith;
  plus = λ {y = y} {z = z} f g. omega (arith, abs-+ y z);
  scale = λ j {z = z} h. omega (arith, abs-* (pos j) z, mul-le-mul_left j h);
}
