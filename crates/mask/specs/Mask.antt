-- The masks, as functions of numbers: of one coordinate of each vertex that a mask names (rule B2); and the weight w that two of them are given.
-- Each mask gives a fraction, numerator and divisor; its weights are non-negative and sum to its divisor.
--
--   corner_weight inside m   w at a corner of a vertex with m faces: m inside; on the boundary 2m, but 4 where m is 1 (rule B4; Loop and Schaefer,
--                           figure 21; Kovacs and others, section 3)
--   inner_mask w p e e' f    (w p + 2e + 2e' + f) / (w + 5): e and e' are the neighbours of p in the face, f the vertex across (rule B6; Loop and
--                           Schaefer, figure 4a)
--   edge_mask w p q a a' c c'   (2w p + 4q + 2a + 2a' + c + c') / (2w + 10): in the two faces of the edge p q, a and a' are the neighbours of p
--                           other than q, c and c' the vertices across from p (rule B7; Loop and Schaefer, figure 4b)
--   boundary_edge_mask p q    (2p + q) / 3, near p on a boundary half-edge with the ends p and q (rule B8; Loop and Schaefer, figure 20; Kovacs and
--                           others, section 3)
--   smooth_corner_mask n p s  (n n p + s) / (n (n + 5)): s is four times the sum of the edge neighbours of p, and the sum of the vertices across
--                           (rule B9; Loop and Schaefer, figure 4c)
--   boundary_corner_mask p s  (4p + s) / 6: s is the sum of the two boundary neighbours of p (rule B10; Loop and Schaefer, figure 20; Kovacs and
--                           others, section 3)
--   vertex_mask p            p itself: for a boundary vertex with tag 1, or with k = 1 (rule B11; Kovacs and others, section 4; Loop and Schaefer,
--                           figure 20)
--
-- How the code makes a corner point; proofs/RuleLaws.antt shows that its value and its mark are those of the masks above.
--
--   sharp_corner_mask g p s   ((64 + 2g) p + (16 - g) s) / 96, for g from 0 to 16: the mask over 6 for 0, and p itself for 16
--   corner_rule inside tag m   the rule of a vertex with m faces, one number: 16 + m inside; on the boundary 16 where its corner point is p itself, else 0
--   corner_mask r p ring sharp   the corner point by the rule r, from both sums
use Rattle.std.specs.Prelude.{Bool, cond, ◌||◌, ℕ, ◌+◌, ◌-◌, ◌*◌, eqb, ltb, ℤ, pos, ◌+ℤ◌, ◌*ℤ◌}
use Rattle.limits.specs.Limits.{corner_tag}

pub record Fraction : Type 0 where
  pub num : ℤ
  pub den : ℕ

unfoldable pub corner_weight : Bool → ℕ → ℕ
corner_weight inside m = cond inside m (cond (eqb m 1) 4 (2 * m))

unfoldable pub inner_mask : ℕ → ℤ → ℤ → ℤ → ℤ → Fraction
inner_mask w p e e' f = record { num = pos w *ℤ p +ℤ pos 2 *ℤ e +ℤ pos 2 *ℤ e' +ℤ f; den = w + 5 }

unfoldable pub edge_mask : ℕ → ℤ → ℤ → ℤ → ℤ → ℤ → ℤ → Fraction
edge_mask w p q a a' c c' =
    record { num = pos (2 * w) *ℤ p +ℤ pos 4 *ℤ q +ℤ pos 2 *ℤ a +ℤ pos 2 *ℤ a' +ℤ c +ℤ c'; den = 2 * w + 10 }

unfoldable pub boundary_edge_mask : ℤ → ℤ → Fraction
boundary_edge_mask p q = record { num = pos 2 *ℤ p +ℤ q; den = 3 }

unfoldable pub smooth_corner_mask : ℕ → ℤ → ℤ → Fraction
smooth_corner_mask n p s = record { num = pos (n * n) *ℤ p +ℤ s; den = n * (n + 5) }

unfoldable pub boundary_corner_mask : ℤ → ℤ → Fraction
boundary_corner_mask p s = record { num = pos 4 *ℤ p +ℤ s; den = 6 }

unfoldable pub vertex_mask : ℤ → Fraction
vertex_mask p = record { num = p; den = 1 }

abbrev pub max_sharpness : ℕ
max_sharpness = 16

unfoldable pub sharp_corner_mask : ℕ → ℤ → ℤ → Fraction
sharp_corner_mask g p s = record { num = pos (64 + 2 * g) *ℤ p +ℤ pos (max_sharpness - g) *ℤ s; den = 96 }

unfoldable pub corner_rule : Bool → ℕ → ℕ → ℕ
corner_rule inside tag m = cond inside (max_sharpness + m) (cond (eqb tag corner_tag || eqb m 1) max_sharpness 0)

unfoldable pub corner_mask : ℕ → ℤ → ℤ → ℤ → Fraction
corner_mask r p ring sharp = cond (ltb max_sharpness r) (smooth_corner_mask (r - max_sharpness) p ring) (sharp_corner_mask r p sharp)
