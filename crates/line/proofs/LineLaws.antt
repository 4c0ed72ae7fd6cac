-- A line, point by point: the sums that a coordinate comes from, three numbers stored, and the loop over the points. What holds of a coordinate is
-- said once, for coordinate k.
use mathlib.Core.Path.{◌≡◌, ap, ap₂, ◌∙◌}
use mathlib.Core.List.{List}
use Prim.Native.Nat.{ℕ, zero, suc, ◌+◌, ◌*◌, ◌/◌, ◌%◌, ◌^◌, ◌≤◌, ◌<◌}
use native.Mathlib.Nat.{mul_comm, mul_assoc, one-le-pow}
use native.Mathlib.Omega.{arith}
use lib.IntN.{ℤ, pos, nat_abs}
use lib.ListN.{length, get_or, set}
use lib.Pow.{pow-add}
use lib.Signed.{mag}
use mir.Syntax.{w32}
use mir.Val.{to_z, of_z}
use Rattle.integer.specs.Nearest.{nearest}
use Rattle.integer.proofs.Laws.{read_back}
use Rattle.finite.specs.Filled.{filled}
use Rattle.finite.proofs.FilledLaws.{filled-start, filled-three, length-filled}
use Rattle.sample.specs.Refusal.{max_control}
use Rattle.sample.specs.Blend.{Mean}
use Rattle.sample.proofs.BernsteinLaws.{cube-small, sixth-small}
use Rattle.sample.proofs.SampleLaws.{curve-weighted}
use Rattle.sample.specs.declared.model.Curves.{Curves}
use Rattle.line.specs.declared.model.Differences.{Differences}
use Rattle.line.specs.Differences.{differences_at, next_of, Summable, Tame, cubic}
use Rattle.line.specs.Points.{Curved, curve_coordinate, curve_in, Drawable}
use Rattle.line.proofs.SizedLaws.{read, sized}
use Rattle.line.proofs.DifferenceLaws.{cubic-next, cubic-tame, cubic-weighed}

-- ---- three things, by their numbers
abbrev pub of_three : {A : Type 0} → A → A → A → ℕ → A
of_three x y z zero = x
of_three x y z (suc zero) = y
of_three x y z (suc (suc k)) = z

pub each_three : (P : ℕ → Type 0) → P 0 → P 1 → P 2 → (k : ℕ) → k < 3 → P k
each_three P x y z zero l = x
each_three P x y z (suc zero) l = y
each_three P x y z (suc (suc zero)) l = z
each_three P x y z (suc (suc (suc k))) l = absurd (omega arith)

-- ---- number i of the line along three curves
abbrev pub line_along : ℕ → Curves → ℕ → ℤ
line_along n curves i = curve_coordinate n (curve_in curves (i % 3)) (i / 3)

pub line_at : (n : ℕ) (curves : Curves) (a k : ℕ) → k < 3 → curve_coordinate n (curve_in curves k) a ≡ line_along n curves (3 * a + k)
line_at n curves a k l =
    let q : a ≡ (3 * a + k) / 3 = omega arith in
    let r : k ≡ (3 * a + k) % 3 = omega arith in
    ap₂ (λ (i j : ℕ). curve_coordinate n (curve_in curves j) i) q r

-- ---- the sum along a curve at a, with its differences
abbrev pub sums_of : ℕ → List ℤ → ℕ → Differences
sums_of n curve a = differences_at (cubic n (λ i. get_or curve i (pos 0))) a

pub curve-summable : {n d : ℕ} {curve : List ℤ} → Curved n d curve → Summable n curve
curve-summable {n} c = record { few = c.most; fine = record { fine = λ i l. omega (arith, c.size i l, cube-small n c.most) } }

-- at each a they are small, the sum over N^6 is the point of the curve, and the next of them are those of a + 1
module _ {n d : ℕ} {curve : List ℤ} (c : Curved n d curve) {a : ℕ} (at : a ≤ n) {x : Differences} (hx : x ≡ sums_of n curve a) where
  abbrev h : ℕ → ℤ
  h i = get_or curve i (pos 0)

  sum_bound : nat_abs (cubic n h a) ≤ max_control * n ^ 6
  sum_bound =
      rw (cubic-weighed n a at h, mul_comm max_control (n ^ 6), pow-add n 3 3, mul_assoc (n ^ 3) (n ^ 3) max_control)
      (omega (arith, curve-weighted n a at h 1 (n ^ 3 * max_control) (λ i l. omega (arith, c.size i l))))

  pub sums-tame : Tame x
  sums-tame =
      rw hx
      (cubic-tame h (curve-summable c).fine.fine n a c.most (omega (arith, c.most)) (omega (arith, sum_bound, sixth-small n c.most)))

  sum-read : read x.value ≡ cubic n h a
  sum-read = (sized x.value sums-tame.value (omega arith)).is ∙ ap (λ (s : Differences). s.value) hx

  pub sum-asked : Mean (read x.value) d
  sum-asked = rw (sum-read, c.over) (record { least = one-le-pow 6 n c.least; within = sum_bound })

  pub sum_told : {r : ℤ} → r ≡ nearest (read x.value) d → r ≡ curve_coordinate n curve a
  sum_told e = e ∙ ap₂ nearest (sum-read ∙ cubic-weighed n a at h) c.over

  pub sums_next : {x' : Differences} → x' ≡ next_of x → x' ≡ sums_of n curve (a + 1)
  sums_next e = e ∙ ap next_of hx ∙ cubic-next h n a

-- ---- a loop over the points
--   LineDrawn curves n before after x y z a   the list has the points before a at its front, and x, y and z are the sums of the three curves at a
pub record LineDrawn (curves : Curves) (n : ℕ) (before after : List ℤ) (x y z : Differences) (a : ℕ) : Type 0 where
  pub within : a ≤ n + 1
  pub points : after ≡ filled (line_along n curves) (3 * a) before
  pub sums : (k : ℕ) → k < 3 → of_three x y z k ≡ sums_of n (curve_in curves k) a

pub drawn-start : (curves : Curves) (n : ℕ) (d : List ℤ) {x y z : Differences} → x ≡ sums_of n curves.x 0 → y ≡ sums_of n curves.y 0
    → z ≡ sums_of n curves.z 0 → LineDrawn curves n d d x y z 0
drawn-start curves n d {x} {y} {z} hx hy hz = record {
  within = omega arith;
  points = filled-start (line_along n curves) d;
  sums = each_three (λ k. of_three x y z k ≡ sums_of n (curve_in curves k) 0) hx hy hz;
}

module _ {curves : Curves} {n : ℕ} {before after : List ℤ} {x y z : Differences} {a : ℕ} (g : LineDrawn curves n before after x y z a) where
  pub drawn-length : Drawable curves n before → length after ≡ length before
  drawn-length d = ap length g.points ∙ length-filled (line_along n curves) (3 * a) before (omega (arith, g.within, d.room))

  -- at a place of the line, coordinate k: what its sums are asked for and give
  module _ (d : Drawable curves n before) (at : a ≤ n) where
    abbrev sum : ℕ → ℤ
    sum k = read (of_three x y z k).value

    pub drawn-asked : (k : ℕ) → k < 3 → Mean (sum k) curves.divisor
    drawn-asked k l = sum-asked (d.curved k l) at (g.sums k l)

    pub drawn-tame : (k : ℕ) → k < 3 → Tame (of_three x y z k)
    drawn-tame k l = sums-tame (d.curved k l) at (g.sums k l)

    -- the number that is stored, as the machine reads what was rounded
    pub drawn-told : (k : ℕ) → k < 3 → (r : ℤ) → mag r < 2 ^ 31 → r ≡ nearest (sum k) curves.divisor
        → to_z w32 (of_z w32 r) ≡ line_along n curves (3 * a + k)
    drawn-told k l r ok e = read_back w32 ok (sum_told (d.curved k l) at (g.sums k l) e ∙ line_at n curves a k l)

    -- one point more, with its three numbers stored and the sums one place further
    pub drawn-more : {p q r : ℤ} {x' y' z' : Differences}
        → p ≡ line_along n curves (3 * a + 0) → q ≡ line_along n curves (3 * a + 1) → r ≡ line_along n curves (3 * a + 2)
        → x' ≡ next_of x → y' ≡ next_of y → z' ≡ next_of z
        → LineDrawn curves n before (set (set (set after (3 * a) p) (3 * a + 1) q) (3 * a + 2) r) x' y' z' (a + 1)
    drawn-more {x' = x'} {y' = y'} {z' = z'} hp hq hr hx hy hz =
        let front : 3 * a + 0 ≡ 3 * a = omega arith in
        let end : 3 * a + 3 ≡ 3 * (a + 1) = omega arith in
        record {
          within = omega arith;
          points =
              filled-three (line_along n curves) (3 * a) before after (omega (arith, d.room)) g.points (hp ∙ ap (line_along n curves) front) hq hr
              ∙ ap (λ (i : ℕ). filled (line_along n curves) i before) end;
          sums = λ k l. sums_next (d.curved k l) at (g.sums k l) (each_three (λ k. of_three x' y' z' k ≡ next_of (of_three x y z k)) hx hy hz k l);
        }
