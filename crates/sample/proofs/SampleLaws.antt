-- The laws of a sample, over any control values g: other forms of its sum, how it is rounded, what it depends on, a quarter turn of the patch,
-- its two directions exchanged, its edge b = 0, the size of its sum, and its distance from the exact surface.
use mathlib.Core.Path.{◌≡◌, refl, sym, ap, ap₂, ◌∙◌}
use Prim.Native.Nat.{ℕ, zero, suc, ◌+◌, ◌-◌, ◌*◌, ◌/◌, ◌%◌, ◌^◌, ◌<◌, ◌≤◌}
use native.Mathlib.Nat.{add-zero, mul_comm, mul_assoc, mul-le-mul_left, mul-le-mul_right, one-le-pow}
use native.Mathlib.Omega.{arith}
use lib.IntN.{ℤ, pos, nat_abs, ◌+ℤ◌, ◌-ℤ◌, ◌*ℤ◌, zero-*ℤ, +ℤ_assoc, +ℤ_idl, +ℤ_idr}
use lib.Pow.{pow-add}
use Rattle.integer.specs.Nearest.{IsNearest}
use Rattle.integer.proofs.Difference.{int, nat, ◌⊕◌, ◌⊝◌, ◌⊛◌, prove-eq, read-abs}
use Rattle.integer.proofs.Laws.{*ℤ-assoc, abs-+, abs-*}
use Rattle.integer.proofs.NearestLaws.{nearest-meets}
use Rattle.finite.specs.Fold.{fold_below, sum_below, sum_below_ℤ}
use Rattle.finite.proofs.FoldLaws.{fold-ext, fold-swap}
use Rattle.finite.proofs.IntegerSum.{sum_ℤ-monoid, sum-scale}
use Rattle.sample.specs.Bernstein.{bernstein, numerator, rounded}
use Rattle.sample.proofs.BernsteinLaws.{bernstein-flip, bernstein-sum_below, bernstein-first, bernstein-first-others}

-- ---- other forms of the sum
-- the weight of point m
abbrev pub point_weight : ℕ → ℕ → ℕ → ℕ → ℕ
point_weight n a b m = bernstein n a (m % 4) * bernstein n b (m / 4)

module _ (n a b : ℕ) (g : ℕ → ℤ) where
  -- one sum over the sixteen points
  pub numerator-sixteen : numerator n a b g ≡ sum_below_ℤ (λ m. pos (point_weight n a b m) *ℤ g m) 16
  unfolding numerator fold_below
  numerator-sixteen = simp (+ℤ_assoc, +ℤ_idl)

  -- first along b and then along a
  pub numerator-rows : numerator n a b g ≡ sum_below_ℤ (λ i. pos (bernstein n a i) *ℤ sum_below_ℤ (λ j. pos (bernstein n b j) *ℤ g (i + 4 * j)) 4) 4
  unfolding numerator
  numerator-rows =
      fold-swap sum_ℤ-monoid (λ j i. pos (bernstein n a i * bernstein n b j) *ℤ g (i + 4 * j)) 4 4
      ∙ fold-ext (pos 0) ◌+ℤ◌ 4 (λ i _.
      fold-ext (pos 0) ◌+ℤ◌ 4 (λ j _. *ℤ-assoc (pos (bernstein n a i)) (pos (bernstein n b j)) (g (i + 4 * j)))
      ∙ sum-scale (pos (bernstein n a i)) (λ j. pos (bernstein n b j) *ℤ g (i + 4 * j)) 4)

-- ---- a sample by its sum
-- over n^6 and rounded once, ties to even
pub rounded-nearest : (n a b : ℕ) (g : ℕ → ℤ) → 0 < n → IsNearest (numerator n a b g) (n ^ 6) (rounded n a b g)
unfolding rounded
rounded-nearest n a b g some = nearest-meets (numerator n a b g) (n ^ 6) (one-le-pow 6 n some)

rounded-by-sum : (n a b a' b' : ℕ) (g g' : ℕ → ℤ) → numerator n a b g ≡ numerator n a' b' g' → rounded n a b g ≡ rounded n a' b' g'
unfolding rounded
rounded-by-sum n a b a' b' g g' e = rw e

-- ---- what a sample depends on
pub numerator-ext : (n a b : ℕ) {g g' : ℕ → ℤ} → ((m : ℕ) → m < 16 → g m ≡ g' m) → numerator n a b g ≡ numerator n a b g'
unfolding numerator
numerator-ext n a b h =
    fold-ext (pos 0) ◌+ℤ◌ 4 (λ j k. fold-ext (pos 0) ◌+ℤ◌ 4 (λ i l. ap (λ (z : ℤ). pos (bernstein n a i * bernstein n b j) *ℤ z) (h (i + 4 * j) (omega arith))))

pub rounded-ext : (n a b : ℕ) {g g' : ℕ → ℤ} → ((m : ℕ) → m < 16 → g m ≡ g' m) → rounded n a b g ≡ rounded n a b g'
rounded-ext n a b h = rounded-by-sum n a b a b _ _ (numerator-ext n a b h)

-- ---- four points in the other direction
sum-flip : (f : ℕ → ℤ) → sum_below_ℤ (λ i. f (3 - i)) 4 ≡ sum_below_ℤ f 4
unfolding fold_below
sum-flip f =
    prove-eq (nat 0 ⊕ int (f 3) ⊕ int (f 2) ⊕ int (f 1) ⊕ int (f 0)) (nat 0 ⊕ int (f 0) ⊕ int (f 1) ⊕ int (f 2) ⊕ int (f 3)) (omega arith)

-- ---- a quarter turn
-- the control values of the patch begun one corner later: b'(i,j) = b(3 - j, i)
abbrev pub quarter_turn : (ℕ → ℤ) → ℕ → ℤ
quarter_turn g m = g (3 - m / 4 + 4 * (m % 4))

-- points 0, 3, 15 and 12 are the corner points of q0 to q3 (rule B5), which are q1, q2, q3, q0 of the face as it was
corners : (g : ℕ → ℤ) → (quarter_turn g 0 ≡ g 3) × (quarter_turn g 3 ≡ g 15) × (quarter_turn g 15 ≡ g 12) × (quarter_turn g 12 ≡ g 0)
corners g = (refl, refl, refl, refl)

-- a face that starts one corner later has at (b, N - a) what it had at (a, b) (rule C9)
pub numerator-turn : (n a b : ℕ) (g : ℕ → ℤ) → a ≤ n → numerator n b (n - a) (quarter_turn g) ≡ numerator n a b g
unfolding numerator
numerator-turn n a b g h =
    fold-ext (pos 0) ◌+ℤ◌ 4 (λ j l. fold-ext (pos 0) ◌+ℤ◌ 4 (λ i k. term i j k l))
    ∙ sum-flip (λ k. sum_below_ℤ (λ i. pos (bernstein n a k * bernstein n b i) *ℤ g (k + 4 * i)) 4)
    ∙ fold-swap sum_ℤ-monoid (λ k i. pos (bernstein n a k * bernstein n b i) *ℤ g (k + 4 * i)) 4 4
  where
    term : (i j : ℕ) → i < 4 → j < 4
        → pos (bernstein n b i * bernstein n (n - a) j) *ℤ quarter_turn g (i + 4 * j) ≡ pos (bernstein n a (3 - j) * bernstein n b i) *ℤ g (3 - j + 4 * i)
    term i j k l =
        ap₂ (λ (w m : ℕ). pos w *ℤ g m)
        (rw (bernstein-flip n a h j l) (mul_comm (bernstein n b i) (bernstein n a (3 - j)))) (omega arith)

-- ---- a and b exchanged
-- the control values of the patch with u and v exchanged: b'(i,j) = b(j,i)
pub numerator-swap : (n a b : ℕ) (g : ℕ → ℤ) → numerator n b a (λ m. g (m / 4 + 4 * (m % 4))) ≡ numerator n a b g
unfolding numerator
numerator-swap n a b g =
    fold-ext (pos 0) ◌+ℤ◌ 4 (λ j l. fold-ext (pos 0) ◌+ℤ◌ 4 (λ i k.
    ap₂ (λ (w m : ℕ). pos w *ℤ g m)
    (mul_comm (bernstein n b i) (bernstein n a j)) (let e : (i + 4 * j) / 4 + 4 * ((i + 4 * j) % 4) ≡ j + 4 * i = omega arith in e)))
    ∙ fold-swap sum_ℤ-monoid (λ j i. pos (bernstein n a j * bernstein n b i) *ℤ g (j + 4 * i)) 4 4

pub rounded-swap : (n a b : ℕ) (g : ℕ → ℤ) → rounded n b a (λ m. g (m / 4 + 4 * (m % 4))) ≡ rounded n a b g
rounded-swap n a b g = rounded-by-sum n b a a b _ g (numerator-swap n a b g)

-- ---- the edge b = 0
-- only the points with j = 0 count
pub numerator-edge : (n a : ℕ) (g : ℕ → ℤ) → numerator n a 0 g ≡ sum_below_ℤ (λ i. pos (bernstein n a i) *ℤ (pos (n ^ 3) *ℤ g i)) 4
unfolding fold_below
numerator-edge n a g = numerator-rows n a 0 g ∙ fold-ext (pos 0) ◌+ℤ◌ 4 (λ i _. ap (λ (z : ℤ). pos (bernstein n a i) *ℤ z) (first i))
  where
    first : (i : ℕ) → sum_below_ℤ (λ j. pos (bernstein n 0 j) *ℤ g (i + 4 * j)) 4 ≡ pos (n ^ 3) *ℤ g i
    first i =
        let none = bernstein-first-others n in
        rw (add-zero, bernstein-first, none 1 (omega arith), none 2 (omega arith), none 3 (omega arith))
        (simp (zero-*ℤ, +ℤ_idl, +ℤ_idr))

-- its four points from the other end
pub rounded-edge-flip : (n a : ℕ) (g g' : ℕ → ℤ) → a ≤ n → ((i : ℕ) → i < 4 → g' i ≡ g (3 - i)) → rounded n (n - a) 0 g' ≡ rounded n a 0 g
rounded-edge-flip n a g g' le h =
    rounded-by-sum n (n - a) 0 a 0 g' g
    (numerator-edge n (n - a) g'
    ∙ fold-ext (pos 0) ◌+ℤ◌ 4 (λ i l. ap₂ (λ (w : ℕ) (z : ℤ). pos w *ℤ (pos (n ^ 3) *ℤ z)) (bernstein-flip n a le i l) (h i l))
    ∙ sum-flip (λ i. pos (bernstein n a i) *ℤ (pos (n ^ 3) *ℤ g i))
    ∙ sym (numerator-edge n a g))

-- ---- the size of the sum
-- K |f m| ≤ B at every m gives K |sum of u m * f m| ≤ (sum of u m) B
pub weighted : (u : ℕ → ℕ) (f : ℕ → ℤ) (n K B : ℕ) → ((m : ℕ) → m < n → K * nat_abs (f m) ≤ B)
    → K * nat_abs (sum_below_ℤ (λ m. pos (u m) *ℤ f m) n) ≤ sum_below u n * B
unfolding fold_below
weighted u f zero K B h = omega arith
weighted u f (suc n) K B h =
    let s : ℤ = sum_below_ℤ (λ m. pos (u m) *ℤ f m) n in
    let before : K * nat_abs s ≤ sum_below u n * B = weighted u f n K B (λ m l. h m (omega arith)) in
    omega (
      arith,
      mul-le-mul_left K (abs-+ s (pos (u n) *ℤ f n)),
      ap (λ (t : ℕ). K * t) (abs-* (pos (u n)) (f n)),
      mul-le-mul_left (u n) (h n (omega arith)),
    )

-- along one direction
pub curve-weighted : (n a : ℕ) → a ≤ n → (f : ℕ → ℤ) (K B : ℕ) → ((i : ℕ) → i < 4 → K * nat_abs (f i) ≤ B)
    → K * nat_abs (sum_below_ℤ (λ i. pos (bernstein n a i) *ℤ f i) 4) ≤ n ^ 3 * B
curve-weighted n a le f K B h = rw (bernstein-sum_below n a le) at (weighted (bernstein n a) f 4 K B h)

module _ (n a b : ℕ) (ha : a ≤ n) (hb : b ≤ n) where
  pub numerator-weighted : (f : ℕ → ℤ) (K B : ℕ) → ((m : ℕ) → m < 16 → K * nat_abs (f m) ≤ B) → K * nat_abs (numerator n a b f) ≤ n ^ 6 * B
  numerator-weighted f K B h =
      rw (numerator-rows n a b f, pow-add n 3 3, mul_assoc (n ^ 3) (n ^ 3) B)
      (curve-weighted n a ha (λ i. sum_below_ℤ (λ j. pos (bernstein n b j) *ℤ f (i + 4 * j)) 4) K (n ^ 3 * B)
      (λ i l. curve-weighted n b hb (λ j. f (i + 4 * j)) K B (λ j k. h (i + 4 * j) (omega arith))))

  pub numerator-bound : (g : ℕ → ℤ) (B : ℕ) → ((m : ℕ) → m < 16 → nat_abs (g m) ≤ B) → nat_abs (numerator n a b g) ≤ n ^ 6 * B
  numerator-bound g B h = omega (arith, numerator-weighted g 1 B (λ m l. omega (arith, h m l)))

-- ---- the distance from the exact surface
-- |z/d - r| ≤ 1/2, with both sides times 2 d q
near-scaled : (z r : ℤ) (d q : ℕ) → 2 * nat_abs (z -ℤ r *ℤ pos d) ≤ d → 2 * nat_abs (z *ℤ pos q -ℤ r *ℤ pos (d * q)) ≤ d * q
near-scaled z r d q h =
    let e : z *ℤ pos q -ℤ r *ℤ pos (d * q) ≡ (z -ℤ r *ℤ pos d) *ℤ pos q =
    prove-eq (int z ⊛ nat q ⊝ int r ⊛ (nat d ⊛ nat q)) ((int z ⊝ int r ⊛ nat d) ⊛ nat q) (omega arith) in
    rw (e, abs-*) (omega (arith, mul-le-mul_right q h))

two-halves : (x y z : ℤ) (B : ℕ) → 2 * nat_abs (z -ℤ y) ≤ B → 2 * nat_abs (y -ℤ x) ≤ B → nat_abs (x -ℤ z) ≤ B
two-halves x y z B f g = omega (arith, read-abs (int x ⊝ int z), read-abs (int z ⊝ int y), read-abs (int y ⊝ int x))

sum-difference : (u : ℕ → ℕ) (e g : ℕ → ℤ) (l : ℤ) (n : ℕ)
    → sum_below_ℤ (λ m. pos (u m) *ℤ (e m -ℤ g m *ℤ l)) n ≡ sum_below_ℤ (λ m. pos (u m) *ℤ e m) n -ℤ sum_below_ℤ (λ m. pos (u m) *ℤ g m) n *ℤ l
unfolding fold_below
sum-difference u e g l zero = prove-eq (nat 0) (nat 0 ⊝ nat 0 ⊛ int l) (omega arith)
sum-difference u e g l (suc n) =
    let s : ℤ = sum_below_ℤ (λ m. pos (u m) *ℤ e m) n in
    let t : ℤ = sum_below_ℤ (λ m. pos (u m) *ℤ g m) n in
    ap (λ (z : ℤ). z +ℤ pos (u n) *ℤ (e n -ℤ g n *ℤ l)) (sum-difference u e g l n)
    ∙ prove-eq (int s ⊝ int t ⊛ int l ⊕ nat (u n) ⊛ (int (e n) ⊝ int (g n) ⊛ int l))
    (int s ⊕ nat (u n) ⊛ int (e n) ⊝ (int t ⊕ nat (u n) ⊛ int (g n)) ⊛ int l) (omega arith)

numerator-difference : (n a b : ℕ) (e g : ℕ → ℤ) (l : ℤ)
    → numerator n a b (λ m. e m -ℤ g m *ℤ l) ≡ numerator n a b e -ℤ numerator n a b g *ℤ l
numerator-difference n a b e g l =
    rw (numerator-sixteen n a b (λ m. e m -ℤ g m *ℤ l), numerator-sixteen n a b e, numerator-sixteen n a b g)
    (sum-difference (point_weight n a b) e g l 16)

-- Where each control value g m is at most half a unit from the fraction num m / den m, the sample is at most one unit from the
-- same sum of the fractions, over n^6. Both sides are times n^6 and times L, a common multiple of the divisors: L = den m * q m.
pub rounded-near : (n a b : ℕ) → 0 < n → a ≤ n → b ≤ n → (num : ℕ → ℤ) (den q : ℕ → ℕ) (L : ℕ) (g : ℕ → ℤ)
    → ((m : ℕ) → m < 16 → L ≡ den m * q m)
    → ((m : ℕ) → m < 16 → 2 * nat_abs (num m -ℤ g m *ℤ pos (den m)) ≤ den m)
    → nat_abs (rounded n a b g *ℤ pos (n ^ 6 * L) -ℤ numerator n a b (λ m. num m *ℤ pos (q m))) ≤ n ^ 6 * L
rounded-near n a b some ha hb num den q L g common near =
    let e : ℤ = numerator n a b (λ m. num m *ℤ pos (q m)) in
    let s : ℤ = numerator n a b g in
    let r : ℤ = rounded n a b g in
    let points : 2 * nat_abs (e -ℤ s *ℤ pos L) ≤ n ^ 6 * L =
    rw (numerator-difference n a b (λ m. num m *ℤ pos (q m)) g (pos L)) at
    (numerator-weighted n a b ha hb (λ m. num m *ℤ pos (q m) -ℤ g m *ℤ pos L) 2 L
    (λ m l. rw (common m l) (near-scaled (num m) (g m) (den m) (q m) (near m l)))) in
    let last : 2 * nat_abs (s *ℤ pos L -ℤ r *ℤ pos (n ^ 6 * L)) ≤ n ^ 6 * L =
    near-scaled s r (n ^ 6) L (rounded-nearest n a b g some).near in
    two-halves (r *ℤ pos (n ^ 6 * L)) (s *ℤ pos L) e (n ^ 6 * L) points last
