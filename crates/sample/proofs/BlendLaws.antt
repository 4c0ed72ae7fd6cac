-- Sums of four products: they fit 64 bits, they are small where the values are, and two steps of them give the sum of a sample.
use mathlib.Core.Path.{◌≡◌, refl, sym, ap, ap₂, ◌∙◌}
use mathlib.Core.Bool.{Bool, ◌&&◌}
use mathlib.Core.List.{List, [], ◌∷◌}
use Prim.Native.Nat.{ℕ, ◌+◌, ◌*◌, ◌^◌, ◌≤◌, ◌<◌}
use native.Mathlib.Nat.{mul_comm, one-le-pow}
use native.Mathlib.Omega.{arith}
use lib.IntN.{ℤ, pos, nat_abs, ◌*ℤ◌}
use lib.ListN.{get_or}
use mir.Syntax.{w64}
use mir.Val.{SFits}
use Rattle.integer.specs.Nearest.{nearest, whole}
use Rattle.integer.proofs.Laws.{abs-*-≤, sfits-abs}
use Rattle.integer.proofs.NearestLaws.{nearest-meets, nearest-unique}
use Rattle.finite.specs.Fold.{fold_below, all_below, sum_below_ℤ}
use Rattle.finite.specs.Filled.{list_below}
use Rattle.finite.proofs.FilledLaws.{list_below-at}
use Rattle.finite.proofs.IntegerSum.{sum-size}
use Rattle.sample.specs.Bernstein.{bernstein, numerator, rounded}
use Rattle.sample.specs.Refusal.{max_control}
use Rattle.sample.specs.declared.model.Coordinate.{Coordinate}
use Rattle.sample.specs.declared.model.Point.{Point}
use Rattle.sample.specs.declared.model.MarkedPoint.{MarkedPoint}
use Rattle.sample.specs.Blend.{control_of, SmallPatch, AtStep, Samplable, LightWeights, Fine, Blendable, ForCurve, Mean, blended, blended_twice, curve_of}
use Rattle.sample.proofs.BernsteinLaws.{bernstein-small}
use Rattle.sample.proofs.SampleLaws.{numerator-rows, rounded-nearest, numerator-bound}

-- ---- the first i terms
abbrev pub term : List ℕ → (ℕ → ℤ) → ℕ → ℤ
term weights h i = pos (get_or weights i 0) *ℤ h i

partial-size : {weights : List ℕ} (h : ℕ → ℤ) (B : ℕ) → LightWeights weights → ((i : ℕ) → i < 4 → nat_abs (h i) ≤ B)
    → (i : ℕ) → i ≤ 4 → nat_abs (sum_below_ℤ (term weights h) i) ≤ i * (2 ^ 15 * B)
partial-size {weights} h B light fine i l =
    sum-size (2 ^ 15 * B) (term weights h) i (λ j k. abs-*-≤ (pos (get_or weights j 0)) (h j) (light.light j (omega arith)) (fine j (omega arith)))

module _ {weights : List ℕ} {values : List ℤ} (b : Blendable weights values) where
  abbrev value : ℕ → ℤ
  value i = get_or values i (pos 0)

  pub value-fits : (i : ℕ) → i < 4 → SFits w64 (value i)
  value-fits i l = sfits-abs (value i) (omega (arith, b.fine.fine i l))

  pub term_fits : (i : ℕ) → i < 4 → SFits w64 (term weights value i)
  term_fits i l = sfits-abs (term weights value i) (omega (arith, abs-*-≤ (pos (get_or weights i 0)) (value i) (b.light.light i l) (b.fine.fine i l)))

  pub partial-fits : (i : ℕ) → i ≤ 4 → SFits w64 (sum_below_ℤ (term weights value) i)
  partial-fits i l = sfits-abs (sum_below_ℤ (term weights value) i) (omega (arith, partial-size value (2 ^ 45) b.light b.fine.fine i l))

-- ---- four values as a list
pub list-of-four : {A : Type 0} (f : ℕ → A) {w x y z : A} → w ≡ f 0 → x ≡ f 1 → y ≡ f 2 → z ≡ f 3 → w ∷ (x ∷ (y ∷ (z ∷ []))) ≡ list_below f 4
unfolding list_below
list-of-four f p q r s = ap₂ ◌∷◌ p (ap₂ ◌∷◌ q (ap₂ ◌∷◌ r (ap₂ ◌∷◌ s refl)))

pub blended-list : (weights : List ℕ) (h : ℕ → ℤ) {values : List ℤ} {r : ℤ} → values ≡ list_below h 4
    → r ≡ blended weights (λ i. get_or values i (pos 0)) → r ≡ blended weights h
unfolding fold_below list_below
blended-list weights h e q = q ∙ ap (λ (xs : List ℤ). blended weights (λ i. get_or xs i (pos 0))) e

-- ---- another step of the same N
pub step-at : {n b : ℕ} → AtStep n b → (a : ℕ) → a ≤ n → AtStep n a
step-at s a l = record { least = s.least; most = s.most; within = l }

-- ---- one patch
pub weights-light : {n a : ℕ} → AtStep n a → LightWeights (list_below (bernstein n a) 4)
weights-light {n} {a} s = record { light = λ i l. rw (list_below-at (bernstein n a) 4 i 0 l) (bernstein-small n a s.within s.most i l) }

module _ {patch : List ℤ} (small : SmallPatch patch) (k : ℕ) (below : k < 3) where
  pub control-small : (m : ℕ) → m < 16 → nat_abs (control_of patch k m) ≤ max_control
  control-small m l = small.small (3 * m + k) (omega arith)

  abbrev column : ℕ → ℕ → ℤ
  column i j = control_of patch k (i + 4 * j)

  pub column-fine : (i : ℕ) → i < 4 → Fine (list_below (column i) 4)
  column-fine i l = record { fine = λ j q. rw (list_below-at (column i) 4 j (pos 0) q) (omega (arith, control-small (i + 4 * j) (omega arith))) }

pub curve-fine : {patch : List ℤ} {k : ℕ} {v : List ℕ} → SmallPatch patch → ForCurve k v
    → Fine (list_below (λ i. blended v (λ j. control_of patch k (i + 4 * j))) 4)
curve-fine {patch} {k} {v} small s =
    let column : ℕ → ℕ → ℤ = λ i j. control_of patch k (i + 4 * j) in
    record {
      fine = λ i l.
          rw (list_below-at (λ i. blended v (column i)) 4 i (pos 0) l)
          (omega (
            arith,
            partial-size (column i) max_control s.light (λ j q. control-small small k s.axis (i + 4 * j) (omega arith)) 4 (omega arith),
          ));
    }

pub sample-mean : {patch : List ℤ} {n a b : ℕ} → Samplable patch n a b → (k : ℕ) → k < 3 → Mean (numerator n a b (control_of patch k)) (n ^ 6)
sample-mean {patch} {n} {a} {b} s k l = record {
  least = one-le-pow 6 n s.at.least;
  within =
      rw mul_comm
      (numerator-bound n a b s.at.within s.across.within (control_of patch k) max_control (control-small s.small k l));
}

-- ---- the sample, by the lists of the weights
module _ (n a b : ℕ) (g : ℕ → ℤ) {u v : List ℕ} {d : ℕ} (e : u ≡ list_below (bernstein n a) 4) (f : v ≡ list_below (bernstein n b) 4) (h : d ≡ n ^ 6) where
  blended-numerator : blended_twice u v g ≡ numerator n a b g
  unfolding fold_below list_below
  blended-numerator = ap₂ (λ (u v : List ℕ). blended_twice u v g) e f ∙ sym (numerator-rows n a b g)

  pub blended-mean : Mean (numerator n a b g) (n ^ 6) → Mean (blended_twice u v g) d
  blended-mean m = rw (blended-numerator, h) m

  pub rounded-blended : 0 < n → nearest (blended_twice u v g) d ≡ rounded n a b g
  rounded-blended some =
      let p : 0 < n ^ 6 = one-le-pow 6 n some in
      ap₂ nearest blended-numerator h
      ∙ nearest-unique (numerator n a b g) (n ^ 6) _ _ p (nearest-meets (numerator n a b g) (n ^ 6) p) (rounded-nearest n a b g some)

  pub whole-blended : whole (blended_twice u v g) d ≡ whole (numerator n a b g) (n ^ 6)
  whole-blended = ap₂ whole blended-numerator h

-- ---- a curve, by the list of the weights
pub curve-list : (patch : List ℤ) (n b k : ℕ) {v : List ℕ} {curve : List ℤ} → v ≡ list_below (bernstein n b) 4
    → curve ≡ list_below (λ i. blended v (λ j. control_of patch k (i + 4 * j))) 4 → curve ≡ curve_of patch n b k
unfolding fold_below list_below
curve-list patch n b k e h = h ∙ ap (λ (v : List ℕ). list_below (λ i. blended v (λ j. control_of patch k (i + 4 * j))) 4) e

-- ---- answers by their parts
-- a coordinate is its value and its mark
pub same-coordinate : {x x' : ℤ} {e e' : Bool} → x ≡ x' → e ≡ e' → ◌≡◌ {A = Coordinate} (record { value = x; exact = e }) (record { value = x'; exact = e' })
same-coordinate p q = cc

-- a point is its three coordinates
pub same_point : {x y z x' y' z' : ℤ} → x ≡ x' → y ≡ y' → z ≡ z' → ◌≡◌ {A = Point} (record { x = x; y = y; z = z }) (record { x = x'; y = y'; z = z' })
same_point e f g = cc

-- a point with its mark is both
pub same-marked : {p p' : Point} {e e' : Bool} → p ≡ p' → e ≡ e' → ◌≡◌ {A = MarkedPoint} (record { point = p; exact = e }) (record { point = p'; exact = e' })
same-marked f g = cc

-- three tests, one after the other
pub all_three : (p : ℕ → Bool) → (p 0 && p 1 && p 2) ≡ all_below p 3
unfolding fold_below
all_three p = refl
