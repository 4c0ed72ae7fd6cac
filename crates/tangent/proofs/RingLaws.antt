-- The sum of a corner vector, as the tables tell it: it is small at every step, and so are the vector and the control values near its corner.
use native.Mathlib.Numerals.{add-one}
use mathlib.Core.Path.{◌≡◌, refl, sym, ap}
use mathlib.Core.List.{List}
use Prim.Native.Nat.{ℕ, ◌+◌, ◌*◌, ◌%◌, ◌^◌, ◌≤◌}
use native.Mathlib.Omega.{arith}
use lib.IntN.{ℤ, pos, nat_abs, ◌*ℤ◌}
use Rattle.integer.proofs.Laws.{abs_neg, abs-+, abs-*, abs-*-≤}
use Rattle.integer.proofs.NearestLaws.{nearest-bounded}
use Rattle.finite.specs.Fold.{sum_below_ℤ}
use Rattle.finite.proofs.IntegerSum.{sum-size}
use Rattle.corner.specs.Corner.{turn, next, across, prev}
use Rattle.limits.specs.Limits.{max_coordinate}
use Rattle.mesh.specs.Fan.{iterate}
use Rattle.mask.specs.Mask.{Fraction}
use Rattle.mask.proofs.LinearLaws.{Related, bounds, inner-mask, edge-mask}
use Rattle.cosine.specs.Cosine.{scale}
use Rattle.cosine.specs.Weight.{edge_weight, face_weight}
use Rattle.cosine.proofs.WeightSize.{edge-weight-size, face-weight-size}
use Rattle.control.specs.Control.{units, value_at, link_at, inner_at, edge_at}
use Rattle.tangent.specs.Told.{ValuesSmall, turned_at, term_at, vector_at}
use Rattle.tangent.specs.Told.{Part, at_start, at_end, near, far, inner_near, inner_far, part_told}

-- ---- circulating
pub turned-start : (twins : List ℕ) (c : ℕ) → turned_at twins c 0 ≡ c
unfolding iterate
turned-start twins c = refl

pub next-turned : (twins : List ℕ) (c i : ℕ) → link_at twins (prev (turned_at twins c i)) ≡ turned_at twins c (i + 1)
unfolding iterate
next-turned twins c i = ap (turned_at twins c) (sym (add-one i))

-- ---- sizes
module _ {values : List ℤ} (small : ValuesSmall values) where
  pub value-small : (k c : ℕ) → nat_abs (value_at values k c) ≤ max_coordinate
  value-small k c = small.within (4 * (c % 1024) + k % 4)

  term-size : (twins : List ℕ) (n k c i : ℕ) → nat_abs (term_at values twins n k c i) ≤ 2 ^ 43
  term-size twins n k c i =
      let e = turned_at twins c i in
      let y = value_at values k (next e) in
      let z = value_at values k (across e) in
      omega (
        arith,
        abs-+ (edge_weight n i *ℤ y) (face_weight n i *ℤ z),
        abs-*-≤ (edge_weight n i) y (edge-weight-size n i) (value-small k (next e)),
        abs-*-≤ (face_weight n i) z (face-weight-size n i) (value-small k (across e)),
      )

  pub partial-size : (twins : List ℕ) (n k c i : ℕ) → i ≤ 16 → nat_abs (sum_below_ℤ (term_at values twins n k c) i) ≤ 2 ^ 47
  partial-size twins n k c i l = omega (arith, sum-size (2 ^ 43) (term_at values twins n k c) i (λ j _. term-size twins n k c j))

  pub vector-size : (twins : List ℕ) (n k c : ℕ) → n ≤ 16 → nat_abs (vector_at values twins n k c) ≤ 2 ^ 35
  unfolding vector_at
  vector-size twins n k c l =
      let sum = sum_below_ℤ (term_at values twins n k c) n in
      nearest-bounded (pos 256 *ℤ sum) scale (2 ^ 35) (omega arith) (omega (arith, abs-* (pos 256) sum, partial-size twins n k c n l))

  -- a fraction within the range of the coordinates, in units
  units-size : (q : Fraction) → Related (λ k z _. nat_abs z ≤ max_coordinate * k) q q → nat_abs (units q) ≤ 2 ^ 35
  units-size q s =
      let b = nearest-bounded (pos 256 *ℤ q.num) q.den (256 * max_coordinate) s.positive (omega (arith, abs-* (pos 256) q.num, s.related)) in
      omega (arith, b)

  inner-size : (w k c : ℕ) → nat_abs (units (inner_at values w k c)) ≤ 2 ^ 35
  unfolding inner_at
  inner-size w k c =
      units-size (inner_at values w k c)
      (inner-mask (bounds max_coordinate) w (value-small k c) (value-small k (turn 1 c)) (value-small k (turn 3 c)) (value-small k (turn 2 c)))

  edge-size : (w k c d : ℕ) → nat_abs (units (edge_at values w k c d)) ≤ 2 ^ 35
  unfolding edge_at
  edge-size w k c d =
      units-size (edge_at values w k c d)
      (edge-mask (bounds max_coordinate) w (value-small k c) (value-small k (turn 1 c)) (value-small k (turn 3 c))
      (value-small k (turn 2 d)) (value-small k (turn 2 c)) (value-small k (turn 3 d)))

  -- every part of a side
  pub part-size : (twins : List ℕ) (n m k c : ℕ) → n ≤ 16 → m ≤ 16 → (p : Part) → nat_abs (part_told values twins n m k c p) ≤ 2 ^ 35
  unfolding part_told
  part-size twins n m k c x y at_start = vector-size twins n k c x
  part-size twins n m k c x y at_end = rw abs_neg (vector-size twins m k (link_at twins c) y)
  part-size twins n m k c x y near = edge-size n k c (link_at twins c)
  part-size twins n m k c x y far = edge-size m k (link_at twins c) c
  part-size twins n m k c x y inner_near = inner-size n k c
  part-size twins n m k c x y inner_far = inner-size m k (next c)
