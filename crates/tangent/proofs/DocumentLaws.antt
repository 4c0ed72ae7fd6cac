-- Each of the 24 vectors, by the table, is the one that the source writes in its place.
use mathlib.Core.Path.{◌≡◌, refl, ap, ap₂, ◌∙◌}
use Prim.Native.Nat.{ℕ, zero, suc, ◌%◌, ◌<◌}
use native.Mathlib.Omega.{arith}
use lib.IntN.{ℤ, neg_ℤ, neg_ℤ-neg_ℤ}
use Rattle.integer.proofs.Difference.{int, nat, ◌⊝◌, ◌⊛◌, ~, prove-eq}
use Rattle.corner.specs.Corner.{turn}
use Rattle.patch.specs.Point.{View}
use Rattle.patch.specs.Patch.{control_value}
use Rattle.tangent.specs.Vector.{corner_vector, middle_vector, end_vector, inner_vector, triple_difference, control_difference, cosine_at}
use Rattle.tangent.specs.Vector.{first_term, second_term, corrected, start_into, end_into}
use Rattle.tangent.specs.Tangent.{vector, row_of, tangent}
use Rattle.tangent.specs.Document.{u, v, b, t', k, AsWritten}
use Rattle.tangent.proofs.SeenLaws.{seen_point, turn-after, value-seen}

-- ---- signs
pub triple-difference-back : (y z : ℤ) → neg_ℤ (triple_difference y z) ≡ triple_difference z y
triple-difference-back y z = prove-eq (~ (nat 3 ⊛ (int y ⊝ int z))) (nat 3 ⊛ (int z ⊝ int y)) (omega arith)

-- the cosine term near one end of a side is the one near the other end, of the side run back
pub first_back : (k0 k1 u0 u1 : ℤ) → first_term k0 k1 u0 u1 ≡ second_term k1 k0 (neg_ℤ u1) (neg_ℤ u0)
first_back k0 k1 u0 u1 =
    prove-eq (nat 2 ⊛ int k0 ⊛ int u1 ⊝ int k1 ⊛ int u0) (int k1 ⊛ ~ (int u0) ⊝ nat 2 ⊛ int k0 ⊛ ~ (int u1)) (omega arith)

second_back : (k0 k1 u1 u2 : ℤ) → second_term k0 k1 u1 u2 ≡ first_term k1 k0 (neg_ℤ u2) (neg_ℤ u1)
second_back k0 k1 u1 u2 =
    prove-eq (int k0 ⊛ int u2 ⊝ nat 2 ⊛ int k1 ⊛ int u1) (nat 2 ⊛ int k1 ⊛ ~ (int u1) ⊝ int k0 ⊛ ~ (int u2)) (omega arith)

module _ (S : View) (c : ℕ) where
  -- ---- the vectors of side s, by the control values of the face as it stands
  -- the step between its values m and l
  abbrev difference_of : ℕ → ℕ → ℕ → ℤ
  difference_of s m l = triple_difference (control_value S c (seen_point s m)) (control_value S c (seen_point s l))

  difference-seen : (s m l : ℕ) → m < 16 → l < 16 → control_difference S (turn s c) m l ≡ difference_of s m l
  difference-seen s m l x y = ap₂ triple_difference (value-seen S s c m x) (value-seen S s c l y)

  middle-seen : (s : ℕ) → middle_vector S (turn s c) ≡ difference_of s 2 1
  unfolding middle_vector
  middle-seen s = difference-seen s 2 1 (omega arith) (omega arith)

  inner-seen : (s : ℕ) → inner_vector S (turn s c) ≡ difference_of s 6 5
  unfolding inner_vector
  inner-seen s = difference-seen s 6 5 (omega arith) (omega arith)

  abbrev start : ℕ → ℤ
  start s = corner_vector S (turn s c)

  abbrev middle : ℕ → ℤ
  middle s = middle_vector S (turn s c)

  abbrev end : ℕ → ℤ
  end s = end_vector S (turn s c)

  start-into : (s : ℕ) → start_into S (turn s c) ≡ corrected (first_term (k S c s) (k S c (suc s % 4)) (start s) (middle s)) (difference_of s 5 1)
  unfolding start_into
  start-into s =
      ap₂ (λ (d : ℕ) (x : ℤ). corrected (first_term (k S c s) (cosine_at S d) (start s) (middle s)) x) (turn-after s c)
      (difference-seen s 5 1 (omega arith) (omega arith))

  end-into : (s : ℕ) → end_into S (turn s c) ≡ corrected (second_term (k S c s) (k S c (suc s % 4)) (middle s) (end s)) (difference_of s 6 2)
  unfolding end_into
  end-into s =
      ap₂ (λ (d : ℕ) (x : ℤ). corrected (second_term (k S c s) (cosine_at S d) (middle s) (end s)) x) (turn-after s c)
      (difference-seen s 6 2 (omega arith) (omega arith))

  -- the same, along the side run back
  start-into-back : (s : ℕ)
      → start_into S (turn s c) ≡ corrected (second_term (k S c (suc s % 4)) (k S c s) (neg_ℤ (middle s)) (neg_ℤ (start s))) (difference_of s 5 1)
  start-into-back s =
      start-into s ∙ ap (λ (x : ℤ). corrected x (difference_of s 5 1)) (first_back (k S c s) (k S c (suc s % 4)) (start s) (middle s))

  end-into-back : (s : ℕ)
      → end_into S (turn s c) ≡ corrected (first_term (k S c (suc s % 4)) (k S c s) (neg_ℤ (end s)) (neg_ℤ (middle s))) (difference_of s 6 2)
  end-into-back s =
      end-into s ∙ ap (λ (x : ℤ). corrected x (difference_of s 6 2)) (second_back (k S c s) (k S c (suc s % 4)) (middle s) (end s))

  -- ---- the rows and columns in the middle
  along-rows : (j : ℕ) → j < 4 → u S c 1 j ≡ triple_difference (b S c 2 j) (b S c 1 j)
  unfolding tangent row_of vector
  along-rows zero l = middle-seen 0
  along-rows (suc zero) l = inner-seen 0
  along-rows (suc (suc zero)) l = ap neg_ℤ (inner-seen 2) ∙ triple-difference-back (b S c 1 2) (b S c 2 2)
  along-rows (suc (suc (suc zero))) l = ap neg_ℤ (middle-seen 2) ∙ triple-difference-back (b S c 1 3) (b S c 2 3)
  along-rows (suc (suc (suc (suc j)))) l = absurd (let bad : ⊥ = omega arith in bad)

  along-columns : (i : ℕ) → i < 4 → v S c i 1 ≡ triple_difference (b S c i 2) (b S c i 1)
  unfolding tangent row_of vector
  along-columns zero l = ap neg_ℤ (middle-seen 3) ∙ triple-difference-back (b S c 0 1) (b S c 0 2)
  along-columns (suc zero) l = ap neg_ℤ (inner-seen 3) ∙ triple-difference-back (b S c 1 1) (b S c 1 2)
  along-columns (suc (suc zero)) l = inner-seen 1
  along-columns (suc (suc (suc zero))) l = middle-seen 1
  along-columns (suc (suc (suc (suc i)))) l = absurd (let bad : ⊥ = omega arith in bad)

  -- ---- all 24
  pub as_written : AsWritten S c
  unfolding tangent row_of vector end_vector
  as_written = record {
    u00 = refl;
    u20 = refl;
    u03 = neg_ℤ-neg_ℤ (t' S c 2);
    u23 = refl;
    v00 = neg_ℤ-neg_ℤ (t' S c 3);
    v30 = refl;
    v02 = refl;
    v32 = refl;
    u1 = along-rows;
    v1 = along-columns;
    u01 = end-into-back 3;
    u02 = start-into-back 3;
    v10 = start-into 0;
    v20 = end-into 0;
    u21 = ap neg_ℤ (start-into 1);
    u22 = ap neg_ℤ (end-into 1);
    v12 = ap neg_ℤ (end-into-back 2);
    v22 = ap neg_ℤ (start-into-back 2);
  }
