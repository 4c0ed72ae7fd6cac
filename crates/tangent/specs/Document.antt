-- The 24 vectors as [LS], section 3, and rule D8 write them: in u and v with their two places, from the control values b(i,j) of the patch as it
-- stands, the corner vectors, and the cosines at the four corners. proofs/DocumentLaws.antt: the table of specs/Tangent.antt gives these, row by row.
--
--   u S c i j, v S c i j, b S c i j   one coordinate of a vector, and of a control value, of the face whose first corner is c
--   t S c s, t' S c s   the corner vectors at the two ends of side s, each from its end along the side
--   k S c s             the cosine at corner s
--   AsWritten S c       each of the 24 as it is written: eight at the corners, eight differences, four corrected vectors of u and four of v
use Rattle.std.specs.Prelude.{◌≡◌, ℕ, ◌+◌, ◌*◌, ◌<◌, ℤ, neg_ℤ}
use Rattle.corner.specs.Corner.{turn}
use Rattle.patch.specs.Point.{View}
use Rattle.patch.specs.Patch.{control_value}
use Rattle.tangent.specs.Vector.{twin_at, corner_vector, cosine_at, first_term, second_term, corrected, triple_difference}
use Rattle.tangent.specs.Tangent.{tangent}

abbrev pub u : View → ℕ → ℕ → ℕ → ℤ
u S c i j = tangent S c (i + 3 * j)

abbrev pub v : View → ℕ → ℕ → ℕ → ℤ
v S c i j = tangent S c (12 + i + 4 * j)

abbrev pub b : View → ℕ → ℕ → ℕ → ℤ
b S c i j = control_value S c (i + 4 * j)

abbrev pub t : View → ℕ → ℕ → ℤ
t S c s = corner_vector S (turn s c)

abbrev pub t' : View → ℕ → ℕ → ℤ
t' S c s = corner_vector S (twin_at S (turn s c))

abbrev pub k : View → ℕ → ℕ → ℤ
k S c s = cosine_at S (turn s c)

pub record AsWritten (S : View) (c : ℕ) : Type 0 where
  -- at the corners: from each end of a side, negated where u and v run the other way
  pub u00 : u S c 0 0 ≡ t S c 0
  pub u20 : u S c 2 0 ≡ neg_ℤ (t' S c 0)
  pub u03 : u S c 0 3 ≡ t' S c 2
  pub u23 : u S c 2 3 ≡ neg_ℤ (t S c 2)
  pub v00 : v S c 0 0 ≡ t' S c 3
  pub v30 : v S c 3 0 ≡ t S c 1
  pub v02 : v S c 0 2 ≡ neg_ℤ (t S c 3)
  pub v32 : v S c 3 2 ≡ neg_ℤ (t' S c 1)
  -- in the middle of each row and column
  pub u1 : (j : ℕ) → j < 4 → u S c 1 j ≡ triple_difference (b S c 2 j) (b S c 1 j)
  pub v1 : (i : ℕ) → i < 4 → v S c i 1 ≡ triple_difference (b S c i 2) (b S c i 1)
  -- corrected along the sides q0 q3 and q0 q1
  pub u01 : u S c 0 1 ≡ corrected (first_term (k S c 0) (k S c 3) (v S c 0 0) (v S c 0 1)) (triple_difference (b S c 1 1) (b S c 0 1))
  pub u02 : u S c 0 2 ≡ corrected (second_term (k S c 0) (k S c 3) (v S c 0 1) (v S c 0 2)) (triple_difference (b S c 1 2) (b S c 0 2))
  pub v10 : v S c 1 0 ≡ corrected (first_term (k S c 0) (k S c 1) (u S c 0 0) (u S c 1 0)) (triple_difference (b S c 1 1) (b S c 1 0))
  pub v20 : v S c 2 0 ≡ corrected (second_term (k S c 0) (k S c 1) (u S c 1 0) (u S c 2 0)) (triple_difference (b S c 2 1) (b S c 2 0))
  -- along the sides q1 q2 and q3 q2: from the side into the face, and negated
  pub u21 : u S c 2 1 ≡ neg_ℤ (corrected (first_term (k S c 1) (k S c 2) (v S c 3 0) (v S c 3 1)) (triple_difference (b S c 2 1) (b S c 3 1)))
  pub u22 : u S c 2 2 ≡ neg_ℤ (corrected (second_term (k S c 1) (k S c 2) (v S c 3 1) (v S c 3 2)) (triple_difference (b S c 2 2) (b S c 3 2)))
  pub v12 : v S c 1 2 ≡ neg_ℤ (corrected (first_term (k S c 3) (k S c 2) (u S c 0 3) (u S c 1 3)) (triple_difference (b S c 1 2) (b S c 1 3)))
  pub v22 : v S c 2 2 ≡ neg_ℤ (corrected (second_term (k S c 3) (k S c 2) (u S c 1 3) (u S c 2 3)) (triple_difference (b S c 2 2) (b S c 2 3)))
