-- The six tangent vectors of a side of a face, of one coordinate. Half-edge c is the side, and the face is seen from there: the control values of
-- its patch are numbered with c as the first corner, so the side has the values 0 to 3, and the row behind it 4 to 7.
--
--   turned S c i       the corner i steps about its vertex from corner c: its half-edge is edge i of the vertex, its face is face i (rule D4)
--   tangent_term S c i  what edge i and face i add: the far end of the edge, with its weight A(n, i), and the vertex across, with B(n, i)
--   corner_vector S c   the corner vector along half-edge c, at its start: 256/2^20 times the sum of the n terms, rounded once (rule D7)
--   end_vector S c      at the end of the half-edge, still along it: the corner vector of the twin, negated (rule D7)
--   triple_difference y z   three times the difference of two numbers
--   control_difference S c m l   three times the difference of two control values
--   middle_vector S c   from the edge point near the start to the one near the end (rule D8)
--   inner_vector S c    from the inner point near the start to the one near the end (rule D8)
--   cosine_at S c       the cosine c(n) of the vertex of corner c (rule D1)
--   first_term, second_term   the cosine term of a corrected vector, near the start and near the end of a side, times 3 * 2^20: k0 and k1 are the
--                      cosines at its ends; u0, u1 and u2 are its start, middle and end vectors (rule D8)
--   corrected t x      the corrected vector with the cosine term t and the difference x, over one divisor and rounded once (rule D8)
--   start_into S c      from the side into the face, near its start: the difference is from the edge point to the inner point (rule D8)
--   end_into S c        the same near its end (rule D8)
use Rattle.std.specs.Prelude.{ℕ, ◌*◌, ℤ, pos, neg_ℤ, ◌+ℤ◌, ◌-ℤ◌, ◌*ℤ◌}
use Rattle.integer.specs.Nearest.{nearest}
use Rattle.finite.specs.Fold.{sum_below_ℤ}
use Rattle.corner.specs.Corner.{next, across}
use Rattle.mesh.specs.HalfEdge.{twin}
use Rattle.mesh.specs.Fan.{around, iterate}
use Rattle.cosine.specs.Cosine.{scale, cosine}
use Rattle.cosine.specs.Weight.{edge_weight, face_weight}
use Rattle.patch.specs.Point.{View, x, valence_at}
use Rattle.patch.specs.Patch.{control_value}

-- the twin of half-edge c, and the number of faces at the vertex of corner c
abbrev pub twin_at : View → ℕ → ℕ
twin_at S c = twin S.shape.at S.shape.n c

abbrev pub faces_at : View → ℕ → ℕ
faces_at S c = valence_at S.shape (S.shape.at c)

abbrev pub turned : View → ℕ → ℕ → ℕ
turned S c i = iterate (around (twin S.shape.at S.shape.n) S.shape.n) i c

abbrev pub tangent_term : View → ℕ → ℕ → ℤ
tangent_term S c i = edge_weight (faces_at S c) i *ℤ x S (next (turned S c i)) +ℤ face_weight (faces_at S c) i *ℤ x S (across (turned S c i))

unfoldable pub corner_vector : View → ℕ → ℤ
corner_vector S c = nearest (pos 256 *ℤ sum_below_ℤ (tangent_term S c) (faces_at S c)) scale

unfoldable pub end_vector : View → ℕ → ℤ
end_vector S c = neg_ℤ (corner_vector S (twin_at S c))

abbrev pub triple_difference : ℤ → ℤ → ℤ
triple_difference y z = pos 3 *ℤ (y -ℤ z)

abbrev pub control_difference : View → ℕ → ℕ → ℕ → ℤ
control_difference S c m l = triple_difference (control_value S c m) (control_value S c l)

unfoldable pub middle_vector : View → ℕ → ℤ
middle_vector S c = control_difference S c 2 1

unfoldable pub inner_vector : View → ℕ → ℤ
inner_vector S c = control_difference S c 6 5

abbrev pub cosine_at : View → ℕ → ℤ
cosine_at S c = cosine (faces_at S c)

abbrev pub corrected_divisor : ℕ
corrected_divisor = 3 * scale

abbrev pub first_term : ℤ → ℤ → ℤ → ℤ → ℤ
first_term k0 k1 u0 u1 = pos 2 *ℤ k0 *ℤ u1 -ℤ k1 *ℤ u0

abbrev pub second_term : ℤ → ℤ → ℤ → ℤ → ℤ
second_term k0 k1 u1 u2 = k0 *ℤ u2 -ℤ pos 2 *ℤ k1 *ℤ u1

abbrev pub corrected : ℤ → ℤ → ℤ
corrected t x = nearest (t +ℤ pos corrected_divisor *ℤ x) corrected_divisor

-- the cosine terms of half-edge c
abbrev pub start_term : View → ℕ → ℤ
start_term S c = first_term (cosine_at S c) (cosine_at S (next c)) (corner_vector S c) (middle_vector S c)

abbrev pub end_term : View → ℕ → ℤ
end_term S c = second_term (cosine_at S c) (cosine_at S (next c)) (middle_vector S c) (end_vector S c)

unfoldable pub start_into : View → ℕ → ℤ
start_into S c = corrected (start_term S c) (control_difference S c 5 1)

unfoldable pub end_into : View → ℕ → ℤ
end_into S c = corrected (end_term S c) (control_difference S c 6 2)
