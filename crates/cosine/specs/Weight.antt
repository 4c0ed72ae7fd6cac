-- The weights of the tangent along an edge of an inner vertex of n faces. Its edges are numbered around it from that one, 0, on; face i lies between
-- edges i and i + 1. The far end of each edge and the vertex across each face has a weight, 2^20 times that of [LS], equation (2), but for roundings.
--
--   chain c i            the recurrence of rule D2 for c = c(m): 2^20, c, and then 2 c / 2^20 times the last number, rounded, minus the one before it
--   multiple_cosine m i   C(m, i) (rule D2), of the two places i and m - i the one that comes first in the recurrence
--   half_cosine n         H, c(2n) (rule D3)
--   radicand n           2^42 + H^2
--   hypotenuse n         R, its root without the fraction behind it (rule D3; `hypotenuse-meets`, proofs/SizeLaws.antt)
--   divisor n            n R
--   edge_numerator n i    (R + H) C(n, i)
--   half_angles i         face i lies so many half angles on from edge 0, where an angle is that between two edges
--   face_numerator n i    2^20 C(2n, 2i + 1)
--   weighed n i          there is such a weight: n is from 3 to 16, and i below n
--   weight_by f n i       the weight with that numerator, f n i: the quotient, rounded once; 0 where there is no such weight (rules D4, D5)
--   edge_weight n i       A(n, i), with edge_numerator
--   face_weight n i       B(n, i), with face_numerator
--   weight_place n i      where the weight of n and i stands in its list: there are 16 places for each n
--   weights_by f          all the weights with that numerator, each at its place, and 0 where there is none (rule D6)
--   place_of n i         that place, where there is such a weight
--   listed xs n i        what such a list has for n and i, 0 where there is no such weight
--   all_weights           the two lists as the code has them
use Rattle.std.specs.Prelude.{Bool, cond, ◌&&◌, Option, Some, None, List, ℕ, zero, suc, ◌+◌, ◌-◌, ◌*◌}
use Rattle.std.specs.Prelude.{◌/◌, ◌%◌, ◌^◌, min, ltb, leb, ℤ, pos, nat_abs, ◌+ℤ◌, ◌-ℤ◌, ◌*ℤ◌, get_or}
use Rattle.integer.specs.Nearest.{nearest}
use Rattle.finite.specs.Filled.{list_below}
use Rattle.cosine.specs.declared.model.Weights.{Weights}
use Rattle.cosine.specs.Cosine.{scale, cosine}
use Rattle.cosine.specs.Root.{root}

unfoldable pub chain : ℤ → ℕ → ℤ
chain c zero = pos scale
chain c (suc zero) = c
chain c (suc (suc i)) = nearest (pos 2 *ℤ c *ℤ chain c (suc i)) scale -ℤ chain c i

unfoldable pub multiple_cosine : ℕ → ℕ → ℤ
multiple_cosine m i = chain (cosine m) (min i (m - i))

abbrev pub half_cosine : ℕ → ℤ
half_cosine n = cosine (2 * n)

abbrev pub radicand : ℕ → ℕ
radicand n = 2 ^ 42 + nat_abs (half_cosine n) * nat_abs (half_cosine n)

unfoldable pub hypotenuse : ℕ → ℕ
hypotenuse n = root 22 (radicand n)

abbrev pub divisor : ℕ → ℕ
divisor n = n * hypotenuse n

abbrev pub edge_numerator : ℕ → ℕ → ℤ
edge_numerator n i = (pos (hypotenuse n) +ℤ half_cosine n) *ℤ multiple_cosine n i

abbrev pub half_angles : ℕ → ℕ
half_angles i = 2 * i + 1

abbrev pub face_numerator : ℕ → ℕ → ℤ
face_numerator n i = pos scale *ℤ multiple_cosine (2 * n) (half_angles i)

abbrev pub weighed : ℕ → ℕ → Bool
weighed n i = leb 3 n && (leb n 16 && ltb i n)

unfoldable pub weight_by : (ℕ → ℕ → ℤ) → ℕ → ℕ → ℤ
weight_by numerator n i = cond (weighed n i) (nearest (numerator n i) (divisor n)) (pos 0)

abbrev pub edge_weight : ℕ → ℕ → ℤ
edge_weight n i = weight_by edge_numerator n i

abbrev pub face_weight : ℕ → ℕ → ℤ
face_weight n i = weight_by face_numerator n i

abbrev pub weight_place : ℕ → ℕ → ℕ
weight_place n i = 16 * (n - 3) + i

abbrev pub place_of : ℕ → ℕ → Option ℕ
place_of n i = cond (weighed n i) (Some (weight_place n i)) None

unfoldable pub weights_by : (ℕ → ℕ → ℤ) → List ℤ
weights_by numerator = list_below (λ k. weight_by numerator (3 + k / 16) (k % 16)) 224

abbrev pub listed : List ℤ → ℕ → ℕ → ℤ
listed weights n i = cond (weighed n i) (get_or weights (weight_place n i) (pos 0)) (pos 0)

abbrev pub all_weights : Weights
all_weights = record { edge = weights_by edge_numerator; face = weights_by face_numerator }
