-- A face begun one corner later has the same vectors: its u are the v of the face as it was, and its v the u, reversed (rule D11).
use mathlib.Core.Path.{◌≡◌, refl, sym, ap, ◌∙◌}
use mathlib.Core.Bool.{Bool, true, false, not}
use Prim.Native.Nat.{ℕ, suc, ◌+◌, ◌-◌, ◌*◌, ◌/◌, ◌%◌, ◌<◌}
use native.Mathlib.Omega.{arith}
use lib.IntN.{ℤ, neg_ℤ, neg_ℤ-neg_ℤ}
use Rattle.finite.specs.Filled.{list_below}
use Rattle.finite.proofs.FilledLaws.{agree}
use Rattle.corner.specs.Corner.{turn, next}
use Rattle.mesh.proofs.CornerLaws.{turn-next, turn-mod}
use Rattle.patch.specs.Point.{View}
use Rattle.tangent.specs.Tangent.{VectorRow, row_of, signed, vector, tangent}
use Rattle.tangent.specs.Document.{u, v}

-- ---- rows
-- the vector of a row, in the face begun one corner later, is that of the row `later r` in the face as it was
abbrev later : VectorRow → VectorRow
later r = record { side = suc r.side % 4; kind = r.kind; reversed = r.reversed }

abbrev reverse : VectorRow → VectorRow
reverse r = record { side = r.side; kind = r.kind; reversed = not r.reversed }

-- the place of v(3 - j, i) for that of u(i, j), and of u(2 - j, i) for that of v(i, j) behind the twelve u
abbrev of_u : ℕ → ℕ
of_u m = 12 + (3 - m / 3) + 4 * (m % 3)

abbrev of_v : ℕ → ℕ
of_v m = (2 - m / 4) + 3 * (m % 4)

later-u : (m : ℕ) → m < 12 → later (row_of m) ≡ row_of (of_u m)
unfolding row_of list_below
later-u m l = agree (λ m. later (row_of m)) (λ m. row_of (of_u m)) 12 refl m l

later-v : (m : ℕ) → m < 12 → later (row_of (12 + m)) ≡ reverse (row_of (of_v m))
unfolding row_of list_below
later-v m l = agree (λ m. later (row_of (12 + m))) (λ m. reverse (row_of (of_v m))) 12 refl m l

-- ---- vectors
abbrev vector_by : View → ℕ → VectorRow → ℤ
vector_by S c r = signed r.reversed (vector S (turn r.side c) r.kind)

vector-later : (S : View) (c : ℕ) (r : VectorRow) → vector_by S (next c) r ≡ vector_by S c (later r)
vector-later S c r = ap (λ (d : ℕ). signed r.reversed (vector S d r.kind)) (turn-next r.side c ∙ sym (turn-mod (suc r.side) c))

signed-not : (x : Bool) (z : ℤ) → signed (not x) z ≡ neg_ℤ (signed x z)
signed-not true z = sym (neg_ℤ-neg_ℤ z)
signed-not false z = refl

pub u-turned : (S : View) (c i j : ℕ) → i < 3 → j < 4 → u S (next c) i j ≡ v S c (3 - j) i
unfolding tangent
u-turned S c i j x y =
    let e : of_u (i + 3 * j) ≡ 12 + (3 - j) + 4 * i = omega arith in
    vector-later S c (row_of (i + 3 * j)) ∙ ap (vector_by S c) (later-u (i + 3 * j) (omega arith)) ∙ ap (tangent S c) e

pub v-turned : (S : View) (c i j : ℕ) → i < 4 → j < 3 → v S (next c) i j ≡ neg_ℤ (u S c (2 - j) i)
unfolding tangent
v-turned S c i j x y =
    let e : 12 + i + 4 * j ≡ 12 + (i + 4 * j) = omega arith in
    let f : of_v (i + 4 * j) ≡ 2 - j + 3 * i = omega arith in
    let r : VectorRow = row_of (of_v (i + 4 * j)) in
    ap (tangent S (next c)) e
    ∙ vector-later S c (row_of (12 + (i + 4 * j)))
    ∙ ap (vector_by S c) (later-v (i + 4 * j) (omega arith))
    ∙ signed-not r.reversed (vector S (turn r.side c) r.kind)
    ∙ ap (λ (m : ℕ). neg_ℤ (tangent S c m)) f
