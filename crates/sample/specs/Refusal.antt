-- When the sample call and the reading say no: they know the rows 12, 13 and 14 (rule R2), in this order (rule R3).
use Rattle.std.specs.Prelude.{Bool, ◌||◌, List, [], ◌∷◌, ℕ, ◌+◌, ◌*◌, ltb, ℤ, pos, nat_abs, length, get_or}
use Rattle.finite.specs.Fold.{any_below}
use Rattle.answer.specs.Table.{Row, row}

-- the largest magnitude of a control value: 256 times the coordinate limit of a mesh (rule B3)
abbrev pub max_control : ℕ
max_control = 268435456

-- the range of N (rule S1)
abbrev pub min_steps : ℕ
min_steps = 1

abbrev pub max_steps : ℕ
max_steps = 32

-- 12: 48f + 48 is above the length of the patch list
unfoldable pub face_off : List ℤ → ℕ → Bool
face_off patches f = ltb (length patches) (48 * f + 48)

-- 13: one of the 48 control values of face f is beyond the limit
unfoldable pub control_off : List ℤ → ℕ → Bool
control_off patches f = any_below (λ i. ltb max_control (nat_abs (get_or patches (48 * f + i) (pos 0)))) 48

-- 14: N is off its range, or one of a and b is above N
unfoldable pub place_off : ℕ → ℕ → ℕ → Bool
place_off n a b = ltb n min_steps || (ltb max_steps n || (ltb n a || ltb n b))

abbrev pub sample_rows : List ℤ → ℕ → ℕ → ℕ → ℕ → List Row
sample_rows patches f n a b = row (face_off patches f) 12 ∷ (row (control_off patches f) 13 ∷ (row (place_off n a b) 14 ∷ []))
