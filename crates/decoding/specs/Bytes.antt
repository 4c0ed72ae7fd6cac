-- Numbers of several bytes, low byte first (rule F1).
--
--   le16 b i, le32 b i   the number of the two, or four, bytes from place i on
--   Each P i xs           P holds of i and the first of xs, of i + 1 and the second, and so on
--   signed32 n           n read in two's complement of 32 bits: n below 2^31, n - 2^32 from there on
use Rattle.std.specs.Prelude.{cond, List, [], ◌∷◌, ℕ, suc, ◌+◌, ◌-◌, ◌*◌, ◌^◌, ltb, ℤ, pos, negsuc, get_or}

abbrev pub le16 : List ℕ → ℕ → ℕ
le16 b i = get_or b i 0 + 256 * get_or b (i + 1) 0

abbrev pub le32 : List ℕ → ℕ → ℕ
le32 b i = le16 b i + 65536 * le16 b (i + 2)

abbrev pub signed32 : ℕ → ℤ
signed32 n = cond (ltb n (2 ^ 31)) (pos n) (negsuc (2 ^ 32 - 1 - n))

abbrev pub Each : {A : Type 0} → (ℕ → A → Type 0) → ℕ → List A → Type 0
Each P i [] = Unit {0}
Each P i (x ∷ xs) = P i x × Each P (suc i) xs
