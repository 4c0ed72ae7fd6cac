-- The printed lines: numbers in decimal, ASCII, with one blank between two, each line with its end (rule F5).
--
--   decimal n           the digits of n, with no zero in front
--   text z              with a '-' where z is below 0
--   words ts            texts with one blank between, and the line's end
--   counts_line, sample_line, refusal_line   V F E B (rule F6); face, a, b, x, y, z (rule F7); the word `refused` and the number (rule F8)
--   Printed t before after r   the text t was written to the front of a lent list of enough places, and r is its length; a list
--                       of fewer than `line_places` places was left as it was, and r is 0
use Rattle.std.specs.Prelude.{◌≡◌, Bool, true, false, cond, List, [], ◌∷◌, ◌++◌, ℕ, zero, suc, ◌+◌, ◌/◌, ◌%◌, ltb, ℤ, pos, negsuc, length, drop}

-- of an n below 10 ^ k
unfoldable pub digits : ℕ → ℕ → List ℕ
digits zero n = []
digits (suc k) n = cond (ltb n 10) ((48 + n) ∷ []) (digits k (n / 10) ++ ((48 + n % 10) ∷ []))

-- of an n below 10 ^ 20, as each 64-bit number is
abbrev pub decimal : ℕ → List ℕ
decimal n = digits 20 n

abbrev pub text : ℤ → List ℕ
text (pos n) = decimal n
text (negsuc n) = 45 ∷ decimal (suc n)

abbrev pub words : List (List ℕ) → List ℕ
words [] = 10 ∷ []
words (t ∷ []) = t ++ (10 ∷ [])
words (t ∷ (u ∷ ts)) = t ++ (32 ∷ words (u ∷ ts))

unfoldable pub counts_line : ℕ → ℕ → ℕ → ℕ → List ℕ
counts_line v f e b = words (decimal v ∷ (decimal f ∷ (decimal e ∷ (decimal b ∷ []))))

unfoldable pub sample_line : ℕ → ℕ → ℕ → ℤ → ℤ → ℤ → List ℕ
sample_line f a b x y z = words (decimal f ∷ (decimal a ∷ (decimal b ∷ (text x ∷ (text y ∷ (text z ∷ []))))))

-- the bytes of the word `refused`
unfoldable pub refusal_line : ℕ → List ℕ
refusal_line k = words ((114 ∷ 101 ∷ 102 ∷ 117 ∷ 115 ∷ 101 ∷ 100 ∷ []) ∷ (decimal k ∷ []))

-- enough for every line
abbrev pub line_places : ℕ
line_places = 128

abbrev pub printed_after : Bool → List ℕ → List ℕ → List ℕ
printed_after true t before = before
printed_after false t before = t ++ drop (length t) before

pub record Printed (t before after : List ℕ) (r : ℕ) : Type 0 where
  pub places : r ≡ cond (ltb (length before) line_places) 0 (length t)
  pub list : after ≡ printed_after (ltb (length before) line_places) t before
