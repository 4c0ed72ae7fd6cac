-- What decoding a file answers and leaves in the lists that it is lent, whatever it is passed.
--
--   header_of b           the sizes V, F, N of the file b
--   decode_refusal b p t i   the refusal that decoding meets, which is lent lists of p, t and i places: those of the file, then 2 where one of
--                        the lists is too short (rules R2 and R3)
--   Readable b p t i     the file b meets none of these
--   MeshRead ..          the three lists afterwards: the numbers of the file at their front, and behind them what they held
--   FileDecoded ..       what decoding answers, and the three lists afterwards: the numbers of the file at their front, or as they were
use Rattle.std.specs.Prelude.{◌≡◌, Bool, ◌||◌, List, [], ◌∷◌, ◌++◌, ℕ, ◌+◌, ◌*◌, ◌≤◌, ltb, ℤ, length, Result}
use Rattle.std.proofs.Math.Option.{Option}
use Rattle.finite.specs.Filled.{filled}
use Rattle.answer.specs.Table.{row, first_met, answer_by, written_by, answered}
use Rattle.answer.specs.declared.refusal.Refusal.{Refusal}
use Rattle.limits.specs.Limits.{max_vertices, max_faces}
use Rattle.decoding.specs.File.{vertices, faces, steps, position_at, tag_at, index_at, file_rows}
use Rattle.decoding.specs.declared.model.Header.{Header}

abbrev pub header_of : List ℕ → Header
header_of b = record { vertices = vertices b; faces = faces b; steps = steps b }

-- a lent list has too few places for the file
abbrev pub places_short : List ℕ → ℕ → ℕ → ℕ → Bool
places_short b p t i = ltb p (3 * vertices b) || (ltb t (vertices b) || ltb i (4 * faces b))

unfoldable pub decode_refusal : List ℕ → ℕ → ℕ → ℕ → Option ℕ
decode_refusal b p t i = first_met (file_rows b ++ (row (places_short b p t i) 2 ∷ []))

pub record Readable (b : List ℕ) (p t i : ℕ) : Type 0 where
  pub vertices-few : vertices b ≤ max_vertices
  pub faces-few : faces b ≤ max_faces
  pub length-is : length b ≡ 6 + 13 * vertices b + 8 * faces b
  pub positions-long : 3 * vertices b ≤ p
  pub tags-long : vertices b ≤ t
  pub indices-long : 4 * faces b ≤ i

pub record MeshRead (b : List ℕ) (p : List ℤ) (t i : List ℕ) (p' : List ℤ) (t' i' : List ℕ) : Type 0 where
  pub positions-are : p' ≡ filled (position_at b) (3 * vertices b) p
  pub tags-are : t' ≡ filled (tag_at b) (vertices b) t
  pub faces-are : i' ≡ filled (index_at b) (4 * faces b) i

pub record FileDecoded (b : List ℕ) (p : List ℤ) (t i : List ℕ) (r : Result Header Refusal) (p' : List ℤ) (t' i' : List ℕ) : Type 0 where
  pub answer-is : answered r ≡ answer_by (decode_refusal b (length p) (length t) (length i)) (header_of b)
  pub positions-are : p' ≡ written_by (decode_refusal b (length p) (length t) (length i)) p (filled (position_at b) (3 * vertices b) p)
  pub tags-are : t' ≡ written_by (decode_refusal b (length p) (length t) (length i)) t (filled (tag_at b) (vertices b) t)
  pub faces-are : i' ≡ written_by (decode_refusal b (length p) (length t) (length i)) i (filled (index_at b) (4 * faces b) i)
