-- What a file that passes its own refusals is like, and what decoding answers and leaves in its lists.
use mathlib.Core.Path.{◌≡◌, ◌∙◌}
use mathlib.Core.Bool.{true, false}
use mathlib.Core.List.{List, [], ◌∷◌}
use mathlib.Core.Option.{none, some}
use Prim.Native.Nat.{ℕ, ◌+◌, ◌*◌, ◌≤◌, ◌<◌}
use lib.Dec.{eqb, ltb}
use lib.IntN.{ℤ}
use lib.ListN.{length}
use borrow.Author.Tests.{lt-ltb, le-ltb, eq-eqb, ne_eqb, ltb-false, eqb-true, not-false}
use Rattle.answer.specs.Table.{row, first_met}
use Rattle.finite.proofs.AnyAll.{or-false}
use Rattle.answer.proofs.TableLaws.{met-here, skipped, none-met, some-append, none-append}
use Rattle.limits.specs.Limits.{min_vertices, max_vertices, min_faces, max_faces}
use Rattle.limits.specs.Range.{off}
use Rattle.limits.proofs.RangeLaws.{off-false}
use Rattle.decoding.specs.File.{vertices, faces, header_short, header_off, length_off, file_rows}
use Rattle.decoding.specs.declared.model.Header.{Header}
use Rattle.decoding.specs.Decoding.{header_of, places_short, decode_refusal, Readable, MeshRead, FileDecoded}
use Rattle.std.specs.Prelude.{Result, Ok, Err}
use Rattle.answer.specs.declared.refusal.Refusal.{Refusal}
use Rattle.answer.specs.Number.{number}

-- ---- the first cause met, of those of the file
module _ (b : List ℕ) where
  pub rows-header : length b < 6 → first_met (file_rows b) ≡ some 15
  unfolding header_short
  rows-header l = rw (lt-ltb (length b) 6 l)

  module _ (long : 6 ≤ length b) where
    pub rows-vertices : off min_vertices max_vertices (vertices b) ≡ true → first_met (file_rows b) ≡ some 1
    unfolding header_short header_off
    rows-vertices e = rw (le-ltb (length b) 6 long, e)

    module _ (v : off min_vertices max_vertices (vertices b) ≡ false) where
      pub rows-faces : off min_faces max_faces (faces b) ≡ true → first_met (file_rows b) ≡ some 1
      unfolding header_short header_off
      rows-faces e = rw (le-ltb (length b) 6 long, v, e)

      module _ (f : off min_faces max_faces (faces b) ≡ false) where
        pub rows-length : (length b ≡ 6 + 13 * vertices b + 8 * faces b → ⊥) → first_met (file_rows b) ≡ some 15
        unfolding header_short header_off length_off
        rows-length e = rw (le-ltb (length b) 6 long, v, f, ne_eqb (length b) (6 + 13 * vertices b + 8 * faces b) e)

        pub rows_none : length b ≡ 6 + 13 * vertices b + 8 * faces b → first_met (file_rows b) ≡ none
        unfolding header_short header_off length_off
        rows_none e = rw (le-ltb (length b) 6 long, v, f, eq-eqb (length b) (6 + 13 * vertices b + 8 * faces b) e)

-- a file that meets none of them
pub record Whole (b : List ℕ) : Type 0 where
  pub vertices-low : min_vertices ≤ vertices b
  pub vertices-high : vertices b ≤ max_vertices
  pub faces-low : min_faces ≤ faces b
  pub faces-high : faces b ≤ max_faces
  pub length-is : length b ≡ 6 + 13 * vertices b + 8 * faces b

pub file-whole : (b : List ℕ) → first_met (file_rows b) ≡ none → Whole b
unfolding header_off length_off
file-whole b e =
    let h₁ = none-met (header_short b) 15 _ e in
    let h₂ = none-met (header_off b) 1 _ h₁.1 in
    let h₃ = none-met (length_off b) 15 none h₂.1 in
    let s = or-false (off min_vertices max_vertices (vertices b)) (off min_faces max_faces (faces b)) h₂.0 in
    let v = off-false min_vertices max_vertices (vertices b) s.0 in
    let f = off-false min_faces max_faces (faces b) s.1 in
    record {
      vertices-low = v.0;
      vertices-high = v.1;
      faces-low = f.0;
      faces-high = f.1;
      length-is = eqb-true (length b) (6 + 13 * vertices b + 8 * faces b) (not-false (eqb (length b) (6 + 13 * vertices b + 8 * faces b)) h₃.0);
    }

-- ---- the refusal of decoding
module _ (b : List ℕ) (p t i : ℕ) where
  pub decode-file : {k : ℕ} → first_met (file_rows b) ≡ some k → decode_refusal b p t i ≡ some k
  unfolding decode_refusal
  decode-file e = some-append (file_rows b) (row (places_short b p t i) 2 ∷ []) e

  module _ (passed : first_met (file_rows b) ≡ none) where
    pub decode-short : places_short b p t i ≡ true → decode_refusal b p t i ≡ some 2
    unfolding decode_refusal
    decode-short e = none-append (file_rows b) (row (places_short b p t i) 2 ∷ []) passed ∙ met-here 2 none e

    pub decode-read : places_short b p t i ≡ false → decode_refusal b p t i ≡ none
    unfolding decode_refusal
    decode-read e = none-append (file_rows b) (row (places_short b p t i) 2 ∷ []) passed ∙ skipped 2 none e

  -- a file that passes every test
  pub readable : Whole b → places_short b p t i ≡ false → Readable b p t i
  readable w e =
      let h₁ = or-false (ltb p (3 * vertices b)) _ e in
      let h₂ = or-false (ltb t (vertices b)) (ltb i (4 * faces b)) h₁.1 in
      record {
        vertices-few = w.vertices-high;
        faces-few = w.faces-high;
        length-is = w.length-is;
        positions-long = ltb-false p (3 * vertices b) h₁.0;
        tags-long = ltb-false t (vertices b) h₂.0;
        indices-long = ltb-false i (4 * faces b) h₂.1;
      }

-- ---- the answer of decoding and the lists
module _ (b : List ℕ) (p : List ℤ) (t i : List ℕ) where
  pub file-refused : {r : Result Header Refusal} (e : Refusal) → r ≡ Err e
      → decode_refusal b (length p) (length t) (length i) ≡ some (number e) → FileDecoded b p t i r p t i
  file-refused e q m = record { answer-is = rw (q, m); positions-are = rw m; tags-are = rw m; faces-are = rw m }

  pub file-decoded : {h : Header} {p' : List ℤ} {t' i' : List ℕ} → decode_refusal b (length p) (length t) (length i) ≡ none → h ≡ header_of b
      → MeshRead b p t i p' t' i' → FileDecoded b p t i (Ok h) p' t' i'
  file-decoded e q m = record { answer-is = rw (e, q); positions-are = rw e m.positions-are; tags-are = rw e m.tags-are; faces-are = rw e m.faces-are }
