-- From the answers of decoding and of the mesh calls to that of opening a file.
use mathlib.Core.Path.{◌≡◌, refl, sym, ap, ◌∙◌, subst}
use mathlib.Core.Bool.{true, false, ◌||◌, or_comm}
use mathlib.Core.List.{List, [], ◌∷◌, ◌++◌}
use mathlib.Core.Option.{Option, none, some}
use Prim.Native.Nat.{ℕ, ◌*◌, ◌≤◌}
use native.Mathlib.Omega.{arith}
use lib.IntN.{ℤ}
use lib.ListN.{length, take, length-append, length-replicate, replicate}
use borrow.Author.Tests.{le-ltb}
use Rattle.finite.specs.Filled.{list_below, filled}
use Rattle.std.specs.Prelude.{Result, Ok, Err}
use Rattle.answer.specs.declared.refusal.Refusal.{Refusal}
use Rattle.answer.specs.Number.{number}
use Rattle.answer.specs.Table.{Row, row, first_met, result, answered}
use Rattle.finite.proofs.FilledLaws.{length-list_below, take-filled}
use Rattle.answer.proofs.TableLaws.{met-here, skipped, or_else, or_else-none, some-append, none-append, append-none, none-met, result-none, refusal-met}
use Rattle.limits.specs.Limits.{max_vertices, max_faces}
use Rattle.limits.proofs.RangeLaws.{off-false}
use Rattle.sample.specs.Refusal.{min_steps, max_steps}
use Rattle.mesh.specs.IndexedMesh.{IndexedMesh, indexed, corners}
use Rattle.mesh.specs.Refusal.{early_rows, late_rows}
use Rattle.mesh.specs.WellFormed.{MeshSized}
use Rattle.mesh.specs.Answer.{mesh_refusal, twins_short}
use Rattle.mesh.proofs.AcceptedLaws.{sizes-none}
use Rattle.mesh.proofs.PhaseLaws.{refusal-alike, refusal-split, refusal-own}
use Rattle.patch.specs.Answer.{patches_short, marks_short, lent, patch_rows}
use Rattle.decoding.specs.File.{vertices, faces, steps, position_at, tag_at, index_at, mesh_of, file_rows}
use Rattle.decoding.specs.declared.model.Header.{Header}
use Rattle.meshfile.specs.declared.model.Tessellation.{Tessellation}
use Rattle.decoding.specs.Decoding.{header_of, places_short, decode_refusal, FileDecoded}
use Rattle.meshfile.specs.Answer.{steps_off, open_refusal, FileOpened}
use Rattle.meshfile.specs.Tessellated.{tessellate_refusal, Tessellated}
use Rattle.decoding.proofs.FileLaws.{Whole, file-whole, decode-file, decode-read}

-- the rows that opening adds to those of the mesh: 2 for the patch list, 14 for N
abbrev list_row : IndexedMesh → List ℤ → List Row
list_row M d = row (patches_short M d) 2 ∷ []

abbrev steps_row : ℕ → List Row
steps_row n = row (steps_off n) 14 ∷ []

-- the lists that the code keeps and lends to the patch call: of twins, and of marks
abbrev pub no-twins : List ℕ
no-twins = replicate (4 * max_faces) 0

abbrev pub no-marks : List ℕ
no-marks = replicate (16 * max_faces) 0

-- ---- the mesh and its N
module _ (M : IndexedMesh) (n : ℕ) (d : List ℤ) where
  pub refused-mesh : {r : Result Tessellation Refusal} (e : Refusal) → r ≡ Err e → tessellate_refusal M n d ≡ some (number e) → Tessellated M n d r d
  refused-mesh e q m = record { answer-is = rw (q, m); patches-are = rw m }

  -- the patch list is too short
  pub patches-short : MeshSized M → patches_short M d ≡ true → tessellate_refusal M n d ≡ some 2
  patches-short s e = refusal-own M (list_row M d) (steps_row n) (sizes-none s) (rw e)

  -- N is off its range: the refusal is that of the check of the mesh alone, else 14
  pub steps-off : patches_short M d ≡ false → steps_off n ≡ true → {o : Option ℕ} → mesh_refusal M (row false 0 ∷ []) [] ≡ o
      → tessellate_refusal M n d ≡ or_else o (some 14)
  steps-off long off e =
      refusal-split M (list_row M d) (steps_row n)
      ∙ ap (or_else (mesh_refusal M (list_row M d) [])) (met-here 14 none off)
      ∙ ap (λ (m : Option ℕ). or_else m (some 14)) (refusal-alike M (list_row M d) (row false 0 ∷ []) (λ _. skipped 2 none long) [] ∙ e)

  -- the two lists that the code keeps, of twins and of marks, are long enough for every mesh
  twins-enough : M.faces ≤ max_faces → twins_short M no-twins ≡ false
  twins-enough few = le-ltb (length no-twins) (corners M) (omega (arith, few, length-replicate {A = ℕ} (4 * max_faces) 0))

  marks-enough : M.faces ≤ max_faces → marks_short M no-marks ≡ false
  marks-enough few = le-ltb (length no-marks) (16 * M.faces) (omega (arith, few, length-replicate {A = ℕ} (16 * max_faces) 0))

  -- N is in its range: of the lists only the patch list can be too short
  pub steps_on : M.faces ≤ max_faces → steps_off n ≡ false → tessellate_refusal M n d ≡ mesh_refusal M (patch_rows M (lent no-twins d no-marks)) []
  steps_on few on =
      refusal-split M (list_row M d) (steps_row n)
      ∙ ap (or_else (mesh_refusal M (list_row M d) [])) (skipped 14 none on)
      ∙ or_else-none (mesh_refusal M (list_row M d) [])
      ∙ sym (refusal-alike M (patch_rows M (lent no-twins d no-marks)) (list_row M d) (λ _. rw (twins-enough few, marks-enough few, only-patches)) [])
    where
      only-patches : (patches_short M d || false) ≡ patches_short M d
      only-patches = or_comm (patches_short M d) false

-- ---- what decoding into lists that are long enough for every file says of the file
places-enough : (b : List ℕ) (p t i : ℕ) → 3 * max_vertices ≤ p → max_vertices ≤ t → 4 * max_faces ≤ i → Whole b → places_short b p t i ≡ false
places-enough b p t i lp lt li w =
    let positions = le-ltb p (3 * vertices b) (omega (arith, w.vertices-high)) in
    let tags = le-ltb t (vertices b) (omega (arith, w.vertices-high)) in
    let indices = le-ltb i (4 * faces b) (omega (arith, w.faces-high)) in
    rw (positions, tags, indices)

-- a file that was read, with the sizes that were handed on, and the lists afterwards
pub record FileRead (b : List ℕ) (p : List ℤ) (t i : List ℕ) (h : Header) (p' : List ℤ) (t' i' : List ℕ) : Type 0 where
  pub passed : first_met (file_rows b) ≡ none
  pub header_is : h ≡ header_of b
  pub positions-are : p' ≡ filled (position_at b) (3 * vertices b) p
  pub tags-are : t' ≡ filled (tag_at b) (vertices b) t
  pub faces-are : i' ≡ filled (index_at b) (4 * faces b) i

module _ (b : List ℕ) (p : List ℤ) (t i : List ℕ) where
  pub file-read : {h : Header} {p' : List ℤ} {t' i' : List ℕ} → FileDecoded b p t i (Ok h) p' t' i' → FileRead b p t i h p' t' i'
  unfolding decode_refusal
  file-read s =
      let r = result-none (decode_refusal b (length p) (length t) (length i)) s.answer-is in
      record {
        passed = (append-none (file_rows b) (row (places_short b (length p) (length t) (length i)) 2 ∷ []) r.0).0;
        header_is = r.1;
        positions-are = s.positions-are ∙ rw r.0;
        tags-are = s.tags-are ∙ rw r.0;
        faces-are = s.faces-are ∙ rw r.0;
      }

  -- a file that decoding refused: its lists are long enough for every file
  pub file-turned-down : {e : Refusal} {p' : List ℤ} {t' i' : List ℕ} → 3 * max_vertices ≤ length p → max_vertices ≤ length t → 4 * max_faces ≤ length i
      → FileDecoded b p t i (Err e) p' t' i' → first_met (file_rows b) ≡ some (number e)
  file-turned-down {e = e} lp lt li s =
      by_cases (first_met (file_rows b))
      (λ q. absurd (apart (sym met ∙ decode-read b (length p) (length t) (length i) q (enough q))))
      (λ j q. q ∙ sym (decode-file b (length p) (length t) (length i) q) ∙ met)
    where
      enough : first_met (file_rows b) ≡ none → places_short b (length p) (length t) (length i) ≡ false
      enough q = places-enough b (length p) (length t) (length i) lp lt li (file-whole b q)

      met : decode_refusal b (length p) (length t) (length i) ≡ some (number e)
      met = refusal-met (header_of b) (decode_refusal b (length p) (length t) (length i)) s.answer-is

      apart : {k : ℕ} → some k ≡ none → ⊥
      apart q = let z : ◌≡◌ {A = ℕ} 0 1 = cc in absurd (omega arith)

      by_cases : {C : Type 0} (o : Option ℕ) → (o ≡ none → C) → ((j : ℕ) → o ≡ some j → C) → C
      by_cases none f g = f refl
      by_cases (some j) f g = g j refl

-- ---- opening: the rows behind those of the file
abbrev rows_after : List ℕ → List ℤ → List Row
rows_after b d = early_rows (mesh_of b) (list_row (mesh_of b) d) ++ (late_rows (mesh_of b) ++ steps_row (steps b))

module _ (b : List ℕ) (d : List ℤ) where
  pub open-refused : {r : Result Tessellation Refusal} (e : Refusal) → r ≡ Err e → first_met (file_rows b) ≡ some (number e) → FileOpened b d r d
  unfolding open_refusal
  open-refused e q m =
      let met : open_refusal b d ≡ some (number e) = some-append (file_rows b) (rows_after b d) m in
      record { answer-is = rw (q, met); patches-are = rw met }

  open-read : first_met (file_rows b) ≡ none → {r : Result Tessellation Refusal} {d' : List ℤ} → Tessellated (mesh_of b) (steps b) d r d' → FileOpened b d r d'
  unfolding open_refusal mesh_refusal
  open-read e {r} {d'} s =
      let same : open_refusal b d ≡ tessellate_refusal (mesh_of b) (steps b) d = none-append (file_rows b) (rows_after b d) e in
      record { answer-is = rw same s.answer-is; patches-are = rw same s.patches-are }

  pub open-mesh : first_met (file_rows b) ≡ none → {M : IndexedMesh} {n : ℕ} → M ≡ mesh_of b → n ≡ steps b
      → {r : Result Tessellation Refusal} {d' : List ℤ} → Tessellated M n d r d' → FileOpened b d r d'
  open-mesh e {M} {n} q w {r} {d'} s =
      open-read e (subst (λ (m : ℕ). Tessellated (mesh_of b) m d r d') w (subst (λ (N : IndexedMesh). Tessellated N n d r d') q s))

-- ---- the mesh that is handed on: the parts of the lists that decoding wrote
module _ {A : Type 0} (f : ℕ → A) (n : ℕ) (d xs : List A) (is : xs ≡ filled f n d) where
  pub part-fits : n ≤ length xs
  unfolding filled list_below
  part-fits = rw (is, length-append, length-list_below) (omega arith)

  part-is : take n xs ≡ list_below f n
  part-is = rw is (take-filled f n d)

pub mesh-is : (b : List ℕ) {p p' : List ℤ} {t t' i i' : List ℕ} {h : Header} → FileRead b p t i h p' t' i'
    → indexed h.vertices h.faces (take (3 * h.vertices) p') (take h.vertices t') (take (4 * h.faces) i') ≡ mesh_of b
unfolding mesh_of
mesh-is b {p} {p'} {t} {t'} {i} {i'} r =
    let positions = part-is (position_at b) (3 * vertices b) p p' r.positions-are in
    let tags = part-is (tag_at b) (vertices b) t t' r.tags-are in
    let indices = part-is (index_at b) (4 * faces b) i i' r.faces-are in
    rw (r.header_is, positions, tags, indices)

pub whole-sized : (b : List ℕ) → Whole b → MeshSized (mesh_of b)
unfolding mesh_of
whole-sized b w = record {
  vertices-low = w.vertices-low;
  vertices-high = w.vertices-high;
  faces-low = w.faces-low;
  faces-high = w.faces-high;
  positions-are = length-list_below (position_at b) (3 * vertices b);
  tags-are = length-list_below (tag_at b) (vertices b);
  indices-are = length-list_below (index_at b) (4 * faces b);
}

-- ---- what opening gives: F and N of an accepted file are within their upper limits
pub opened-within : {b : List ℕ} {d d' : List ℤ} {r : Result Tessellation Refusal} {t : Tessellation} → FileOpened b d r d' → answered r ≡ result t
    → (t.mesh.faces ≤ max_faces) × (t.steps ≤ max_steps)
unfolding open_refusal mesh_of
opened-within {b} {d} s e =
    let given = result-none (open_refusal b d) (sym e ∙ s.answer-is) in
    let file = append-none (file_rows b) (rows_after b d) given.0 in
    let early = append-none (early_rows (mesh_of b) (list_row (mesh_of b) d)) (late_rows (mesh_of b) ++ steps_row (steps b)) file.1 in
    let late = append-none (late_rows (mesh_of b)) (steps_row (steps b)) early.1 in
    let on = off-false min_steps max_steps (steps b) (none-met (steps_off (steps b)) 14 none late.1).0 in
    rw given.1 ((file-whole b file.0).faces-high, on.1)
