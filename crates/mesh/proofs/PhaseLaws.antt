-- From the phases of the check to its answer: the first cause met, what the tables say of a cause, and what passed phases give.
use mathlib.Core.Path.{◌≡◌, refl, sym, ap, ◌∙◌}
use mathlib.Core.Bool.{Bool, true, false, ◌||◌}
use mathlib.Core.List.{List, [], ◌∷◌, ◌++◌}
use mathlib.Core.Option.{Option, none, some}
use Prim.Native.Nat.{ℕ, ◌+◌, ◌*◌, ◌≤◌, ◌<◌}
use native.Mathlib.Nat.{lt_of_lt_of_le}
use native.Mathlib.Omega.{arith}
use lib.Dec.{eqb, ltb}
use lib.ListN.{get_or}
use Rattle.finite.specs.Fold.{any_below, count_below, indicator}
use Rattle.finite.specs.Filled.{filled}
use Rattle.finite.proofs.FoldLaws.{bool_cases, fold-ext}
use Rattle.std.specs.Prelude.{Result, Ok, Err}
use Rattle.answer.specs.declared.refusal.Refusal.{Refusal}
use Rattle.answer.specs.Number.{number}
use Rattle.answer.specs.Table.{Row, row, first_met, result, refusal, answer_by, refused, refuse_by, met_or}
use Rattle.answer.proofs.TableLaws.{From, row-refused, row-let-through, last-row}
use Rattle.answer.proofs.TableLaws.{met-here, skipped, or_else, or_else-assoc, first-append, some-append, none-append}
use Rattle.limits.specs.Limits.{max_vertices, no_twin}
use Rattle.corner.specs.Corner.{next}
use Rattle.mesh.specs.HalfEdge.{twin, edges, boundaries, Simple}
use Rattle.mesh.specs.IndexedMesh.{IndexedMesh, corners, at}
use Rattle.mesh.specs.Refusal.{mesh_sizes_off, entry_rows, early_rows, late_rows}
use Rattle.mesh.specs.WellFormed.{MeshSized}
use Rattle.mesh.specs.Answer.{counts_of, mesh_refusal, mesh_answer, twins_after, given}
use Rattle.mesh.proofs.SizeLaws.{mesh-sizes-false, sized-indices, indices-corners}
use Rattle.mesh.proofs.EdgeLaws.{edges-lead, edges-twice}
use Rattle.mesh.proofs.AcceptedLaws.{early-unmet, vertex-false, twice-false, half-edge-false}
use Rattle.mesh.specs.Tables.{Holds, vertex_of, twin_of, Indices, Counted}

-- ---- what the table of valences says of 8, of the first v vertices
pub unused-table : (v : ℕ) → v ≤ max_vertices → (valences : List ℕ) (m : ℕ → ℕ) → Holds 0 valences max_vertices m
    → any_below (λ p. eqb (get_or valences p 0) 0) v ≡ any_below (λ p. eqb (m p) 0) v
unused-table v few valences m h = fold-ext false ◌||◌ v (λ p l. ap (λ (x : ℕ). eqb x 0) (h p (lt_of_lt_of_le l few)))

-- ---- the counts from the list of twins
module _ {faces twins : List ℕ} {v f : ℕ} (k : Counted faces twins v f) where
  pub edges-table : count_below (λ c. ltb c (twin_of twins c)) (4 * f) ≡ edges (vertex_of faces) (4 * f) v
  edges-table =
      fold-ext 0 ◌+◌ (4 * f) (λ c l. ap (λ (d : ℕ). indicator (ltb c d)) (k.twinned.twins-are c l))
      ∙ sym (edges-lead (vertex_of faces) (indices-corners k.twinned.indices) k.twinned.simple k.named k.ends)

  -- the boundary half-edges are what the edges leave over
  pub edges-left : (e : ℕ) → e ≡ count_below (λ c. ltb c (twin_of twins c)) (4 * f) → 4 * f + boundaries (vertex_of faces) (4 * f) ≡ 2 * e
  edges-left e q =
      edges-twice (vertex_of faces) (indices-corners k.twinned.indices) k.twinned.simple k.named k.ends
      ∙ ap (λ (t : ℕ). 2 * t) (sym (q ∙ edges-table))

-- ---- what the early phases give where they meet no cause
pub record Passed (M : IndexedMesh) : Type 0 where
  pub sized : MeshSized M
  pub indices : Indices M.indices (corners M)
  pub named : (c : ℕ) → c < corners M → at M c < M.vertices
  pub simple : Simple (at M) (corners M)
  pub ends : (c : ℕ) → c < corners M → at M (next c) ≡ at M c → ⊥

pub early-passed : (M : IndexedMesh) (own : List Row) → first_met (early_rows M own) ≡ none → (first_met own ≡ none) × Passed M
early-passed M own e =
    let u = early-unmet M own e in
    let s = mesh-sizes-false M u.sizes in
    let named = vertex-false M u.vertex in (
      u.rows,
      record {
        sized = s;
        indices = sized-indices M s named;
        named = named;
        simple = half-edge-false M u.half-edge;
        ends = λ c l. twice-false M u.twice c 0 l (omega arith);
      },
    )

-- ---- a row that the code checks by `refuse`, with a test that says the same
module _ {rows rest : List Row} {b cause : Bool} (r : Refusal) {got : Result Unit Refusal}
    (l : From rows (row b (number r) ∷ rest)) (asked : got ≡ refuse_by cause r) (same : cause ≡ b) where
  told : got ≡ refuse_by b r
  told = asked ∙ ap (λ (t : Bool). refuse_by t r) same

  -- it is met, and what is handed on is its refusal
  pub row-out : {e : Refusal} {out : Result Unit Refusal} → got ≡ Err e → out ≡ Err e → first_met rows ≡ refused out
  row-out h o = row-refused r l (sym told ∙ h) ∙ ap refused (sym o)

  pub row-on : {u : Unit {0}} → got ≡ Ok u → From rows rest
  row-on h = row-let-through r l (sym told ∙ h)

pub refuse-none : (b : Bool) (r : Refusal) → refused (refuse_by b r) ≡ none → b ≡ false
refuse-none true r e = cc
refuse-none false r e = refl

pub row-last : {rows : List Row} {b cause : Bool} (r : Refusal) {got : Result Unit Refusal}
    → From rows (row b (number r) ∷ []) → got ≡ refuse_by cause r → cause ≡ b → first_met rows ≡ refused got
row-last r l asked same = last-row r l ∙ ap refused (sym (asked ∙ ap (λ (t : Bool). refuse_by t r) same))

-- ---- a call's own row
-- one more row behind the call's own
pub given-or : (own : Result Unit Refusal) (cause : Bool) (r : Refusal)
    → first_met (given own ∷ (row cause (number r) ∷ [])) ≡ refused (met_or own cause r)
given-or (Ok done) true r = refl
given-or (Ok done) false r = refl
given-or (Err e) cause r = refl

-- ---- the answer and the list of twins, by where the first row met stands
module _ (M : IndexedMesh) (own : List Row) where
  module _ {k : ℕ} (early : first_met (early_rows M own) ≡ some k) where
    pub answer-early : refusal k ≡ mesh_answer M own []
    unfolding mesh_refusal
    answer-early = rw (some-append (early_rows M own) (late_rows M ++ []) early)

    pub twins-early : (d : List ℕ) → d ≡ twins_after M own [] d
    unfolding twins_after
    twins-early d = rw early

  module _ (early : first_met (early_rows M own) ≡ none) where
    answer-by : answer_by (first_met (late_rows M)) (counts_of M) ≡ mesh_answer M own []
    unfolding mesh_refusal
    answer-by = ap (λ (m : Option ℕ). answer_by m (counts_of M)) (sym (none-append (early_rows M own) (late_rows M ++ []) early))

    module _ {k : ℕ} (late : first_met (late_rows M) ≡ some k) where
      pub answer-late : refusal k ≡ mesh_answer M own []
      answer-late = sym (ap (λ (m : Option ℕ). answer_by m (counts_of M)) late) ∙ answer-by

      pub twins-late : (d : List ℕ) → filled (λ c. no_twin) (corners M) d ≡ twins_after M own [] d
      unfolding twins_after
      twins-late d = rw (early, late)

    module _ (late : first_met (late_rows M) ≡ none) where
      pub answer-accepted : result (counts_of M) ≡ mesh_answer M own []
      answer-accepted = sym (ap (λ (m : Option ℕ). answer_by m (counts_of M)) late) ∙ answer-by

      pub twins-accepted : (d : List ℕ) → filled (twin (at M) (corners M)) (corners M) d ≡ twins_after M own [] d
      unfolding twins_after
      twins-accepted d = rw (early, late)

-- ---- rows of a call's own that are met alike
module _ (M : IndexedMesh) (own own' : List Row) where
  -- where the sizes are off their ranges, no other row matters
  early-alike : (mesh_sizes_off M ≡ false → first_met own ≡ first_met own') → first_met (early_rows M own) ≡ first_met (early_rows M own')
  early-alike alike =
      bool_cases (mesh_sizes_off M)
      (λ e. met-here 1 _ e ∙ sym (met-here 1 _ e))
      (λ e.
      skipped 1 _ e ∙ first-append own (entry_rows M)
      ∙ ap (λ (m : Option ℕ). or_else m (first_met (entry_rows M))) (alike e)
      ∙ sym (skipped 1 _ e ∙ first-append own' (entry_rows M)))

  pub refusal-alike : (mesh_sizes_off M ≡ false → first_met own ≡ first_met own') → (after : List Row)
      → mesh_refusal M own after ≡ mesh_refusal M own' after
  unfolding mesh_refusal
  refusal-alike alike after =
      first-append (early_rows M own) (late_rows M ++ after)
      ∙ ap (λ (m : Option ℕ). or_else m (first_met (late_rows M ++ after))) (early-alike alike)
      ∙ sym (first-append (early_rows M own') (late_rows M ++ after))

  pub twins-alike : (mesh_sizes_off M ≡ false → first_met own ≡ first_met own') → (after : List Row) (d : List ℕ)
      → twins_after M own after d ≡ twins_after M own' after d
  unfolding twins_after
  twins-alike alike after d = rw (early-alike alike)

-- ---- rows of a call's own behind those of the mesh: they tell where no other row is met
pub refusal-split : (M : IndexedMesh) (own after : List Row) → mesh_refusal M own after ≡ or_else (mesh_refusal M own []) (first_met after)
unfolding mesh_refusal
refusal-split M own after =
    first-append (early_rows M own) (late_rows M ++ after)
    ∙ ap (or_else (first_met (early_rows M own))) (first-append (late_rows M) after)
    ∙ or_else-assoc (first_met (early_rows M own)) (first_met (late_rows M)) (first_met after)
    ∙ ap (λ (m : Option ℕ). or_else m (first_met after)) (sym (first-append (early_rows M own) (late_rows M ++ [])))

-- ---- a row of a call's own that is met where the sizes are in their ranges
pub refusal-own : (M : IndexedMesh) (own after : List Row) {k : ℕ} → mesh_sizes_off M ≡ false → first_met own ≡ some k → mesh_refusal M own after ≡ some k
unfolding mesh_refusal
refusal-own M own after sizes e = some-append (early_rows M own) (late_rows M ++ after) (skipped 1 _ sizes ∙ some-append own (entry_rows M) e)
