-- Circulating from a corner by the listed twins tells how many faces its vertex has, or that it is on the boundary; and so it does for the four corners
-- of a face.
--
--   Circling met on   the walk on from a corner has met so many corners, and `on` is the one after them, if one is
--   corner-open s     corner s of the face is at a boundary vertex
use mathlib.Core.Path.{◌≡◌, refl, sym, ap, ◌∙◌}
use mathlib.Core.Bool.{Bool, true, false}
use mathlib.Core.List.{List}
use Prim.Native.Nat.{ℕ, ◌+◌, ◌-◌, ◌*◌, ◌%◌, ◌<◌}
use native.Mathlib.Omega.{arith}
use lib.ListN.{length}
use borrow.Author.Tests.{eqb-true}
use Rattle.std.specs.Prelude.{is_none}
use Rattle.std.proofs.Common.{add-zero, Option, Some, None, ◌∷◌, []}
use Rattle.finite.specs.Fold.{fold_below}
use Rattle.finite.specs.Filled.{list_below}
use Rattle.finite.proofs.AnyAll.{any_false, any-hit}
use Rattle.finite.proofs.FoldLaws.{bool_cases}
use Rattle.corner.specs.Corner.{prev}
use Rattle.mesh.specs.Fan.{valence, on_boundary, around}
use Rattle.mesh.specs.Tables.{Corners, vertex_of, twin_of}
use Rattle.mesh.specs.Walk.{corner_of}
use Rattle.mesh.specs.Circulation.{Paired}
use Rattle.mesh.proofs.CornerLaws.{prev-below}
use Rattle.mesh.proofs.CirculationLaws.{around-in}
use Rattle.mesh.proofs.WalkLaws.{Onward, onward-start, onward-in, onward-more, onward-less, onward-closed, onward-open, run-closed}
use Rattle.mesh.proofs.ConnectedLaws.{corners-whole, twins-paired, fan-told, boundary-told}
use Rattle.control.specs.Control.{link_at}
use Rattle.tangent.specs.Lists.{Fanned, ring_in, open_in, valences_in, valences_asked}

module _ {faces twins : List ℕ} (k : Fanned faces twins) where
  abbrev n : ℕ
  n = length faces

  abbrev tw : ℕ → ℕ
  tw = twin_of twins

  whole : Corners n
  whole = corners-whole k.twinned

  paired : Paired tw n
  paired = twins-paired k.twinned

  -- a step by the table
  step-told : (e : ℕ) → e < length faces → link_at twins (prev e) ≡ around (twin_of twins) (length faces) e
  step-told e l =
      let q : prev e % 1024 ≡ prev e = omega (arith, prev-below whole e l, k.twinned.indices.few) in
      ap tw q ∙ sym (around-in tw n e l)

  module _ (c : ℕ) (l : c < length faces) where
    -- ---- the walk on from c
    abbrev pub Circling : ℕ → Option ℕ → Type 0
    Circling met on = Onward (twin_of twins) (length faces) c met on

    pub met-first : (on : Option ℕ) → on ≡ corner_of (link_at twins (prev c)) → Circling 1 on
    met-first on e = onward-start whole paired c l on (e ∙ ap corner_of (step-told c l))

    module _ (met : ℕ) (on : Option ℕ) (o : ℕ) (w : Circling met on) (some : on ≡ Some o) where
      pub met-more : (on' : Option ℕ) → (o ≡ c → ⊥) → on' ≡ corner_of (link_at twins (prev o)) → Circling (met + 1) on'
      met-more on' a e =
          onward-more whole paired c l met on o w some on' a (e ∙ ap corner_of (step-told o (onward-in whole paired c l met on o w some)))

      pub met_less : (o ≡ c → ⊥) → length faces - (met + 1) < length faces - met
      met_less a = onward-less whole paired c l met on o w some a

      -- ---- where it ends
      pub met-back : o ≡ c → Some met ≡ ring_in faces c
      met-back e =
          let p = vertex_of faces c in
          let run = onward-closed whole paired c l met on o w some e in
          let inside = boundary-told k.twinned c p refl met true run (k.fans c l) in
          let all = fan-told k.twinned c p refl met (run-closed whole paired c l met run) ∙ k.fans c l in
          rw (sym inside) (ap Some (eqb-true met (valence (vertex_of faces) n p) all))

    pub met-none : (met : ℕ) (on : Option ℕ) → Circling met on → on ≡ None → None ≡ ring_in faces c
    met-none met on w e =
        let p = vertex_of faces c in
        let run = onward-open whole paired c l met on w e in
        rw (sym (boundary-told k.twinned c p refl met false run (k.fans c l)))

-- ---- what the answer at a corner tells
pub ring-open : (faces : List ℕ) (c : ℕ) → is_none (ring_in faces c) ≡ on_boundary (vertex_of faces) (length faces) (vertex_of faces c)
ring-open faces c =
    bool_cases (on_boundary (vertex_of faces) (length faces) (vertex_of faces c))
    (λ e. rw e)
    (λ e. rw e)

-- there is no number, so the vertex is on the boundary; there is one, so it is not
ring-none : (faces : List ℕ) (c : ℕ) → None ≡ ring_in faces c → on_boundary (vertex_of faces) (length faces) (vertex_of faces c) ≡ true
ring-none faces c e = sym (ring-open faces c) ∙ ap is_none (sym e)

ring-closed : (faces : List ℕ) (c v : ℕ) → Some v ≡ ring_in faces c → on_boundary (vertex_of faces) (length faces) (vertex_of faces c) ≡ false
ring-closed faces c v e = sym (ring-open faces c) ∙ ap is_none (sym e)

-- ---- the four corners of a face
module _ (faces : List ℕ) (g : ℕ) where
  abbrev corner-open : ℕ → Bool
  corner-open s = on_boundary (vertex_of faces) (length faces) (vertex_of faces (4 * g + s))

  pub asked-none : (s : ℕ) → s < 4 → None ≡ ring_in faces (4 * g + s) → None ≡ valences_asked faces g
  asked-none s l e = rw (any-hit corner-open 4 s l (ring-none faces (4 * g + s) e))

  pub asked-first : None ≡ ring_in faces (4 * g) → None ≡ valences_asked faces g
  asked-first e = asked-none 0 (omega arith) (rw add-zero e)

  -- a face with no corner on the boundary
  pub ring-valence : open_in faces g ≡ false → (s : ℕ) → s < 4 → ring_in faces (4 * g + s) ≡ Some (valences_in faces g s)
  ring-valence e s l = rw (any_false corner-open 4 e s l)

  valence-told : open_in faces g ≡ false → (s v : ℕ) → s < 4 → Some v ≡ ring_in faces (4 * g + s) → v ≡ valences_in faces g s
  valence-told e s v l h = go (h ∙ ring-valence e s l)
    where
      go : Some v ≡ Some (valences_in faces g s) → v ≡ valences_in faces g s
      go q = cc

  pub asked-all : (v w x y : ℕ) → Some v ≡ ring_in faces (4 * g) → Some w ≡ ring_in faces (4 * g + 1) → Some x ≡ ring_in faces (4 * g + 2)
      → Some y ≡ ring_in faces (4 * g + 3) → Some (v ∷ (w ∷ (x ∷ (y ∷ [])))) ≡ valences_asked faces g
  unfolding fold_below list_below
  asked-all v w x y d e f h =
      let d0 : Some v ≡ ring_in faces (4 * g + 0) = rw add-zero d in
      let a = ring-closed faces (4 * g + 0) v d0 in
      let b = ring-closed faces (4 * g + 1) w e in
      let c = ring-closed faces (4 * g + 2) x f in
      let i = ring-closed faces (4 * g + 3) y h in
      let closed : open_in faces g ≡ false = rw (a, b, c, i) in
      rw (
        closed,
        valence-told closed 0 v (omega arith) d0,
        valence-told closed 1 w (omega arith) e,
        valence-told closed 2 x (omega arith) f,
        valence-told closed 3 y (omega arith) h,
      )
