-- The tables of an accepted mesh are all that its patches are written from, and what is written from them is the patch list and the marks.
use mathlib.Core.Path.{◌≡◌, ap, ap₂, ◌∙◌}
use mathlib.Core.Bool.{Bool, true, false, cond, ◌&&◌}
use mathlib.Core.List.{List}
use Prim.Native.Nat.{ℕ, ◌+◌, ◌*◌, ◌/◌, ◌%◌, ◌≤◌, ◌<◌}
use native.Mathlib.Omega.{arith}
use lib.Dec.{eqb}
use lib.IntN.{ℤ}
use lib.ListN.{length, get_or}
use Rattle.finite.specs.Fold.{all_below, indicator}
use Rattle.finite.proofs.FoldLaws.{bool_cases, fold-ext}
use Rattle.limits.specs.Limits.{no_twin}
use Rattle.corner.specs.Corner.{turn, prev}
use Rattle.mesh.specs.HalfEdge.{twin, boundary}
use Rattle.mesh.specs.IndexedMesh.{IndexedMesh, corners, at}
use Rattle.mesh.specs.WellFormed.{WellFormed}
use Rattle.mesh.proofs.CornerLaws.{turn_below, prev-below}
use Rattle.mesh.proofs.AcceptedLaws.{accepted-corners}
use Rattle.mask.specs.Mask.{Fraction, inner_mask, edge_mask, boundary_edge_mask}
use Rattle.control.specs.Control.{units, exactly, value_at, weight_at, link_at, inner_at, edge_at, linked, linked_along, linked_before, along_at, before_at}
use Rattle.patch.specs.Point.{Kind, corner, along, before, inner, x, weight, sharp, along_point, before_point, inner_point, edge_point, point}
use Rattle.patch.specs.Patch.{owner, kind, patch_point, shape, view, patch_number, point_exact, patch_mark}
use Rattle.patch.specs.Written.{PatchLists, patch_lists, Source, Tables, point_from, exact_from, number_from, mark_from, written_number, written_mark}
use Rattle.patch.proofs.NeighbourLaws.{twin-below}
use Rattle.patch.proofs.TableLaws.{accepted-whole}

-- number j and mark j of face g, at their places in the lists
pub number-placed : (D : PatchLists) (g j : ℕ) → j < 48 → number_from D g j ≡ written_number D (48 * g + j)
unfolding written_number
number-placed D g j l =
    let face : (48 * g + j) / 48 ≡ g = omega arith in
    let which : (48 * g + j) % 48 ≡ j = omega arith in
    rw (face, which)

pub mark-placed : (D : PatchLists) (g j : ℕ) → j < 16 → mark_from D g j ≡ written_mark D (16 * g + j)
unfolding written_mark
mark-placed D g j l =
    let face : (16 * g + j) / 16 ≡ g = omega arith in
    let which : (16 * g + j) % 16 ≡ j = omega arith in
    rw (face, which)

-- ---- masks of the same numbers
same-inner : {w w' : ℕ} {p e f g p' e' f' g' : ℤ} → w ≡ w' → p ≡ p' → e ≡ e' → f ≡ f' → g ≡ g' → inner_mask w p e f g ≡ inner_mask w' p' e' f' g'
same-inner h i j k l = cc

same-edge : {w w' : ℕ} {p q e f g h p' q' e' f' g' h' : ℤ} → w ≡ w' → p ≡ p' → q ≡ q' → e ≡ e' → f ≡ f' → g ≡ g' → h ≡ h'
    → edge_mask w p q e f g h ≡ edge_mask w' p' q' e' f' g' h'
same-edge i j k l m n o = cc

-- the one or the other of two points, by the link of a half-edge
same-linked : (d : ℕ) {p q p' q' : Fraction} → p ≡ p' → (eqb d no_twin ≡ false → q ≡ q') → linked d p q ≡ cond (eqb d no_twin) p' q'
same-linked d hp hq = bool_cases (eqb d no_twin) (λ e. rw e hp) (λ e. rw e (hq e))

module _ {M : IndexedMesh} (a : WellFormed M) {values points : List ℤ} {links weights : List ℕ} {flags : List Bool}
    (t : Tables M (patch_lists M.indices values links weights points flags)) where
  abbrev drawn : PatchLists
  drawn = patch_lists M.indices values links weights points flags

  pub source : 3 * M.vertices ≤ length points → M.vertices ≤ length flags → Source drawn
  source pointed marked = record {
    whole = rw (accepted-whole a) (accepted-corners a);
    bounded = t.values-are.bounded;
    pointed = λ c k l h. omega (arith, a.named c (rw (accepted-whole a) at l));
    marked = λ c l. omega (arith, a.named c (rw (accepted-whole a) at l));
  }

  -- ---- the tables by corner
  place : (c : ℕ) → c < corners M → c % 1024 ≡ c
  place c l = omega (arith, a.sized.faces-high)

  weight-from : (c : ℕ) → c < corners M → weight_at weights c ≡ weight (shape M) c
  weight-from c l = ap (λ (i : ℕ). get_or weights i 0) (place c l) ∙ t.weights-are c l

  link-from : (c : ℕ) → c < corners M → link_at links c ≡ twin (at M) (corners M) c
  link-from c l = ap (λ (i : ℕ). get_or links i 0) (place c l) ∙ t.links-are c l

  -- ---- a point that the tables tell is the point of the mesh
  module _ (k : ℕ) (axis : k < 3) where
    value-from : (i c : ℕ) → c < corners M → value_at values k (turn i c) ≡ x (view M k) (turn i c)
    value-from i c l = t.values-are.told k (turn i c) axis (turn_below (accepted-corners a) i c l)

    here-from : (c : ℕ) → c < corners M → value_at values k c ≡ x (view M k) c
    here-from c l = t.values-are.told k c axis l

    inner-from : (c : ℕ) → c < corners M → inner_at values (weight_at weights c) k c ≡ inner_point (view M k) c
    unfolding inner_at inner_point
    inner-from c l = same-inner (weight-from c l) (here-from c l) (value-from 1 c l) (value-from 3 c l) (value-from 2 c l)

    edge-from : (c d : ℕ) → c < corners M → d < corners M → edge_at values (weight_at weights c) k c d ≡ edge_point (view M k) c d
    unfolding edge_at edge_point
    edge-from c d l m =
        same-edge (weight-from c l) (here-from c l) (value-from 1 c l) (value-from 3 c l) (value-from 2 d m) (value-from 2 c l) (value-from 3 d m)

    along-from : (c : ℕ) → c < corners M → along_at values links weights k c ≡ along_point (view M k) c
    unfolding along_point sharp boundary
    along-from c l =
        ap (λ (d : ℕ). linked_along values d (weight_at weights c) k c) (link-from c l)
        ∙ same-linked (twin (at M) (corners M) c) (ap₂ boundary_edge_mask (here-from c l) (value-from 1 c l))
        (λ e. edge-from c (twin (at M) (corners M) c) l (twin-below (shape M) c e))

    -- a half-edge that does not take the boundary rule has a twin, which has a weight
    before-from : (c : ℕ) → c < corners M → before_at values links weights k c ≡ before_point (view M k) c
    unfolding before_point sharp boundary
    before-from c l =
        let b = prev-below (accepted-corners a) c l in
        let d = twin (at M) (corners M) (prev c) in
        ap (λ (d : ℕ). linked_before values d (weight_at weights d) k c) (link-from (prev c) b)
        ∙ same-linked d (ap₂ boundary_edge_mask (here-from c l) (value-from 3 c l)) (λ e. edge-from d (prev c) (twin-below (shape M) (prev c) e) b)

  point-from : (k c : ℕ) (q : Kind) → k < 3 → c < corners M → point_from drawn k c q ≡ units (point (view M k) c q)
  unfolding point_from point
  point-from k c corner h l = t.corners-are.points-are k (at M c) h (a.named c l)
  point-from k c along h l = ap units (along-from k h c l)
  point-from k c before h l = ap units (before-from k h c l)
  point-from k c inner h l = ap units (inner-from k h c l)

  pub number-written : (i : ℕ) → i < 48 * M.faces → written_number drawn i ≡ patch_number M i
  unfolding written_number number_from patch_number patch_point
  number-written i l =
      let axis : i % 48 % 3 ≡ i % 3 = omega arith in
      rw axis
      (point-from (i % 3) (turn (owner (i % 48 / 3)) (4 * (i / 48))) (kind (i % 48 / 3)) (omega arith)
      (turn_below (accepted-corners a) (owner (i % 48 / 3)) (4 * (i / 48)) (omega arith)))

  -- a mark from the tables is the mark of the mesh
  exact-from : (c : ℕ) (q : Kind) → c < corners M → exact_from drawn c q ≡ all_below (λ k. exactly (point (view M k) c q)) 3
  unfolding exact_from point
  exact-from c corner l = t.corners-are.flags-are (at M c) (a.named c l)
  exact-from c along l = fold-ext true ◌&&◌ 3 (λ k h. ap exactly (along-from k h c l))
  exact-from c before l = fold-ext true ◌&&◌ 3 (λ k h. ap exactly (before-from k h c l))
  exact-from c inner l = fold-ext true ◌&&◌ 3 (λ k h. ap exactly (inner-from k h c l))

  pub mark-written : (i : ℕ) → i < 16 * M.faces → written_mark drawn i ≡ patch_mark M i
  unfolding written_mark mark_from patch_mark point_exact patch_point
  mark-written i l =
      ap indicator
      (exact-from (turn (owner (i % 16)) (4 * (i / 16))) (kind (i % 16)) (turn_below (accepted-corners a) (owner (i % 16)) (4 * (i / 16)) (omega arith)))
