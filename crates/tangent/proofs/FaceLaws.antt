-- A face of an accepted mesh with no corner on the boundary: what the tables that render the mesh tell of its sides is what the definitions say.
use native.Mathlib.Numerals.{add-one}
use mathlib.Core.Path.{◌≡◌, refl, sym, ap, ◌∙◌}
use mathlib.Core.Bool.{false}
use mathlib.Core.List.{List}
use Prim.Native.Nat.{ℕ, ◌+◌, ◌*◌, ◌%◌, ◌≤◌, ◌<◌}
use native.Mathlib.Omega.{arith}
use lib.IntN.{ℤ, neg_ℤ}
use Rattle.finite.proofs.AnyAll.{any_false}
use Rattle.corner.specs.Corner.{turn, next}
use Rattle.mesh.specs.Fan.{valence, on_boundary}
use Rattle.mesh.specs.IndexedMesh.{IndexedMesh, corners, at}
use Rattle.mesh.specs.WellFormed.{WellFormed}
use Rattle.mesh.specs.Tables.{Corners}
use Rattle.mesh.proofs.TwinLaws.{twin-ends}
use Rattle.mesh.proofs.CornerLaws.{next-below}
use Rattle.mesh.proofs.BoundaryLaws.{InnerVertex}
use Rattle.mesh.proofs.AcceptedLaws.{accepted-corners}
use Rattle.mask.specs.Mask.{corner_weight}
use Rattle.patch.specs.Point.{View, weight, sharp}
use Rattle.patch.specs.Patch.{shape, view}
use Rattle.patch.proofs.NeighbourLaws.{twin-below}
use Rattle.control.specs.Control.{link_at, edge_at, units}
use Rattle.tangent.specs.Vector.{twin_at, faces_at, end_vector}
use Rattle.tangent.specs.Answer.{face_open}
use Rattle.tangent.specs.Told.{Part, at_start, at_end, near, far, inner_near, inner_far, vector_at, part_told}
use Rattle.tangent.proofs.SeenLaws.{turn-after}
use Rattle.tangent.proofs.InnerLaws.{corner-inner}
use Rattle.tangent.proofs.RenderLaws.{Renders, inner-told, edge-told, vector-told}
use Rattle.tangent.proofs.PartLaws.{part_of, near-is, far-is, inner-near-is, inner-far-is}

module _ {M : IndexedMesh} (a : WellFormed M) (g : ℕ) (l : g < M.faces) (closed : face_open M g ≡ false) where
  -- ---- the vertex of a corner of the face is not on the boundary, and has from 3 to 16 faces
  smooth : (s : ℕ) → s < 4 → on_boundary (at M) (corners M) (at M (4 * g + s)) ≡ false
  unfolding face_open
  smooth s b = any_false _ 4 closed s b

  pub least : (s : ℕ) → s < 4 → 3 ≤ faces_at (view M 0) (4 * g + s)
  least s b = let c : 4 * g + s < corners M = omega arith in a.inner-low (at M (4 * g + s)) (a.named (4 * g + s) c) (smooth s b)

  pub most : (s : ℕ) → s < 4 → faces_at (view M 0) (4 * g + s) ≤ 16
  most s b = let c : 4 * g + s < corners M = omega arith in a.inner-high (at M (4 * g + s)) (a.named (4 * g + s) c) (smooth s b)

  -- ---- side s
  module _ (s : ℕ) (b : s < 4) where
    abbrev c : ℕ
    c = turn s (4 * g)

    corner-below : turn s (4 * g) < corners M
    corner-below = omega arith

    next-is : next (turn s (4 * g)) ≡ turn ((s + 1) % 4) (4 * g)
    next-is = turn-after s (4 * g) ∙ ap (λ (t : ℕ). turn (t % 4) (4 * g)) (sym (add-one s))

    start-inner : InnerVertex (at M) (corners M) (at M (turn s (4 * g)))
    start-inner = corner-inner a g l closed s b

    end-inner : InnerVertex (at M) (corners M) (at M (next (turn s (4 * g))))
    end-inner = rw next-is (corner-inner a g l closed ((s + 1) % 4) (omega arith))

    half-smooth : sharp (shape M) (turn s (4 * g)) ≡ false
    unfolding sharp
    half-smooth = start-inner.leaving (turn s (4 * g)) corner-below refl

    -- the twin of the side begins at its end
    twin-in : twin_at (view M 0) (turn s (4 * g)) < corners M
    twin-in = twin-below (shape M) (turn s (4 * g)) half-smooth

    twin-at : at M (twin_at (view M 0) (turn s (4 * g))) ≡ at M (next (turn s (4 * g)))
    twin-at = (twin-ends (at M) (corners M) (turn s (4 * g)) (accepted-corners a) twin-in).0

    -- the weight of a corner at an inner vertex of n faces
    weighed : (d n : ℕ) → on_boundary (at M) (corners M) (at M d) ≡ false → n ≡ faces_at (view M 0) d → n ≡ weight (shape M) d
    unfolding weight corner_weight
    weighed d n inside e = rw inside e

    start-inside : on_boundary (at M) (corners M) (at M (turn s (4 * g))) ≡ false
    start-inside = let e : turn s (4 * g) ≡ 4 * g + s = omega arith in rw e (smooth s b)

    end-inside : on_boundary (at M) (corners M) (at M (next (turn s (4 * g)))) ≡ false
    end-inside = let e : turn ((s + 1) % 4) (4 * g) ≡ 4 * g + (s + 1) % 4 = omega arith in rw (next-is, e) (smooth ((s + 1) % 4) (omega arith))

    -- ---- the parts of the side, of coordinate k, with n faces at its start and m at its end
    module _ {values : List ℤ} {twins : List ℕ} (t : Renders M values twins) (k : ℕ) (axis : k < 3) (n m : ℕ)
        (start-counted : n ≡ faces_at (view M 0) (turn s (4 * g))) (end-counted : m ≡ faces_at (view M 0) (next (turn s (4 * g)))) where
      abbrev S : View
      S = view M k

      abbrev d : ℕ
      d = twin_at S c

      whole : Corners (corners M)
      whole = accepted-corners a

      twin-told : link_at twins c ≡ d
      twin-told = t.twins-are c corner-below

      twin-counted : m ≡ faces_at S d
      twin-counted = end-counted ∙ ap (λ (p : ℕ). valence (at M) (corners M) p) (sym twin-at)

      end-weighed : m ≡ weight (shape M) d
      end-weighed = weighed d m (ap (on_boundary (at M) (corners M)) twin-at ∙ end-inside) twin-counted

      turned-part : (p : Part) → part_told values twins n m k c p ≡ part_of S c p
      unfolding part_told part_of end_vector
      turned-part at_start = vector-told t whole k axis (at M c) start-inner c corner-below refl n start-counted
      turned-part at_end =
          ap (λ (e : ℕ). neg_ℤ (vector_at values twins m k e)) twin-told
          ∙ ap neg_ℤ (vector-told t whole k axis (at M (next c)) end-inner d twin-in twin-at m twin-counted)
      turned-part near =
          ap (λ (e : ℕ). units (edge_at values n k c e)) twin-told
          ∙ ap units (edge-told t whole k axis n c d corner-below twin-in (weighed c n start-inside start-counted))
          ∙ sym (near-is S c half-smooth)
      turned-part far =
          ap (λ (e : ℕ). units (edge_at values m k e c)) twin-told
          ∙ ap units (edge-told t whole k axis m d c twin-in corner-below end-weighed)
          ∙ sym (far-is S c half-smooth)
      turned-part inner_near =
          ap units (inner-told t whole k axis n c corner-below (weighed c n start-inside start-counted)) ∙ sym (inner-near-is S c)
      turned-part inner_far =
          ap units (inner-told t whole k axis m (next c) (next-below whole c corner-below) (weighed (next c) m end-inside end-counted))
          ∙ sym (inner-far-is S c)

      pub part-told : (p : Part) → part_told values twins n m k (4 * g + s) p ≡ part_of (view M k) (turn s (4 * g)) p
      part-told p =
          let e : 4 * g + s ≡ c = omega arith in
          ap (λ (e : ℕ). part_told values twins n m k e p) e ∙ turned-part p
