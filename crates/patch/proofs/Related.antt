-- One law for bounds, shifts and other moves of the positions: the control points keep every relation between two coordinates of the
-- vertices that 0, sums and non-negative weights keep, since each mask does (`Linear R`, `Related R q q'`: `LinearLaws` of `mask`).
--
--   valued M X        the mesh M, with the coordinate X p of each vertex p: `view M k` is one
--   Nearby R M X X' p   the coordinates X and X' of each vertex of a face at p are related
use mathlib.Core.Path.{◌≡◌, refl, ap, ◌∙◌, subst}
use mathlib.Core.Bool.{Bool, true, false, cond}
use Prim.Native.Nat.{ℕ, zero, suc, ◌+◌, ◌*◌, ◌<◌}
use native.Mathlib.Omega.{arith}
use lib.Dec.{eqb}
use lib.IntN.{ℤ, pos, ◌+ℤ◌}
use borrow.Author.Tests.{eqb-true, not-false}
use Rattle.finite.specs.Fold.{fold_below, gather}
use Rattle.corner.specs.Corner.{turn, next, prev}
use Rattle.mesh.specs.HalfEdge.{twin}
use Rattle.mesh.specs.Fan.{valence}
use Rattle.mesh.specs.IndexedMesh.{IndexedMesh, corners, at}
use Rattle.mesh.specs.WellFormed.{WellFormed}
use Rattle.mesh.proofs.CornerLaws.{turn_below, next-below, prev-below, next-prev, turn-none, turn-next}
use Rattle.mesh.proofs.TwinLaws.{twin-ends}
use Rattle.mesh.proofs.BoundaryLaws.{boundary-vertex}
use Rattle.mesh.proofs.AcceptedLaws.{accepted-corners}
use Rattle.mesh.specs.Tables.{Corners}
use Rattle.mask.specs.Mask.{Fraction}
use Rattle.mask.proofs.LinearLaws.{Linear, Related, cast, ring}
use Rattle.mask.proofs.LinearLaws.{inner-mask, edge-mask, boundary-edge-mask, smooth-corner-mask, boundary-corner-mask, vertex-mask}
use Rattle.patch.specs.Point.{View, x, valence_at, inside, weight, sharp, ring_term, sharp_sum, ring_sum, fixed}
use Rattle.patch.specs.Point.{corner_point, inner_point, edge_point, along_point, before_point, Kind, corner, along, before, inner, point}
use Rattle.patch.specs.Patch.{owner, kind, patch_point, shape}
use Rattle.patch.proofs.NeighbourLaws.{twin-below, sharp-neighbours}

abbrev pub valued : IndexedMesh → (ℕ → ℤ) → View
valued M X = record { shape = shape M; value = X }

abbrev pub Nearby : (ℕ → ℤ → ℤ → Type 0) → IndexedMesh → (ℕ → ℤ) → (ℕ → ℤ) → ℕ → Type 0
Nearby R M X X' p = (c : ℕ) → c < corners M → at M c ≡ p → (i : ℕ) → R 1 (X (at M (turn i c))) (X' (at M (turn i c)))

-- a number for each corner at a vertex
gather-times : (at : ℕ → ℕ) (p k n : ℕ) → gather 0 ◌+◌ at (λ c. k) n p ≡ k * valence at n p
unfolding valence fold_below
gather-times at p k zero = omega arith
gather-times at p k (suc n) = ap (λ (m : ℕ). m + cond (eqb (at n) p) k 0) (gather-times at p k n) ∙ distributes (valence at n p) (eqb (at n) p)
  where
    distributes : (m : ℕ) (b : Bool) → k * m + cond b k 0 ≡ k * (m + cond b 1 0)
    distributes m true = omega arith
    distributes m false = omega arith

module _ {R : ℕ → ℤ → ℤ → Type 0} (L : Linear R) where
  either : {y y' z z' : Fraction} (b : Bool) → (b ≡ true → Related R y y') → (b ≡ false → Related R z z') → Related R (cond b y z) (cond b y' z')
  either true f g = f refl
  either false f g = g refl

  -- ---- a sum over the corners at a vertex, with weights that sum to k c at corner c
  pub sum-at : (at : ℕ → ℕ) (p : ℕ) (k : ℕ → ℕ) (f f' : ℕ → ℤ) (n : ℕ) → ((c : ℕ) → c < n → at c ≡ p → R (k c) (f c) (f' c))
      → R (gather 0 ◌+◌ at k n p) (gather (pos 0) ◌+ℤ◌ at f n p) (gather (pos 0) ◌+ℤ◌ at f' n p)
  unfolding fold_below
  sum-at at p k f f' zero h = L.nil
  sum-at at p k f f' (suc n) h = L.plus (sum-at at p k f f' n (λ c l e. h c (omega arith) e)) (term (eqb (at n) p) refl)
    where
      term : (b : Bool) → eqb (at n) p ≡ b → R (cond b (k n) 0) (cond b (f n) (pos 0)) (cond b (f' n) (pos 0))
      term true e = h n (omega arith) (eqb-true (at n) p e)
      term false e = L.nil

  -- ---- the points: each is read from vertices of the faces at its vertex
  module _ {M : IndexedMesh} (a : WellFormed M) (X X' : ℕ → ℤ) where
    abbrev S : View
    S = valued M X

    abbrev S' : View
    S' = valued M X'

    abbrev whole : Corners (corners M)
    whole = accepted-corners a

    module _ (p : ℕ) (near : Nearby R M X X' p) where
      here : (c : ℕ) → c < corners M → at M c ≡ p → R 1 (x S c) (x S' c)
      here c l e = subst (λ (d : ℕ). R 1 (x S d) (x S' d)) (turn-none c) (near c l e 0)

      ring-sum : R (5 * valence_at (shape M) p) (ring_sum S p) (ring_sum S' p)
      unfolding ring_sum
      ring-sum =
          cast L (gather-times (at M) p 5 (corners M))
          (sum-at (at M) p (λ c. 5) (ring_term S) (ring_term S') (corners M) (λ c l e. ring L (near c l e 1) (near c l e 3) (near c l e 2)))

      sharp-sum : p < M.vertices → inside (shape M) p ≡ false → R 2 (sharp_sum S p) (sharp_sum S' p)
      sharp-sum l e =
          let w = boundary-vertex (at M) whole a.simple p (a.fans p l) (not-false _ e) in
          let out = w.leaving in
          let into = w.entering in
          rw (sharp-neighbours S p w, sharp-neighbours S' p w)
          (L.plus (near out.corner out.below out.here 1) (near into.corner into.below into.here 3))

      corner-related : p < M.vertices → R 1 (X p) (X' p) → Related R (corner_point S p) (corner_point S' p)
      unfolding corner_point fixed
      corner-related l own =
          either (inside (shape M) p) (λ _. smooth-corner-mask L (valence_at (shape M) p) (a.used p l) own ring-sum)
          (λ e. either (fixed (shape M) p) (λ _. vertex-mask L own) (λ _. boundary-corner-mask L own (sharp-sum l e)))

      inner-related : (c : ℕ) → c < corners M → at M c ≡ p → Related R (inner_point S c) (inner_point S' c)
      unfolding inner_point weight
      inner-related c l e = inner-mask L (weight (shape M) c) (here c l e) (near c l e 1) (near c l e 3) (near c l e 2)

      -- half-edge c leaves p, and half-edge d enters it
      edge-related : (c d : ℕ) → c < corners M → at M c ≡ p → d < corners M → at M (next d) ≡ p → Related R (edge_point S c d) (edge_point S' c d)
      unfolding edge_point weight
      edge-related c d l e k f =
          let further : (i : ℕ) → R 1 (x S (turn (suc i) d)) (x S' (turn (suc i) d)) =
          λ i. subst (λ (j : ℕ). R 1 (x S j) (x S' j)) (turn-next i d) (near (next d) (next-below whole d k) f i) in
          edge-mask L _ (here c l e) (near c l e 1) (near c l e 3) (further 1) (near c l e 2) (further 2)

      along-related : (c : ℕ) → c < corners M → at M c ≡ p → Related R (along_point S c) (along_point S' c)
      unfolding along_point sharp
      along-related c l e =
          either (sharp (shape M) c) (λ _. boundary-edge-mask L (here c l e) (near c l e 1)) (λ h.
          let t = twin-below (shape M) c h in
          edge-related c (twin (at M) (corners M) c) l e t ((twin-ends (at M) (corners M) c whole t).1 ∙ e))

      before-related : (c : ℕ) → c < corners M → at M c ≡ p → Related R (before_point S c) (before_point S' c)
      unfolding before_point sharp
      before-related c l e =
          let end : at M (next (prev c)) ≡ p = ap (at M) (next-prev c) ∙ e in
          either (sharp (shape M) (prev c)) (λ _. boundary-edge-mask L (here c l e) (near c l e 3)) (λ h.
          let t = twin-below (shape M) (prev c) h in
          edge-related (twin (at M) (corners M) (prev c)) (prev c) t ((twin-ends (at M) (corners M) (prev c) whole t).0 ∙ end) (prev-below whole c l) end)

    pub point-related : (c : ℕ) → c < corners M → Nearby R M X X' (at M c) → (k : Kind) → Related R (point (valued M X) c k) (point (valued M X') c k)
    unfolding point
    point-related c l near corner = corner-related (at M c) near (a.named c l) (here (at M c) near c l refl)
    point-related c l near along = along-related (at M c) near c l refl
    point-related c l near before = before-related (at M c) near c l refl
    point-related c l near inner = inner-related (at M c) near c l refl

    -- a patch is read from the vertices of the faces that share a vertex with its own
    pub patch-nearby : (c m : ℕ) → c < corners M → ((i : ℕ) → Nearby R M X X' (at M (turn i c)))
        → Related R (patch_point (valued M X) c m) (patch_point (valued M X') c m)
    unfolding patch_point
    patch-nearby c m l near = point-related (turn (owner m) c) (turn_below whole (owner m) c l) (near (owner m)) (kind m)

    pub patch-related : ((p : ℕ) → p < M.vertices → R 1 (X p) (X' p)) → (c m : ℕ) → c < corners M
        → Related R (patch_point (valued M X) c m) (patch_point (valued M X') c m)
    patch-related base c m l = patch-nearby c m l (λ i d k _ j. base _ (a.named (turn j d) (turn_below whole j d k)))
