-- The control points of two meshes of one shape are the same: each is read from vertices that are the same, with the values they had.
-- Where the faces are turned the other way, the points along and before a corner change places.
use mathlib.Core.Path.{◌≡◌, refl, sym, ap, ap₂, ◌∙◌}
use mathlib.Core.Bool.{Bool, true, false, cond}
use mathlib.Core.Logic.{⊎_elim}
use Prim.Native.Nat.{ℕ, ◌*◌, ◌<◌}
use lib.IntN.{ℤ}
use borrow.Author.Tests.{eqb-false}
use Rattle.finite.proofs.IntegerSum.{sum_ℤ-monoid}
use Rattle.limits.specs.Limits.{no_twin}
use Rattle.corner.specs.Corner.{next, across, prev}
use Rattle.mesh.specs.HalfEdge.{twin, boundary}
use Rattle.mesh.specs.IndexedMesh.{IndexedMesh, corners, at, tag}
use Rattle.mesh.specs.WellFormed.{WellFormed}
use Rattle.mesh.proofs.CornerLaws.{turn_below}
use Rattle.mesh.proofs.TwinLaws.{twin-ends}
use Rattle.symmetry.proofs.Sense.{Sense, same, turned, ahead, behind, leaving, entering, origin, target, Opposite}
use Rattle.symmetry.proofs.Sense.{target-origin, turned-below, ahead-below, behind-below, leaving-below, entering-below, origin-below}
use Rattle.symmetry.proofs.Iso.{Sound, Iso, turn-moves, prev-moves, across-moves, leaving-moves, entering-moves, twin-moves, boundary-moves, entering-boundary}
use Rattle.symmetry.proofs.VertexMoves.{gather-moves, valence-moves, on-boundary-moves}
use Rattle.symmetry.proofs.WellFormedMoves.{Alike, sound}
use Rattle.patch.specs.Point.{Shape, View, x, weight, sharp, sharp_term, ring_term, sharp_sum, ring_sum, fixed}
use Rattle.patch.specs.Point.{corner_point, inner_point, edge_point, along_point, before_point, Kind, corner, along, before, inner, point}
use Rattle.patch.specs.Patch.{owner, kind, patch_point, shape}
use Rattle.patch.proofs.Related.{valued}
use Rattle.correspondence.proofs.PointSense.{kind_in, point_in, edge_in, corner-in, inner-in, kind-in, owner-in}
use Rattle.correspondence.proofs.PointSense.{sharp-term-in, ring-term-in, inner-point-in, edge_in_lem, along-in, before-in}

cond_same : {A : Type 0} (b b' : Bool) (y z y' z' : A) → b' ≡ b → (b ≡ true → y' ≡ y) → (b ≡ false → z' ≡ z) → cond b' y' z' ≡ cond b y z
cond_same true b' y z y' z' e f g = rw e (f refl)
cond_same false b' y z y' z' e f g = rw e (g refl)

module _ {z : Sense} {M M' : IndexedMesh} (a : WellFormed M) (r : Alike z M M') where
  abbrev n : ℕ
  n = corners M

  abbrev v : ℕ
  v = M.vertices

  abbrev s : Sound (at M) n v
  s = sound a

  abbrev i : Iso z (at M) (at M') n v
  i = r.shape

  abbrev φ : ℕ → ℕ
  φ = i.corners.to

  abbrev π : ℕ → ℕ
  π = i.vertex_map.to

  -- half-edge c, in M'
  abbrev σ : ℕ → ℕ
  σ c = φ (origin z c)

  abbrev G : Shape
  G = shape M

  -- M', with the sizes of M
  abbrev G' : Shape
  G' = record { n = n; at = at M'; tag = tag M' }

  -- ---- what no coordinate tells
  weight-moves : (c : ℕ) → c < n → weight G' (φ c) ≡ weight G c
  unfolding weight
  weight-moves c l =
      let b = a.named c l in
      rw (i.at-moves c l, on-boundary-moves s i (at M c) b (a.fans (at M c) b), valence-moves s i (at M c) b)

  fixed-moves : (p : ℕ) → p < v → fixed G' (π p) ≡ fixed G p
  unfolding fixed
  fixed-moves p b = rw (r.tags-carried.moves p b, valence-moves s i p b)

  sharp-moves : (c : ℕ) → c < n → sharp G' (σ c) ≡ sharp G c
  unfolding sharp
  sharp-moves c l = boundary-moves s i c l

  sharp-leaving : (c : ℕ) → c < n → sharp G' (φ c) ≡ sharp G (leaving z c)
  sharp-leaving c l = ap (sharp G') (leaving-moves s i c) ∙ sharp-moves (leaving z c) (leaving-below z s.whole c l)

  sharp-entering : (c : ℕ) → c < n → sharp G' (prev (φ c)) ≡ sharp G (entering z c)
  sharp-entering c l = ap (sharp G') (entering-moves s i c l) ∙ sharp-moves (entering z c) (entering-below z s.whole c l)

  -- a half-edge that is not sharp has a twin, which is the same
  pub twin-same : (c : ℕ) → c < n → sharp G c ≡ false → (twin (at M) n c < n) × (twin (at M') n (σ c) ≡ σ (twin (at M) n c))
  unfolding sharp boundary
  twin-same c l e = ⊎_elim (λ w. w) (λ w. absurd (eqb-false (twin (at M) n c) no_twin e w.0)) (twin-moves s i c l)

  module _ (X X' : ℕ → ℤ) (carried : (p : ℕ) → p < v → X' (π p) ≡ X p) where
    abbrev S : View
    S = valued M X

    abbrev S' : View
    S' = record { shape = G'; value = X' }

    x-moves : (c : ℕ) → c < n → x S' (φ c) ≡ x S c
    x-moves c l = ap X' (i.at-moves c l) ∙ carried (at M c) (a.named c l)

    x-next : (c : ℕ) → c < n → x S' (next (φ c)) ≡ x S (ahead z c)
    x-next c l = ap (x S') (i.next-moves c l) ∙ x-moves (ahead z c) (ahead-below z s.whole c l)

    x-prev : (c : ℕ) → c < n → x S' (prev (φ c)) ≡ x S (behind z c)
    x-prev c l = ap (x S') (prev-moves s i c l) ∙ x-moves (behind z c) (behind-below z s.whole c l)

    x-across : (c : ℕ) → c < n → x S' (across (φ c)) ≡ x S (across c)
    x-across c l = ap (x S') (across-moves s i c l) ∙ x-moves (across c) (turn_below s.whole 2 c l)

    -- ---- sums at a vertex
    sharp-sum-moves : (p : ℕ) → p < v → sharp_sum S' (π p) ≡ sharp_sum S p
    unfolding sharp_sum
    sharp-sum-moves =
        gather-moves s i sum_ℤ-monoid (sharp_term S) (sharp_term S') (λ c l.
        rw (sharp-leaving c l, entering-boundary s i c l, x-next c l, x-prev c l) (sharp-term-in S c z))

    ring-sum-moves : (p : ℕ) → p < v → ring_sum S' (π p) ≡ ring_sum S p
    unfolding ring_sum
    ring-sum-moves = gather-moves s i sum_ℤ-monoid (ring_term S) (ring_term S') (λ c l. rw (x-next c l, x-prev c l, x-across c l) (ring-term-in S c z))

    -- ---- points
    corner-moves : (p : ℕ) → p < v → corner_point S' (π p) ≡ corner_point S p
    unfolding corner_point
    corner-moves p b =
        rw (
          on-boundary-moves s i p b (a.fans p b),
          valence-moves s i p b,
          carried p b,
          ring-sum-moves p b,
          fixed-moves p b,
          sharp-sum-moves p b,
        )

    inner-moves : (c : ℕ) → c < n → inner_point S' (φ c) ≡ inner_point S c
    unfolding inner_point
    inner-moves c l = rw (weight-moves c l, x-moves c l, x-next c l, x-prev c l, x-across c l) (inner-point-in S c z)

    edge-moves : (c d : ℕ) → c < n → d < n → Opposite same (at M) c d → edge_point S' (σ c) (σ d) ≡ edge_in z S c d
    unfolding edge_point
    edge-moves c d l k o =
        let lc = origin-below z s.whole c l in
        let ld = origin-below z s.whole d k in
        let far : x S' (next (σ c)) ≡ x S (target z c) = x-next (origin z c) lc ∙ ap (x S) (target-origin z c) in
        rw (
          weight-moves (origin z c) lc,
          x-moves (origin z c) lc,
          far,
          x-prev (origin z c) lc,
          x-across (origin z d) ld,
          x-across (origin z c) lc,
          x-prev (origin z d) ld,
        ) (edge_in_lem S c d o z)

    along-moves : (c : ℕ) → c < n → along_point S' (φ c) ≡ point S c (kind_in z along)
    unfolding along_point
    along-moves c l =
        let h = leaving-below z s.whole c l in
        cond_same (sharp G (leaving z c)) (sharp G' (φ c)) _ _ _ _ (sharp-leaving c l)
        (λ e. rw (x-moves c l, x-next c l))
        (λ e.
        let w = twin-same (leaving z c) h e in
        rw (leaving-moves s i c, w.1)
        (edge-moves (leaving z c) (twin (at M) n (leaving z c)) h w.0 (twin-ends (at M) n (leaving z c) s.whole w.0)))
        ∙ along-in S c z

    before-moves : (c : ℕ) → c < n → before_point S' (φ c) ≡ point S c (kind_in z before)
    unfolding before_point
    before-moves c l =
        let h = entering-below z s.whole c l in
        cond_same (sharp G (entering z c)) (sharp G' (prev (φ c))) _ _ _ _ (sharp-entering c l)
        (λ e. rw (x-moves c l, x-prev c l))
        (λ e.
        let w = twin-same (entering z c) h e in
        let ends = twin-ends (at M) n (entering z c) s.whole w.0 in
        rw (entering-moves s i c l, w.1)
        (edge-moves (twin (at M) n (entering z c)) (entering z c) w.0 h (sym ends.1, sym ends.0)))
        ∙ before-in S c z

    point-moves : (c : ℕ) → c < n → (k : Kind) → point S' (φ c) k ≡ point S c (kind_in z k)
    unfolding point
    point-moves c l corner = ap (corner_point S') (i.at-moves c l) ∙ corner-moves (at M c) (a.named c l) ∙ ap (point S c) (sym (corner-in z))
    point-moves c l along = along-moves c l
    point-moves c l before = before-moves c l
    point-moves c l inner = inner-moves c l ∙ ap (point S c) (sym (inner-in z))

    patch-here : (c : ℕ) → c < n → (m : ℕ) → m < 16 → patch_point S' (φ c) m ≡ patch_point S c (point_in z m)
    unfolding patch_point
    patch-here c l m b =
        ap (λ (d : ℕ). point S' d (kind m)) (turn-moves s i (owner m) c l)
        ∙ point-moves (turned z (owner m) c) (turned-below z s.whole (owner m) c l) (kind m)
        ∙ ap₂ (point S) (owner-in z m c b) (kind-in z m b)

    -- the patch of a face, seen from any of its corners
    pub patch-moves : (c : ℕ) → c < corners M → (m : ℕ) → m < 16
        → patch_point (valued M' X') (r.shape.corners.to c) m ≡ patch_point (valued M X) c (point_in z m)
    patch-moves c l m b =
        ap (λ (f : ℕ). patch_point (record { shape = record { n = 4 * f; at = at M'; tag = tag M' }; value = X' }) (φ c) m) r.same-faces
        ∙ patch-here c l m b
