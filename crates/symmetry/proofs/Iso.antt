-- Two meshes of one shape: the corners and the vertices renumbered, each face in the old turn or each in the opposite one. Half-edges keep their twins.
--
--   Sound at n v      what is asked of the n corners of a mesh with v vertices: whole faces, known vertices, no half-edge twice
--   Iso z at at' n v  corner c of the one is corner `corners.to c` of the other, and vertex p is `vertex_map.to p`
--   half_edges s i     half-edge c of the one is half-edge `(half_edges s i).to c` of the other: that of the corner which it leaves there
--   Moved to n e e'   e is one of the n corners and e' is the one that it has become, or both are `no_twin`
use mathlib.Core.Path.{◌≡◌, sym, ap, ◌∙◌}
use mathlib.Core.Logic.{◌⊎◌, inl, inr, ⊎_elim}
use Prim.Native.Nat.{ℕ, zero, suc, ◌<◌}
use lib.Dec.{eqb}
use borrow.Author.Tests.{ne_eqb}
use Rattle.finite.specs.Permutation.{Permutation}
use Rattle.finite.proofs.PermutationLaws.{to-injective, to_same}
use Rattle.limits.specs.Limits.{no_twin}
use Rattle.corner.specs.Corner.{turn, next, across, prev}
use Rattle.mesh.specs.HalfEdge.{twin, boundary, Simple}
use Rattle.mesh.proofs.CornerLaws.{not_none, turn-none, turn_suc}
use Rattle.mesh.proofs.TwinLaws.{twin-cases, twin-is}
use Rattle.mesh.specs.Tables.{Corners}
use Rattle.symmetry.proofs.Sense.{Sense, same, turned, ahead, behind, turned_none, turned-suc, turned-across, turned-behind, turned-below}
use Rattle.symmetry.proofs.Sense.{leaving, entering, origin, target, origin-leaving, leaving-origin, origin-entering, target-origin}
use Rattle.symmetry.proofs.Sense.{leaving-below, entering-below, origin-below, target_below, Opposite, opposite, opposite-same, simple-in}

pub record Sound (at : ℕ → ℕ) (n v : ℕ) : Type 0 where
  pub whole : Corners n
  pub named : (c : ℕ) → c < n → at c < v
  pub simple : Simple at n

pub record Iso (z : Sense) (at at' : ℕ → ℕ) (n v : ℕ) : Type 0 where
  pub corners : Permutation n
  pub vertex_map : Permutation v
  pub next-moves : (c : ℕ) → c < n → next (corners.to c) ≡ corners.to (ahead z c)
  pub at-moves : (c : ℕ) → c < n → at' (corners.to c) ≡ vertex_map.to (at c)

abbrev pub Moved : (ℕ → ℕ) → ℕ → ℕ → ℕ → Type 0
Moved to n e e' = ((e < n) × (e' ≡ to e)) ⊎ ((e ≡ no_twin) × (e' ≡ no_twin))

-- which corner it is, and whether there is one, is the same
module _ {n : ℕ} (w : Corners n) (r : Permutation n) (e e' : ℕ) (m : Moved r.to n e e') where
  pub moved_same : (d : ℕ) → d < n → eqb e' (r.to d) ≡ eqb e d
  moved_same d l =
      ⊎_elim
      (λ u. rw u.1 (to_same r e d u.0 l))
      (λ u.
      rw (u.0, u.1)
      (ne_eqb no_twin (r.to d) (λ q. not_none w (r.to d) (r.to_below d l) (sym q)) ∙ sym (ne_eqb no_twin d (λ q. not_none w d l (sym q)))))
      m

  moved_none : eqb e' no_twin ≡ eqb e no_twin
  moved_none =
      ⊎_elim
      (λ u.
      rw u.1
      (ne_eqb (r.to e) no_twin (not_none w (r.to e) (r.to_below e u.0)) ∙ sym (ne_eqb e no_twin (not_none w e u.0))))
      (λ u. rw (u.0, u.1))
      m

module _ {z : Sense} {n v : ℕ} {at at' : ℕ → ℕ} (s : Sound at n v) (i : Iso z at at' n v) where
  abbrev φ : ℕ → ℕ
  φ = i.corners.to

  abbrev π : ℕ → ℕ
  π = i.vertex_map.to

  -- ---- corners
  pub turn-moves : (k c : ℕ) → c < n → turn k (φ c) ≡ φ (turned z k c)
  turn-moves zero c l = turn-none (φ c) ∙ ap φ (sym (turned_none z c))
  turn-moves (suc k) c l =
      turn_suc k (φ c)
      ∙ ap next (turn-moves k c l)
      ∙ i.next-moves (turned z k c) (turned-below z s.whole k c l)
      ∙ ap φ (sym (turned-suc z k c))

  pub prev-moves : (c : ℕ) → c < n → prev (φ c) ≡ φ (behind z c)
  prev-moves c l = turn-moves 3 c l ∙ ap φ (turned-behind z c)

  pub across-moves : (c : ℕ) → c < n → across (φ c) ≡ φ (across c)
  across-moves c l = turn-moves 2 c l ∙ ap φ (turned-across z c)

  pub at_turn : (k c : ℕ) → c < n → at' (turn k (φ c)) ≡ π (at (turned z k c))
  at_turn k c l = ap at' (turn-moves k c l) ∙ i.at-moves (turned z k c) (turned-below z s.whole k c l)

  -- corners at one vertex in the other mesh are at one vertex here
  pub at-reflects : (c d : ℕ) → c < n → d < n → π (at c) ≡ π (at d) → at c ≡ at d
  at-reflects c d l k = to-injective i.vertex_map (at c) (at d) (s.named c l) (s.named d k)

  -- ---- half-edges
  unfoldable pub half_edges : Permutation n
  half_edges = record {
    to = λ c. φ (origin z c);
    from = λ c. leaving z (i.corners.from c);
    to_below = λ c l. i.corners.to_below (origin z c) (origin-below z s.whole c l);
    from-below = λ c l. leaving-below z s.whole (i.corners.from c) (i.corners.from-below c l);
    from-to = λ c l. ap (leaving z) (i.corners.from-to (origin z c) (origin-below z s.whole c l)) ∙ leaving-origin z c;
    to-from = λ c l. ap φ (origin-leaving z (i.corners.from c)) ∙ i.corners.to-from c l;
  }

  abbrev σ : ℕ → ℕ
  σ c = φ (origin z c)

  -- the half-edge that leaves a corner of the other mesh, and the one that enters it
  pub leaving-moves : (c : ℕ) → φ c ≡ σ (leaving z c)
  leaving-moves c = ap φ (sym (origin-leaving z c))

  pub entering-moves : (c : ℕ) → c < n → prev (φ c) ≡ σ (entering z c)
  entering-moves c l = prev-moves c l ∙ ap φ (sym (origin-entering z c))

  -- the ends of a half-edge
  origin-moves : (c : ℕ) → c < n → at' (σ c) ≡ π (at (origin z c))
  origin-moves c l = i.at-moves (origin z c) (origin-below z s.whole c l)

  target-moves : (c : ℕ) → c < n → at' (next (σ c)) ≡ π (at (target z c))
  target-moves c l =
      ap at' (i.next-moves (origin z c) (origin-below z s.whole c l) ∙ ap φ (target-origin z c))
      ∙ i.at-moves (target z c) (target_below z s.whole c l)

  -- the half-edge that has become c
  abbrev τ : ℕ → ℕ
  τ = half_edges.from

  origin-from : (c : ℕ) → c < n → at' c ≡ π (at (origin z (τ c)))
  unfolding half_edges
  origin-from c l = ap at' (sym (half_edges.to-from c l)) ∙ origin-moves (τ c) (half_edges.from-below c l)

  target-from : (c : ℕ) → c < n → at' (next c) ≡ π (at (target z (τ c)))
  unfolding half_edges
  target-from c l = ap (λ (d : ℕ). at' (next d)) (sym (half_edges.to-from c l)) ∙ target-moves (τ c) (half_edges.from-below c l)

  -- the same, of vertices of the other mesh that are said in two ways
  reflects : (c d : ℕ) → c < n → d < n → {p q : ℕ} → p ≡ π (at c) → p ≡ q → q ≡ π (at d) → at c ≡ at d
  reflects c d l k a e b = at-reflects c d l k (sym a ∙ e ∙ b)

  pub sound-moves : Sound at' n v
  unfolding half_edges
  sound-moves = record {
    whole = s.whole;
    named = λ c l. rw (origin-from c l) (i.vertex_map.to_below _ (s.named (origin z (τ c)) (origin-below z s.whole (τ c) (half_edges.from-below c l))));
    simple = λ c d lc ld e f.
        let a = half_edges.from-below c lc in
        let b = half_edges.from-below d ld in
        let one : τ c ≡ τ d =
        simple-in z s.simple (τ c) (τ d) a b
        (reflects _ _ (origin-below z s.whole (τ c) a) (origin-below z s.whole (τ d) b) (origin-from c lc) e (origin-from d ld))
        (reflects _ _ (target_below z s.whole (τ c) a) (target_below z s.whole (τ d) b) (target-from c lc) f (target-from d ld)) in
        sym (half_edges.to-from c lc) ∙ ap σ one ∙ half_edges.to-from d ld;
  }

  -- half-edges that join two vertices of the other mesh, each the other way, do so here
  opposite-from : (c d : ℕ) → c < n → d < n → Opposite same at' (σ c) d → Opposite same at c (τ d)
  opposite-from c d l k o =
      let b = half_edges.from-below d k in
      opposite-same z at c (τ d) (
        reflects _ _ (origin-below z s.whole (τ d) b) (target_below z s.whole c l) (origin-from d k) o.0 (target-moves c l),
        reflects _ _ (target_below z s.whole (τ d) b) (origin-below z s.whole c l) (target-from d k) o.1 (origin-moves c l),
      )

  pub twin-moves : (c : ℕ) → c < n → Moved (λ (d : ℕ). φ (origin z d)) n (twin at n c) (twin at' n (φ (origin z c)))
  unfolding half_edges
  twin-moves c l =
      ⊎_elim
      (λ w.
      let d = twin at n c in
      let o = opposite z at c d (w.1, w.2) in
      inl (
        w.0,
        twin-is at' sound-moves.simple (σ c) (σ d) (half_edges.to_below d w.0)
            (origin-moves d w.0 ∙ ap π o.0 ∙ sym (target-moves c l))
            (target-moves d w.0 ∙ ap π o.1 ∙ sym (origin-moves c l)),
      ))
      (λ w. inr (
        w.0,
        ⊎_elim
            (λ u.
            let o = opposite-from c (twin at' n (σ c)) l u.0 (u.1, u.2) in
            absurd (w.1 (τ (twin at' n (σ c))) (half_edges.from-below _ u.0) o.0 o.1))
            (λ u. u.0)
            (twin-cases at' n (σ c)),
      ))
      (twin-cases at n c)

  pub boundary-moves : (c : ℕ) → c < n → boundary at' n (φ (origin z c)) ≡ boundary at n c
  unfolding boundary half_edges
  boundary-moves c l = moved_none s.whole half_edges (twin at n c) (twin at' n (σ c)) (twin-moves c l)

  -- of the half-edges that leave and enter a corner there
  pub leaving-boundary : (c : ℕ) → c < n → boundary at' n (φ c) ≡ boundary at n (leaving z c)
  leaving-boundary c l = ap (boundary at' n) (leaving-moves c) ∙ boundary-moves (leaving z c) (leaving-below z s.whole c l)

  pub entering-boundary : (c : ℕ) → c < n → boundary at' n (prev (φ c)) ≡ boundary at n (entering z c)
  entering-boundary c l = ap (boundary at' n) (entering-moves c l) ∙ boundary-moves (entering z c) (entering-below z s.whole c l)
