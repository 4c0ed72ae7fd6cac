-- A renumbering makes a mesh of the same shape: corner s of face f is corner s - start f, modulo 4, of the face that f has become.
--
--   spot g s         corner s, modulo 4, of face g
--   to r c, from r c the corner that c has become, and the one that has become c
--   alike r          the two meshes are of one shape, their faces turned the same way
use mathlib.Core.Path.{◌≡◌, ap, ◌∙◌}
use mathlib.Core.List.{List}
use Prim.Native.Nat.{ℕ, ◌+◌, ◌-◌, ◌*◌, ◌/◌, ◌%◌, ◌<◌}
use native.Mathlib.Omega.{arith}
use lib.IntN.{nat_abs}
use lib.ListN.{get_or}
use Rattle.finite.specs.Permutation.{Permutation}
use Rattle.corner.specs.Corner.{turn, next}
use Rattle.mesh.specs.IndexedMesh.{IndexedMesh, corners, coordinate}
use Rattle.symmetry.proofs.CarriedLaws.{three-moves}
use Rattle.symmetry.proofs.Sense.{same}
use Rattle.symmetry.proofs.WellFormedMoves.{Alike}
use Rattle.surface.specs.Renumbering.{ByCorner, Renumbering}

-- ---- corners by face
spot : ℕ → ℕ → ℕ
spot g r = 4 * g + r % 4

spot_is : (c : ℕ) → spot (c / 4) c ≡ c
unfolding spot
spot_is c = omega arith

spot-face : (g r : ℕ) → spot g r / 4 ≡ g
unfolding spot
spot-face g r = omega arith

spot-corner : (g r : ℕ) → spot g r % 4 ≡ r % 4
unfolding spot
spot-corner g r = omega arith

spot-below : (g r n : ℕ) → g < n → spot g r < 4 * n
unfolding spot
spot-below g r n l = omega arith

spot-turn : (k g r : ℕ) → turn k (spot g r) ≡ spot g (r + k)
unfolding spot
spot-turn k g r = omega arith

spot-same : (g r s : ℕ) → r % 4 ≡ s % 4 → spot g r ≡ spot g s
unfolding spot
spot-same g r s e = omega arith

module _ {M M' : IndexedMesh} (r : Renumbering M M') where
  to : ℕ → ℕ
  to c = spot (r.face_map.to (c / 4)) (c + (4 - r.start (c / 4)))

  from : ℕ → ℕ
  from c = spot (r.face_map.from (c / 4)) (c + r.start (r.face_map.from (c / 4)))

  from-to : (c : ℕ) → c < corners M → from (to c) ≡ c
  unfolding to from
  from-to c l =
      let b : c / 4 < M.faces = omega arith in
      let q : to c % 4 ≡ (c + (4 - r.start (c / 4))) % 4 = spot-corner (r.face_map.to (c / 4)) _ in
      let f : r.face_map.from (to c / 4) ≡ c / 4 = ap r.face_map.from (spot-face _ _) ∙ r.face_map.from-to (c / 4) b in
      ap (λ (g : ℕ). spot g (to c + r.start g)) f
      ∙ spot-same (c / 4) (to c + r.start (c / 4)) c (omega (arith, r.start-below (c / 4) b))
      ∙ spot_is c

  to-from : (c : ℕ) → c < corners M → to (from c) ≡ c
  unfolding to from
  to-from c l =
      let b : c / 4 < M.faces = omega arith in
      let g : ℕ = r.face_map.from (c / 4) in
      let q : from c % 4 ≡ (c + r.start g) % 4 = spot-corner g _ in
      ap (λ (h : ℕ). spot (r.face_map.to h) (from c + (4 - r.start h))) (spot-face g _)
      ∙ ap (λ (h : ℕ). spot h (from c + (4 - r.start g))) (r.face_map.to-from (c / 4) b)
      ∙ spot-same (c / 4) (from c + (4 - r.start g)) c (omega (arith, r.start-below g (r.face_map.from-below (c / 4) b)))
      ∙ spot_is c

  -- corners, as they are renumbered with their faces
  pub corner_map : Permutation (corners M)
  unfolding to from
  corner_map = record {
    to = to;
    from = from;
    to_below = λ c l. spot-below _ _ M.faces (r.face_map.to_below (c / 4) (omega arith));
    from-below = λ c l. spot-below _ _ M.faces (r.face_map.from-below (c / 4) (omega arith));
    from-to = from-to;
    to-from = to-from;
  }

  pub next-moves : (c : ℕ) → next (corner_map.to c) ≡ corner_map.to (next c)
  unfolding corner_map to
  next-moves c =
      let e : c / 4 ≡ next c / 4 = omega arith in
      spot-turn 1 (r.face_map.to (c / 4)) (c + (4 - r.start (c / 4)))
      ∙ spot-same (r.face_map.to (c / 4)) _ (next c + (4 - r.start (c / 4))) (omega arith)
      ∙ ap (λ (g : ℕ). spot (r.face_map.to g) (next c + (4 - r.start g))) e

  -- what a list by corner says of the new number of corner c
  pub corner-moves : {A : Type 0} {z : A} {rename : A → A} {xs ys : List A} → ByCorner z rename r.face_map.to r.start M.faces xs ys
      → (c : ℕ) → c < corners M → get_or ys (corner_map.to c) z ≡ rename (get_or xs c z)
  unfolding corner_map to spot
  corner-moves {z = z} {rename = rename} {xs = xs} w c l =
      let b : c / 4 < M.faces = omega arith in
      let e : 4 * (c / 4) + (r.start (c / 4) + (c + (4 - r.start (c / 4))) % 4) % 4 ≡ c = omega (arith, r.start-below (c / 4) b) in
      w.moves (c / 4) _ b (omega arith) ∙ ap (λ (d : ℕ). rename (get_or xs d z)) e

  -- a face of M' begins at the corner that the renumbering says
  pub face-begins : (f : ℕ) → f < M.faces → corner_map.to (turn (r.start f) (4 * f)) ≡ 4 * r.face_map.to f
  unfolding corner_map to spot
  face-begins f b =
      let s = r.start-below f b in
      let e : turn (r.start f) (4 * f) / 4 ≡ f = omega arith in
      let z : (turn (r.start f) (4 * f) + (4 - r.start f)) % 4 ≡ 0 = omega arith in
      ap (λ (g : ℕ). 4 * r.face_map.to g + (turn (r.start f) (4 * f) + (4 - r.start g)) % 4) e ∙ omega arith

  pub position-moves : (p k : ℕ) → p < M.vertices → k < 3 → coordinate M' (3 * r.vertex_map.to p + k) ≡ coordinate M (3 * p + k)
  position-moves p k l h = three-moves r.vertex_map.to M.vertices r.positions-carried p k l h

  abbrev pub alike : Alike same M M'
  alike = record {
    same-vertices = r.same-vertices;
    same-faces = r.same-faces;
    same-positions = r.positions-carried.same_length;
    same-indices = r.faces-carried.same_length;
    shape = record { corners = corner_map; vertex_map = r.vertex_map; next-moves = λ c l. next-moves c; at-moves = corner-moves r.faces-carried };
    sizes-move = λ p k b h. ap nat_abs (position-moves p k b h);
    tags-carried = r.tags-carried;
  }
