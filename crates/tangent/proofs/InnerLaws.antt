-- Circulating about an inner vertex never leaves its corners; and the vertices of a face with no corner on the boundary are inner ones.
use mathlib.Core.Path.{◌≡◌, ap, ◌∙◌}
use mathlib.Core.Bool.{false}
use Prim.Native.Nat.{ℕ, zero, suc, ◌+◌, ◌*◌, ◌%◌, ◌<◌}
use native.Mathlib.Omega.{arith}
use Rattle.finite.proofs.AnyAll.{any_false}
use Rattle.corner.specs.Corner.{turn, next, prev}
use Rattle.mesh.specs.HalfEdge.{twin}
use Rattle.mesh.specs.Fan.{around, iterate}
use Rattle.mesh.specs.IndexedMesh.{IndexedMesh, corners, at}
use Rattle.mesh.specs.WellFormed.{WellFormed}
use Rattle.mesh.specs.Tables.{Corners}
use Rattle.mesh.proofs.CornerLaws.{next-prev}
use Rattle.mesh.proofs.TwinLaws.{twin-ends}
use Rattle.mesh.proofs.CirculationLaws.{around-in}
use Rattle.mesh.proofs.BoundaryLaws.{InnerVertex, inner-vertex}
use Rattle.mesh.proofs.AcceptedLaws.{accepted-corners}
use Rattle.patch.specs.Point.{View, sharp}
use Rattle.patch.proofs.NeighbourLaws.{twin-below}
use Rattle.tangent.specs.Vector.{turned}
use Rattle.tangent.specs.Answer.{face_open}
use Rattle.tangent.proofs.SeenLaws.{turn-after}

module _ (S : View) (k : Corners S.shape.n) (p : ℕ) (w : InnerVertex S.shape.at S.shape.n p) where
  abbrev n : ℕ
  n = S.shape.n

  abbrev vertex : ℕ → ℕ
  vertex = S.shape.at

  stays : (c : ℕ) → c < n → vertex c ≡ p → (around (twin vertex n) n c < n) × (vertex (around (twin vertex n) n c) ≡ p)
  unfolding sharp
  stays c l h =
      let t = twin-below S.shape (prev c) (w.entering c l h) in
      let e = around-in (twin vertex n) n c l in
      (rw e t, ap vertex e ∙ (twin-ends vertex n (prev c) k t).0 ∙ ap vertex (next-prev c) ∙ h)

  pub ring-closed : (c i : ℕ) → c < S.shape.n → S.shape.at c ≡ p → (turned S c i < S.shape.n) × (S.shape.at (turned S c i) ≡ p)
  unfolding iterate
  ring-closed c zero l h = (l, h)
  ring-closed c (suc i) l h = let r = ring-closed c i l h in stays (turned S c i) r.0 r.1

-- ---- a face with no corner on the boundary: the corners of each side are at inner vertices
module _ {M : IndexedMesh} (a : WellFormed M) (g : ℕ) (l : g < M.faces) (closed : face_open M g ≡ false) where
  pub corner-inner : (s : ℕ) → s < 4 → InnerVertex (at M) (corners M) (at M (turn s (4 * g)))
  unfolding face_open
  corner-inner s b =
      let e : turn s (4 * g) ≡ 4 * g + s = omega arith in
      let c : 4 * g + s < corners M = omega arith in
      rw e (inner-vertex (at M) (accepted-corners a) a.simple (at M (4 * g + s)) (a.fans _ (a.named (4 * g + s) c)) (any_false _ 4 closed s b))

  pub side-inner : (s : ℕ) → s < 4
      → InnerVertex (at M) (corners M) (at M (turn s (4 * g))) × InnerVertex (at M) (corners M) (at M (next (turn s (4 * g))))
  side-inner s b = (corner-inner s b, rw (turn-after s (4 * g)) (corner-inner (suc s % 4) (omega arith)))
