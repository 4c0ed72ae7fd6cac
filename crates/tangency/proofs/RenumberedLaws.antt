-- A renumbered face: it has no corner at a boundary vertex where the face had none, and its vectors are those of the face, side by side.
use mathlib.Core.Path.{◌≡◌, sym, ap, ◌∙◌}
use mathlib.Core.Bool.{false}
use Prim.Native.Nat.{ℕ, zero, suc, ◌+◌, ◌*◌, ◌%◌, ◌<◌}
use native.Mathlib.Nat.{mod-lt}
use native.Mathlib.Omega.{arith}
use Rattle.finite.proofs.AnyAll.{any_false, any_none}
use Rattle.corner.specs.Corner.{turn}
use Rattle.mesh.specs.Fan.{on_boundary}
use Rattle.mesh.specs.IndexedMesh.{IndexedMesh, corners, at}
use Rattle.mesh.specs.WellFormed.{WellFormed}
use Rattle.mesh.proofs.CornerLaws.{turn-none, turn_suc, turn-next, turn-mod}
use Rattle.symmetry.proofs.Iso.{turn-moves}
use Rattle.symmetry.proofs.VertexMoves.{on-boundary-moves}
use Rattle.symmetry.proofs.WellFormedMoves.{sound}
use Rattle.patch.specs.Patch.{view}
use Rattle.tangent.specs.Tangent.{VectorKind, vector, tangent_list}
use Rattle.tangent.specs.Answer.{face_open}
use Rattle.tangent.proofs.InnerLaws.{side-inner}
use Rattle.surface.specs.Renumbering.{Renumbering}
use Rattle.surface.proofs.FromRenumbering.{corner_map, face-begins, position-moves, alike}
use Rattle.tangency.specs.Claim.{vector_along}
use Rattle.tangency.proofs.ListLaws.{along-is}
use Rattle.tangency.proofs.VectorMoves.{vector-moves}

turn-turn : (s t c : ℕ) → turn s (turn t c) ≡ turn (t + s) c
turn-turn s zero c = let e : s ≡ 0 + s = omega arith in ap (turn s) (turn-none c) ∙ ap (λ (i : ℕ). turn i c) e
turn-turn s (suc t) c =
    let e : t + suc s ≡ suc t + s = omega arith in
    ap (turn s) (turn_suc t c) ∙ turn-next s (turn t c) ∙ turn-turn (suc s) t c ∙ ap (λ (i : ℕ). turn i c) e

turn_inside : (g s n : ℕ) → g < n → turn s (4 * g) < 4 * n
turn_inside g s n l = omega arith

module _ {M M' : IndexedMesh} (r : Renumbering M M') (a : WellFormed M) (g : ℕ) (l : g < M.faces) (closed : face_open M g ≡ false) where
  -- side s of the new face was this side of the old one
  abbrev was : ℕ → ℕ
  was s = (r.start g + s) % 4

  pub open-moves : face_open M' (r.face_map.to g) ≡ false
  unfolding face_open
  open-moves =
      any_none _ 4 (λ s b.
      let p = at M (4 * g + was s) in
      let named = a.named (4 * g + was s) (omega arith) in
      ap (λ (f : ℕ). on_boundary (at M') (4 * f) (at M' (4 * r.face_map.to g + s))) r.same-faces
      ∙ ap (on_boundary (at M') (corners M)) (r.faces-carried.moves g s l b)
      ∙ on-boundary-moves (sound a) (alike r).shape p named (a.fans p named)
      ∙ any_false _ 4 closed (was s) (mod-lt (r.start g + s) (omega arith)))

  side-begins : (s : ℕ) → turn s (4 * r.face_map.to g) ≡ (corner_map r).to (turn (was s) (4 * g))
  side-begins s =
      ap (turn s) (sym (face-begins r g l))
      ∙ turn-moves (sound a) (alike r).shape s (turn (r.start g) (4 * g)) (turn_inside g (r.start g) M.faces l)
      ∙ ap (corner_map r).to (turn-turn s (r.start g) (4 * g) ∙ sym (turn-mod (r.start g + s) (4 * g)))

  vector-renumbered : (q : VectorKind) (s k : ℕ) → s < 4 → k < 3
      → vector (view M' k) (turn s (4 * r.face_map.to g)) q ≡ vector (view M k) (turn (was s) (4 * g)) q
  vector-renumbered q s k b axis =
      let ends = side-inner a g l closed (was s) (mod-lt (r.start g + s) (omega arith)) in
      ap (λ (c : ℕ). vector (view M' k) c q) (side-begins s)
      ∙ vector-moves a (alike r) (view M k).value (view M' k).value (λ p h. position-moves r p k h axis)
      (turn (was s) (4 * g)) (turn_inside g (was s) M.faces l) ends.0 ends.1 q

  pub renumbered-lists : (q : VectorKind) (s k : ℕ) → s < 4 → k < 3
      → vector_along (tangent_list M' (r.face_map.to g)) q s k ≡ vector_along (tangent_list M g) q ((r.start g + s) % 4) k
  renumbered-lists q s k b axis =
      along-is M' (r.face_map.to g) q s k b axis
      ∙ vector-renumbered q s k b axis
      ∙ sym (along-is M g q (was s) k (mod-lt (r.start g + s) (omega arith)) axis)
