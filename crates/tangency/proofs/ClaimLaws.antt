-- The claim about the answers that the calls gave, from the claim about the definitions.
use mathlib.Core.Path.{◌≡◌, sym, ap, ◌∙◌, subst₂}
use mathlib.Core.Bool.{false}
use mathlib.Core.List.{List}
use Prim.Native.Nat.{ℕ, ◌+◌, ◌/◌, ◌%◌, ◌<◌}
use lib.IntN.{ℤ}
use lib.ListN.{length}
use Rattle.std.specs.Prelude.{Result}
use Rattle.answer.specs.declared.refusal.Refusal.{Refusal}
use Rattle.mesh.specs.HalfEdge.{twin, boundary}
use Rattle.mesh.specs.IndexedMesh.{IndexedMesh, corners, at}
use Rattle.mesh.specs.WellFormed.{WellFormed}
use Rattle.mesh.specs.Tables.{Corners}
use Rattle.mesh.proofs.TwinLaws.{twin-twin}
use Rattle.mesh.proofs.AcceptedLaws.{accepted-corners, accepted-well-formed}
use Rattle.symmetry.proofs.WellFormedMoves.{alike-well-formed}
use Rattle.patch.specs.Point.{sharp}
use Rattle.patch.specs.Patch.{view}
use Rattle.tangent.specs.Tangent.{VectorKind, tangent_list}
use Rattle.tangent.specs.Answer.{face_open, TangentsGiven}
use Rattle.surface.specs.Renumbering.{Renumbering}
use Rattle.surface.proofs.FromRenumbering.{alike}
use Rattle.surface.proofs.Seam.{twin_inside, inner-twin}
use Rattle.tangency.specs.Claim.{vector_along, Across, Written, Edge, TangentClaim}
use Rattle.tangency.proofs.ListLaws.{across-lists}
use Rattle.tangency.proofs.GivenLaws.{nothing-met, written-closed, written-list}
use Rattle.tangency.proofs.RenumberedLaws.{open-moves, renumbered-lists}

-- ---- across an edge
module _ {M : IndexedMesh} {g h : ℕ} {d e d' e' : List ℤ} {r s : Result Unit Refusal} (a : WellFormed M) (first : TangentsGiven M g d r d')
    (other : TangentsGiven M h e s e') (c : ℕ) (edge : Edge M c g h) (one : Written r) (two : Written s) where
  abbrev b : ℕ
  b = twin (at M) (corners M) c

  abbrev whole : Corners (corners M)
  whole = accepted-corners a

  inside : b < corners M
  inside = twin_inside (view M 0) whole a.simple c edge.below edge.inner

  inner : boundary (at M) (corners M) b ≡ false
  unfolding sharp
  inner = inner-twin (view M 0) whole a.simple c edge.below edge.inner

  back : twin (at M) (corners M) b ≡ c
  back = twin-twin (at M) whole a.simple c edge.below inside

  here : d' ≡ tangent_list M (c / 4)
  here = written-list first one ∙ ap (tangent_list M) edge.face

  there : e' ≡ tangent_list M (b / 4)
  there = written-list other two ∙ ap (tangent_list M) edge.other

  near-start : Across M c d' e'
  near-start = subst₂ (Across M c) (sym here) (sym there) (across-lists a c edge.below edge.inner)

  near-end : Across M (twin (at M) (corners M) c) e' d'
  near-end =
      subst₂ (Across M b) (sym there) (ap (λ (c : ℕ). tangent_list M (c / 4)) back ∙ sym here) (across-lists a b inside inner)

-- ---- of a renumbered mesh
module _ {M M' : IndexedMesh} {g g' : ℕ} {d x d' x' : List ℤ} {r r' : Result Unit Refusal} (a : WellFormed M) (first : TangentsGiven M g d r d')
    (second : TangentsGiven M' g' x r' x') (m : Renumbering M M') (l : g < M.faces) (at-face : g' ≡ m.face_map.to g) (one : Written r)
    (long : length x ≡ 72) where
  closed : face_open M g ≡ false
  closed = written-closed first one

  below : g' < M'.faces
  below = rw (at-face, m.same-faces) (m.face_map.to_below g l)

  taken : Written r'
  taken =
      second.answer-is
      ∙ rw (nothing-met (alike-well-formed a (alike m)) g' x below (ap (face_open M') at-face ∙ open-moves m a g l closed) long)

  renumbered : (q : VectorKind) (s k : ℕ) → s < 4 → k < 3 → vector_along x' q s k ≡ vector_along d' q ((m.start g + s) % 4) k
  renumbered q s k b axis =
      rw (written-list second taken, written-list first one, at-face) (renumbered-lists m a g l closed q s k b axis)

-- ---- the claim, of what the tangent call handed back
pub tangent-claim : TangentClaim
tangent-claim = record {
  given = λ {M} {g} {d} accepted call l closed long. call.answer-is ∙ rw (nothing-met (accepted-well-formed accepted) g d l closed long);
  across = λ accepted first other c edge one two.
      let a = accepted-well-formed accepted in
      (near-start a first other c edge one two, near-end a first other c edge one two);
  renumbered = λ accepted first second m l at-face one long.
      let a = accepted-well-formed accepted in
      (taken a first second m l at-face one long, renumbered a first second m l at-face one long);
}
