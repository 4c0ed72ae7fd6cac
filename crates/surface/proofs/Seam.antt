-- The two faces of an edge meet: the four control points of a half-edge are those of its twin from the other end, and so are its samples.
use mathlib.Core.Path.{◌≡◌, sym, ap, ◌∙◌}
use mathlib.Core.Bool.{false}
use Prim.Native.Nat.{ℕ, zero, suc, ◌-◌, ◌*◌, ◌/◌, ◌%◌, ◌≤◌, ◌<◌}
use native.Mathlib.Nat.{mod-lt}
use native.Mathlib.Omega.{arith}
use borrow.Author.Tests.{ne_eqb}
use Rattle.limits.specs.Limits.{no_twin}
use Rattle.corner.specs.Corner.{next}
use Rattle.mesh.specs.HalfEdge.{twin, boundary, Simple}
use Rattle.mesh.proofs.CornerLaws.{prev-next, not_none, turn-none, turn-first}
use Rattle.mesh.proofs.TwinLaws.{twin-ends, twin-twin}
use Rattle.mesh.specs.Tables.{Corners}
use Rattle.sample.proofs.SampleLaws.{rounded-edge-flip}
use Rattle.patch.specs.Point.{View, sharp, corner_point, edge_point, along_point, before_point, point}
use Rattle.control.specs.Control.{units}
use Rattle.patch.specs.Patch.{owner, kind, patch_point, control_value}
use Rattle.patch.proofs.NeighbourLaws.{twin-below}
use Rattle.surface.specs.Renumbering.{place, on_side}
use Rattle.surface.proofs.FaceSamples.{sample_from, sample-side}

-- the edge point on a half-edge that is not sharp near its start, and near its end
pub along-inner : (S : View) (c : ℕ) → sharp S.shape c ≡ false → along_point S c ≡ edge_point S c (twin S.shape.at S.shape.n c)
unfolding along_point
along-inner S c e = rw e

before-inner : (S : View) (c : ℕ) → sharp S.shape c ≡ false → before_point S (next c) ≡ edge_point S (twin S.shape.at S.shape.n c) c
unfolding before_point
before-inner S c e = rw (prev-next c, e)

module _ (S : View) (k : Corners S.shape.n) (simple : Simple S.shape.at S.shape.n) (c : ℕ)
    (l : c < S.shape.n) (e : boundary S.shape.at S.shape.n c ≡ false) where
  abbrev d : ℕ
  d = twin S.shape.at S.shape.n c

  inner : sharp S.shape c ≡ false
  unfolding sharp
  inner = e

  pub twin_inside : twin S.shape.at S.shape.n c < S.shape.n
  twin_inside = twin-below S.shape c inner

  back : twin S.shape.at S.shape.n d ≡ c
  back = twin-twin S.shape.at k simple c l twin_inside

  pub inner-twin : sharp S.shape d ≡ false
  unfolding sharp boundary
  inner-twin = ne_eqb (twin S.shape.at S.shape.n d) no_twin (λ q. not_none k c l (sym back ∙ q))

  pub twin-points : (i : ℕ) → i < 4 → patch_point S d i ≡ patch_point S c (3 - i)
  unfolding patch_point owner kind point
  twin-points zero b = ap (corner_point S) (ap S.shape.at (turn-none d) ∙ (twin-ends S.shape.at S.shape.n c k twin_inside).0)
  twin-points (suc zero) b = rw turn-none (along-inner S d inner-twin) ∙ ap (edge_point S d) back ∙ sym (before-inner S c inner)
  twin-points (suc (suc zero)) b =
      before-inner S d inner-twin ∙ ap (λ (j : ℕ). edge_point S j d) back ∙ sym (rw turn-none (along-inner S c inner))
  twin-points (suc (suc (suc zero))) b =
      ap (corner_point S) ((twin-ends S.shape.at S.shape.n c k twin_inside).1 ∙ ap S.shape.at (sym (turn-none c)))
  twin-points (suc (suc (suc (suc i)))) b = absurd (omega arith)

  -- place t of a half-edge and place N - t of its twin have the same sample (rule C7)
  pub seam : (n t : ℕ) → t ≤ n → sample_from S n (4 * (c / 4)) (on_side n (c % 4) t) ≡ sample_from S n (4 * (d / 4)) (on_side n (d % 4) (n - t))
  seam n t h =
      sample-side S n (c % 4) t (4 * (c / 4)) h (mod-lt c (omega arith))
      ∙ ap (λ (j : ℕ). sample_from S n j (place t 0)) (turn-first c)
      ∙ sym (rounded-edge-flip n t (control_value S c) (control_value S d) h (λ i b. ap units (twin-points i b)))
      ∙ ap (λ (j : ℕ). sample_from S n j (place (n - t) 0)) (sym (turn-first d))
      ∙ sym (sample-side S n (d % 4) (n - t) (4 * (d / 4)) (omega arith) (mod-lt d (omega arith)))
