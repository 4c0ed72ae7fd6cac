-- What the points of a patch are read from: the listed twins tell which half-edges are sharp, two tables tell which point of which corner each of
-- the sixteen is, and three coordinates make a point.
use mathlib.Core.Path.{◌≡◌, refl, ap}
use mathlib.Core.Bool.{Bool}
use mathlib.Core.List.{List, [], ◌∷◌, map}
use Prim.Native.Nat.{ℕ, zero, suc, ◌+◌, ◌*◌, ◌/◌, ◌%◌, ◌≤◌, ◌<◌}
use native.Mathlib.Nat.{not-suc-le-zero}
use native.Mathlib.Omega.{arith}
use lib.Dec.{eqb, ltb}
use lib.IntN.{ℤ}
use lib.ListN.{length, get_or}
use borrow.Author.Tests.{ltb-true}
use Rattle.finite.specs.Fold.{fold_below}
use Rattle.finite.proofs.AnyAll.{all_true}
use Rattle.limits.specs.Limits.{no_twin}
use Rattle.corner.specs.Corner.{turn}
use Rattle.mesh.specs.HalfEdge.{boundary}
use Rattle.mesh.proofs.CornerLaws.{turn_below}
use Rattle.mesh.specs.Tables.{vertex_of}
use Rattle.patch.specs.Point.{sharp}
use Rattle.patch.specs.Patch.{owner, kind}
use Rattle.patch.specs.Lists.{shape_of, boundary_in, sharp_in, Twins}
use Rattle.patch.specs.Written.{PatchLists, Source, point_from, number_from}
use Rattle.control.specs.declared.model.ControlPoint.{ControlPoint}

-- ---- twins
module _ {faces twins : List ℕ} (t : Twins faces twins) (c : ℕ) (l : c < length faces) where
  pub boundary-in : boundary_in twins c ≡ boundary (vertex_of faces) (length faces) c
  unfolding boundary
  boundary-in = ap (λ (d : ℕ). eqb d no_twin) (t.are c l)

  pub sharp-in : sharp_in twins c ≡ sharp (shape_of faces) c
  unfolding sharp
  sharp-in = boundary-in

-- ---- the two tables of a patch
-- the corner of a face that owns a point is one of its corners
pub owner-listed : {D : PatchLists} → Source D → (g m c : ℕ) → 4 * g + 4 ≤ length D.faces → c ≡ turn m (4 * g) → c < length D.faces
owner-listed t g m c l e = rw e (turn_below t.whole m (4 * g) (omega arith))

-- number 3m + k of a patch is coordinate k of its point m
pub number-point : (D : PatchLists) (g m k : ℕ) → k < 3 → number_from D g (3 * m + k) ≡ point_from D k (turn (owner m) (4 * g)) (kind m)
unfolding number_from
number-point D g m k l =
    let axis : (3 * m + k) % 3 ≡ k = omega arith in
    let which : (3 * m + k) / 3 ≡ m = omega arith in
    rw (axis, which)

pub owner-below : (m : ℕ) → m < 16 → owner m < 4
unfolding fold_below owner
owner-below m l = ltb-true _ _ (all_true (λ j. ltb (owner j) 4) 16 refl m l)

-- a table whose entries f gives from those of another
pub table_at : {A B : Type 0} (f : A → B) (b : B) (xs : List A) (a : A) (m : ℕ) → m < length xs → f (get_or xs m a) ≡ get_or (map f xs) m b
table_at f b [] a m l = absurd (not-suc-le-zero l)
table_at f b (x ∷ xs) a zero l = refl
table_at f b (x ∷ xs) a (suc m) l = table_at f b xs a m (omega arith)

-- ---- points
pub same_point : {x y z x' y' z' : ℤ} {e e' : Bool} → x ≡ x' → y ≡ y' → z ≡ z' → e ≡ e'
    → ◌≡◌ {A = ControlPoint ℤ} (record { x = x; y = y; z = z; exact = e }) (record { x = x'; y = y'; z = z'; exact = e' })
same_point p q r s = cc
