-- What circulating by the listed twins tells of a vertex p, from a corner c at it: whether its corners form a fan, and whether it is on the boundary.
use mathlib.Core.Path.{◌≡◌, sym}
use mathlib.Core.Bool.{Bool, true, not, cond}
use mathlib.Core.List.{List}
use Prim.Native.Nat.{ℕ}
use lib.Dec.{eqb}
use Rattle.limits.specs.Limits.{no_twin}
use Rattle.mesh.specs.Fan.{valence, on_boundary, around, fan}
use Rattle.mesh.specs.Tables.{Corners, vertex_of, twin_of, Twinned}
use Rattle.mesh.specs.Circulation.{Paired, Run, Circulated}
use Rattle.mesh.proofs.TwinLaws.{twin-paired, paired-ext}
use Rattle.mesh.proofs.SizeLaws.{indices-corners}
use Rattle.mesh.proofs.FanLaws.{table-fan}
use Rattle.mesh.proofs.BoundaryLaws.{table-boundary}

module _ {faces twins : List ℕ} {n : ℕ} (k : Twinned faces twins n) where
  pub corners-whole : Corners n
  corners-whole = indices-corners k.indices

  pub twins-paired : Paired (twin_of twins) n
  twins-paired = paired-ext (twin_of twins) k.twins-are (twin-paired (vertex_of faces) corners-whole k.simple)

  module _ (c p : ℕ) (here : vertex_of faces c ≡ p) where
    pub fan-told : (m : ℕ) → Circulated (twin_of twins) n c m → eqb m (valence (vertex_of faces) n p) ≡ fan (vertex_of faces) n p
    fan-told m w = rw (← here) (sym (table-fan (vertex_of faces) corners-whole k.simple (twin_of twins) k.twins-are c m w))

    pub boundary-told : (m : ℕ) (closed : Bool) → Run (around (twin_of twins) n) n c m (cond closed c no_twin)
        → fan (vertex_of faces) n p ≡ true → not closed ≡ on_boundary (vertex_of faces) n p
    boundary-told m closed r f =
        rw (← here) (table-boundary (vertex_of faces) corners-whole k.simple (twin_of twins) k.twins-are c m closed (rw here f) r)
