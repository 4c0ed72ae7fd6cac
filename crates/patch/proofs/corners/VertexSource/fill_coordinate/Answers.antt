-- `fill_coordinate` meets its contract: coordinate k of the corner points passed is written, by the rule of each vertex and its two sums.
use mathlib.Core.Path.{◌≡◌, ap, ◌∙◌}
use mathlib.Core.Bool.{false, ◌&&◌}
use Prim.Native.Nat.{ℕ, ◌+◌, ◌*◌, ◌<◌, ◌≤◌}
use native.Mathlib.Nat.{lt_of_lt_of_le}
use native.Mathlib.Omega.{arith}
use lib.IntN.{pos, nat_abs}
use lib.ListN.{get_or, get_or-replicate}
use mir.Syntax.{w32, w64}
use mir.Val.{SFits, to_z, of_z}
use mir.Facts.{to_z-of_z}
use Rattle.integer.proofs.Laws.{sfits-abs, read_back}
use Rattle.limits.specs.Limits.{max_vertices, max_coordinate}
use Rattle.control.specs.Control.{value_of}
use Rattle.control.specs.declared.model.Value.{Value}
use Rattle.patch.specs.Lists.{ring_sum_by, sharp_sum_by}
use Rattle.patch.specs.PatchTables.{CornerLists, Allowed, ruled_point}
use Rattle.patch.specs.Sources.{corners_in}
use Rattle.patch.proofs.MaskLaws.{Sized, corner-sized, units_small}
use Rattle.patch.proofs.CornerTableLaws.{ruled-entries, coordinate-more}
use Rattle.patch.proofs.corners.VertexSource.fill_coordinate.Goals.{After-corner_point-value}
use Rattle.patch.proofs.corners.VertexSource.fill_coordinate.Goals as goal

-- ---- what is stored for vertex p
module _ (c : After-corner_point-value) where
  abbrev lists : CornerLists
  lists = corners_in c.args.self

  abbrev p : ℕ
  p = c.loop-p.p

  few : p < max_vertices
  few = lt_of_lt_of_le c.loop-p-test.true c.args.self.serves.few

  allowed : Allowed (get_or lists.rules p 0) (get_or lists.positions (3 * p + c.args.k) (pos 0)) (ring_sum_by lists.faces lists.values c.args.k p)
      (sharp_sum_by lists.faces lists.values lists.ends c.args.k p)
  allowed = c.args.self.serves.allowed c.args.k p c.requires.axis c.loop-p-test.true

  ring-read : to_z w64 (of_z w64 (get_or c.sums.new.sums.ring p (pos 0))) ≡ ring_sum_by lists.faces lists.values c.args.k p
  ring-read =
      let e = c.sums.ensures.ring-are p few in
      let f : SFits w64 (get_or c.sums.new.sums.ring p (pos 0)) = sfits-abs _ (rw e (omega (arith, allowed.ring-fits))) in
      to_z-of_z f ∙ e

  sharp-read : to_z w64 (of_z w64 (get_or c.sums.new.sums.sharp p (pos 0))) ≡ sharp_sum_by lists.faces lists.values lists.ends c.args.k p
  sharp-read =
      let e = c.sums.ensures.sharp-are p few in
      let f : SFits w64 (get_or c.sums.new.sums.sharp p (pos 0)) = sfits-abs _ (rw e (omega (arith, allowed.sharp-fits))) in
      to_z-of_z f ∙ e

  value-is : c.corner_point-value.result ≡ value_of (ruled_point lists c.args.k p)
  value-is =
      c.corner_point-value.ensures
      ∙ ap value_of (ruled-entries lists c.args.k p _ _ _ (read_back w32 c.position-x.type_inv c.position-x.ensures) ring-read sharp-read)

  sized : Sized (ruled_point lists c.args.k p)
  unfolding ruled_point
  sized = corner-sized _ _ _ _ allowed

  small : nat_abs c.corner_point-value.result.units ≤ 256 * max_coordinate
  small = rw value-is (units_small (ruled_point lists c.args.k p) sized)

  wide-fits : SFits w64 c.corner_point-value.result.units
  wide-fits = sfits-abs _ (omega (arith, small))

  narrow-fits : SFits w32 c.corner_point-value.result.units
  narrow-fits = sfits-abs _ (omega (arith, small))

  units-read : to_z w32 (of_z w32 (to_z w64 (of_z w64 c.corner_point-value.result.units))) ≡ c.corner_point-value.result.units
  units-read = simp (to_z-of_z wide-fits, to_z-of_z narrow-fits)

pub sums-requires : goal.sums-requires
sums-requires c = record {
  ring-are = λ p l. get_or-replicate max_vertices p (pos 0) (pos 0) l;
  sharp-are = λ p l. get_or-replicate max_vertices p (pos 0) (pos 0) l;
}

pub overflow_cast-points : goal.overflow_cast-points
overflow_cast-points c =
    let t = (goal.at.overflow_cast-points c).After-corner_point-value in
    rw (to_z-of_z (wide-fits t)) (narrow-fits t)

pub loop-p-preserved : goal.loop-p-preserved
loop-p-preserved c =
    let t = (goal.at.loop-p-preserved c).After-corner_point-value in
    coordinate-more (ruled_point (lists t) c.args.k) c.args.k c.loop-p.p _ _ c.requires.axis c.loop-p.invariant (omega arith) (omega arith)
    (units-read t ∙ ap (λ (v : Value). v.units) (value-is t))
    (ap (λ (v : Value). get_or c.loop-p.flags c.loop-p.p false && v.exact) (value-is t))
