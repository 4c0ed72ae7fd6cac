-- `fill_values` meets its contract: after c turns the places of the first c corners hold their values.
use Rattle.std.proofs.Common.{◌≡◌, refl, ap, ◌∙◌, List, ℕ, ◌+◌, ◌*◌, ◌/◌, ◌≤◌, arith, w32, ℤ, pos, length}
use native.Mathlib.Nat.{min-le_right}
use lib.ListN.{get_or}
use Rattle.integer.proofs.Laws.{read_back}
use Rattle.finite.specs.Filled.{filled}
use Rattle.finite.proofs.FilledLaws.{length-filled, filled-start}
use Rattle.control.specs.Control.{corner_value}
use Rattle.control.proofs.ValuesLaws.{corner-stored}
use Rattle.control.proofs.values.fill_values.Goals.{After-put}
use Rattle.control.proofs.values.fill_values.Goals as goal

-- ---- the three coordinates are stored
module _ (c : After-put) where
  abbrev positions : List ℤ
  positions = c.args.positions.now

  abbrev faces : List ℕ
  faces = c.args.faces.now

  room : 4 * c.loop-c.c + 4 ≤ length c.args.values.now
  room = omega (arith, c.loop-c-test.true, c.min-n.ensures, min-le_right (length faces) (length c.args.values.now / 4))

  number : (k : ℕ) → get_or positions (3 * c.from-p.result + k) (pos 0) ≡ get_or positions (3 * get_or faces c.loop-c.c 0 + k) (pos 0)
  number k = ap (λ (p : ℕ). get_or positions (3 * p + k) (pos 0)) c.from-p.ensures

  stored : c.put.new.values ≡ filled (corner_value positions faces) (4 * (c.loop-c.c + 1)) c.args.values.now
  stored =
      c.put.ensures
      ∙ corner-stored positions faces c.loop-c.c c.args.values.now c.loop-c.values room c.loop-c.invariant.2
      (read_back w32 c.position.type_inv (c.position.ensures ∙ ap (λ (p : ℕ). get_or positions (3 * p) (pos 0)) c.from-p.ensures))
      (read_back w32 c.position-in-loop-c.type_inv (c.position-in-loop-c.ensures ∙ number 1))
      (read_back w32 c.position-in-loop-c-2.type_inv (c.position-in-loop-c-2.ensures ∙ number 2))

pub loop-c-init : goal.loop-c-init
loop-c-init c = (omega arith, refl, filled-start _ _)

pub loop-c-preserved : goal.loop-c-preserved
loop-c-preserved c =
    let p : After-put = (goal.at.loop-c-preserved c).After-put in (
      omega (arith, c.loop-c-test.true),
      ap length (stored p) ∙ length-filled (corner_value (positions p) (faces p)) _ c.args.values.now (omega (arith, room p)),
      stored p,
    )
