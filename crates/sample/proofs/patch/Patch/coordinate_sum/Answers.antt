-- `coordinate_sum` meets its contract: the curve is small, so that it can be blended.
use mathlib.Core.Path.{sym, subst}
use mir.Syntax.{w64}
use Rattle.integer.proofs.Laws.{read_back}
use Rattle.sample.specs.Blend.{Fine}
use Rattle.sample.proofs.BlendLaws.{blended-list, curve-fine}
use Rattle.sample.proofs.patch.Patch.coordinate_sum.Goals as goal

pub curve-requires : goal.curve-requires
curve-requires c = c.requires.1

pub blend-requires : goal.blend-requires
blend-requires c = record { light = c.requires.0; fine = subst Fine (sym c.curve.ensures) (curve-fine c.args.self.small c.requires.1) }

pub returns : goal.returns
returns c = read_back w64 c.blend.type_inv (blended-list c.args.u _ c.curve.ensures c.blend.ensures)
