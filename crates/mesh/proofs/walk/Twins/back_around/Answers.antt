-- `back_around` meets its contract: the corner before c is the one after its twin, where it has one.
use mathlib.Core.Path.{◌≡◌, ◌∙◌}
use borrow.Author.Rules.{rules}
use Rattle.std.specs.Option.{option_map}
use Rattle.corner.specs.Corner.{next}
use Rattle.mesh.proofs.ConnectedLaws.{corners-whole, twins-paired}
use Rattle.mesh.proofs.WalkLaws.{back-corner}
use Rattle.mesh.proofs.walk.Twins.back_around.Goals as goal

pub returns : goal.returns
returns c =
    let t = c.args.self.twinned in
    let mapped : c.map.result ≡ option_map next c.twin.result = search rules in
    mapped ∙ back-corner (corners-whole t) (twins-paired t) _ _ c.requires c.twin.ensures
