-- `fill_links` meets its contract: the first n twins are copied.
use native.Mathlib.Omega.{arith}
use mathlib.Core.Path.{ap, ◌∙◌}
use mathlib.Core.List.{List}
use Prim.Native.Nat.{ℕ}
use lib.ListN.{get_or, length-take}
use Rattle.std.proofs.lemmas.List.{get_or-take}
use Rattle.mesh.specs.Tables.{twin_of}
use Rattle.mesh.proofs.ListLaws.{filled-front}
use Rattle.patch.proofs.counts.fill_links.Goals as goal

pub returns : goal.returns
returns c =
    let long = length-take c.args.n c.args.links.now in
    let new = c.copy_from_slice.ensures in
    filled-front (twin_of c.args.twins.now) c.args.n c.args.links.now c.copy_from_slice.new.self (omega (arith, new.len))
    (λ k l. ap (λ (t : List ℕ). get_or t k 0) new.after ∙ get_or-take c.args.n c.args.twins.now k 0 l)
