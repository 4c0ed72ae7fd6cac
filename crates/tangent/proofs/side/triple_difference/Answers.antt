-- `triple_difference` meets its contract: three times a difference of numbers of at most 2^35 in size fits 64 bits.
use mathlib.Core.Path.{refl}
use Prim.Native.Nat.{◌^◌}
use native.Mathlib.Omega.{arith}
use Rattle.tangent.proofs.MachineLaws.{Term, wide, times, ◌⊟◌, size, result}
use Rattle.tangent.proofs.side.triple_difference.Goals.{Start}
use Rattle.tangent.proofs.side.triple_difference.Goals as goal

abbrev between : Start → Term
between s = wide s.args.y (2 ^ 35) ⊟ wide s.args.z (2 ^ 35)

pub returns : goal.returns
returns s =
    let e = times 3 (between s) in
    (result e s.requires refl, rw (result e s.requires refl) (omega (arith, size e s.requires)))
