-- `cosine_term` meets its contract: cosines of at most 2^20 and vectors of at most 2^38 in size leave every product below 2^60.
use mathlib.Core.Path.{◌≡◌, refl, ap₂, ◌∙◌}
use Prim.Native.Nat.{◌^◌}
use native.Mathlib.Omega.{arith}
use lib.IntN.{ℤ}
use mir.Facts.{to_z-of_z}
use Rattle.tangent.specs.Vector.{first_term}
use Rattle.tangent.proofs.MachineLaws.{Term, wide, times, ◌⊠◌, ◌⊟◌, Ranged, size, result, fits}
use Rattle.tangent.proofs.side.cosine_term.Goals.{After-from-2}
use Rattle.tangent.proofs.side.cosine_term.Goals as goal

module _ (s : After-from-2) where
  abbrev here : Term
  here = wide s.from.result (2 ^ 20)

  abbrev there : Term
  there = wide s.from-2.result (2 ^ 20)

  abbrev left : Term
  left = times 2 here ⊠ wide s.args.u1 (2 ^ 38)

  abbrev right : Term
  right = there ⊠ wide s.args.u0 (2 ^ 35)

  here-is : s.from.result ≡ s.args.k0
  here-is = s.from.ensures ∙ to_z-of_z s.ranges.k0

  there-is : s.from-2.result ≡ s.args.k1
  there-is = s.from-2.ensures ∙ to_z-of_z s.ranges.k1

  here-ranged : Ranged here
  here-ranged = rw here-is s.requires.cosine

  there-ranged : Ranged there
  there-ranged = rw there-is s.requires.other-cosine

  ranged : Ranged (left ⊟ right)
  ranged = ((here-ranged, s.requires.middle), (there-ranged, s.requires.corner))

pub overflow_sub-result : goal.overflow_sub-result
overflow_sub-result s = fits (left s ⊟ right s) (ranged s) refl

pub returns : goal.returns
returns s =
    let e = left s ⊟ right s in (
      result e (ranged s) refl ∙ ap₂ (λ (k k' : ℤ). first_term k k' s.args.u0 s.args.u1) (here-is s) (there-is s),
      rw (result e (ranged s) refl) (omega (arith, size e (ranged s))),
    )
