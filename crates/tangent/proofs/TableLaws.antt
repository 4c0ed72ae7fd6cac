-- The tables of the code against those of the definitions, place by place: each pair is compared by computing both.
use mathlib.Core.Path.{◌≡◌, refl}
use mathlib.Core.Bool.{true}
use mathlib.Core.List.{List, [], ◌∷◌}
use Prim.Native.Nat.{ℕ, ◌<◌}
use lib.Dec.{ltb}
use lib.ListN.{get_or}
use borrow.Author.Tests.{ltb-true}
use Rattle.finite.specs.Fold.{fold_below, all_below}
use Rattle.finite.specs.Filled.{list_below}
use Rattle.finite.proofs.AnyAll.{all_true}
use Rattle.finite.proofs.FilledLaws.{agree}
use Rattle.tangent.specs.Tangent.{VectorRow, along_side, against_side, row_of}
use Rattle.tangent.specs.Told.{part_for, part_at}
use Rattle.tangent.specs.Lists.{vector_kind_of}
use Rattle.tangent.specs.declared.parts.Part as part
use Rattle.tangent.specs.declared.parts.Part.TheVariants.{AtStart, AtEnd, Near, Far, InnerNear, InnerFar}
use Rattle.tangent.specs.declared.writer.Row as code
use Rattle.tangent.specs.declared.writer.Row.TheVariants.{Along, Against}
use Rattle.tangent.specs.declared.side.VectorKind.TheVariants.{Start, Middle, End, Inner, StartIn, EndIn}

-- ---- the 24 rows
abbrev pub row_for : code.Row → VectorRow
row_for (Along s q) = along_side s (vector_kind_of q)
row_for (Against s q) = against_side s (vector_kind_of q)

abbrev pub rows : List code.Row
rows =
    Along 0 Start ∷ Along 0 Middle ∷ Along 0 End ∷ Along 3 EndIn ∷ Along 0 Inner ∷ Against 1 StartIn
    ∷ Along 3 StartIn ∷ Against 2 Inner ∷ Against 1 EndIn ∷ Against 2 End ∷ Against 2 Middle ∷ Against 2 Start
    ∷ Against 3 End ∷ Along 0 StartIn ∷ Along 0 EndIn ∷ Along 1 Start ∷ Against 3 Middle ∷ Against 3 Inner
    ∷ Along 1 Inner ∷ Along 1 Middle ∷ Against 3 Start ∷ Against 2 EndIn ∷ Against 2 StartIn ∷ Along 1 End ∷ []

pub row-is : (z : code.Row) (m : ℕ) → m < 24 → row_for (get_or rows m z) ≡ row_of m
unfolding row_of list_below
row-is z m l = agree (λ m. row_for (get_or rows m z)) row_of 24 refl m l

all-below : all_below (λ m. ltb (row_of m).side 4) 24 ≡ true
unfolding fold_below row_of
all-below = refl

pub row-side-below : (m : ℕ) → m < 24 → (row_of m).side < 4
row-side-below m l = ltb-true (row_of m).side 4 (all_true (λ m. ltb (row_of m).side 4) 24 all-below m l)

-- ---- the six parts
abbrev pub parts : List part.Part
parts = AtStart ∷ AtEnd ∷ Near ∷ Far ∷ InnerNear ∷ InnerFar ∷ []

pub part-is : (z : part.Part) (t : ℕ) → t < 6 → part_for (get_or parts t z) ≡ part_at t
unfolding part_at list_below
part-is z t l = agree (λ t. part_for (get_or parts t z)) part_at 6 refl t l
