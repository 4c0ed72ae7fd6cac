-- The refusal of each number, also of one that the table does not have: what a number tells.
use Rattle.std.specs.Prelude.{◌≡◌, refl, Bool, true, false, List, [], ◌∷◌, ℕ, ◌-◌, get_or}
use Rattle.answer.specs.declared.refusal.Refusal.{Refusal}
use Rattle.answer.specs.declared.refusal.Refusal.TheVariants.{Sizes, ListShort, Coordinate, Tag, Vertex, VertexTwice, HalfEdgeTwice, Unused, Fan, Valence, InnerTag, NoFace, Control, Steps, File, Lengths, LineShort, NoTangents, Other}
use Rattle.answer.specs.Listed.{listed}

-- the refusals of the table, by their numbers
abbrev pub names : List Refusal
names =
    Sizes ∷ ListShort ∷ Coordinate ∷ Tag ∷ Vertex ∷ VertexTwice ∷ HalfEdgeTwice ∷ Unused ∷ Fan ∷ Valence ∷ InnerTag ∷ NoFace ∷ Control ∷ Steps ∷ File ∷ Lengths
    ∷ LineShort ∷ NoTangents ∷ []

-- the refusal of a number
abbrev pub told_by : (k : ℕ) (b : Bool) → listed k ≡ b → Refusal
told_by k true e = get_or names (k - 1) Sizes
told_by k false e = Other (record { number = k; unlisted = e })

abbrev pub told : ℕ → Refusal
told k = told_by k (listed k) refl
