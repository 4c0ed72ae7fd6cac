-- The numbers of the refusals (rule R2), for each case of the code's enum `Refusal`. A call that finds a cause of its own may give a number that the table
-- does not have.
use Rattle.std.specs.Prelude.{ℕ}
use Rattle.answer.specs.declared.refusal.Refusal.{Refusal}
use Rattle.answer.specs.declared.refusal.Refusal.TheVariants.{Sizes, ListShort, Coordinate, Tag, Vertex, VertexTwice, HalfEdgeTwice, Unused, Fan, Valence, InnerTag, NoFace, Control, Steps, File, Lengths, LineShort, NoTangents, Other}

abbrev pub number : Refusal → ℕ
number Sizes = 1
number ListShort = 2
number Coordinate = 3
number Tag = 4
number Vertex = 5
number VertexTwice = 6
number HalfEdgeTwice = 7
number Unused = 8
number Fan = 9
number Valence = 10
number InnerTag = 11
number NoFace = 12
number Control = 13
number Steps = 14
number File = 15
number Lengths = 16
number LineShort = 17
number NoTangents = 18
number (Other own) = own.number
