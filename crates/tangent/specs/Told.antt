-- What the tables by corner tell of the sides of a face, and what they are told from: the values of the corners and the twins.
-- That they are those of a mesh, a caller shows (`Renders` of proofs/RenderLaws.antt).
--
--   ValuesSmall values       every entry of the table of values is within the range of a coordinate
--   turned_at twins c i   the corner i steps about its vertex from corner c
--   term_at .. n k c i  what edge i and face i add to the sum about the vertex of corner c, which has n faces, of coordinate k
--   vector_at .. n k c  the corner vector along half-edge c
--   Part               what the six vectors of a side are made of: the corner vectors at its ends, and four control values
--   part_for p, part_at t   the part, for each case of the code's enum `Part`, and at place t of their order
--   place_for p         where it stands in their order
--   part_told .. n m k c p   the part p of the side of half-edge c, coordinate k, with n faces at its start and m at its end
--   SideSource valences g   what the parts of all sides of face g are asked with: a face, and how many faces its vertices have
--   parts_told .. valences g j   part j / 12 of side j % 12 / 3 of face g, coordinate j % 3
use Rattle.std.specs.Prelude.{List, [], ◌∷◌, ℕ, ◌+◌, ◌*◌, ◌/◌, ◌%◌}
use Rattle.std.specs.Prelude.{◌≤◌, ◌<◌, ℤ, pos, neg_ℤ, nat_abs, ◌+ℤ◌, ◌*ℤ◌, get_or}
use Rattle.integer.specs.Nearest.{nearest}
use Rattle.finite.specs.Fold.{sum_below_ℤ}
use Rattle.limits.specs.Limits.{max_faces, max_coordinate}
use Rattle.corner.specs.Corner.{next, across, prev}
use Rattle.mesh.specs.Fan.{iterate}
use Rattle.cosine.specs.Cosine.{scale}
use Rattle.cosine.specs.Weight.{edge_weight, face_weight}
use Rattle.control.specs.Control.{units, value_at, link_at, inner_at, edge_at}
use Rattle.tangent.specs.declared.parts.Part as code
use Rattle.tangent.specs.declared.parts.Part.TheVariants.{AtStart, AtEnd, Near, Far, InnerNear, InnerFar}

pub record ValuesSmall (values : List ℤ) : Type 0 where
  pub within : (i : ℕ) → nat_abs (get_or values i (pos 0)) ≤ max_coordinate

abbrev pub turned_at : List ℕ → ℕ → ℕ → ℕ
turned_at twins c i = iterate (λ e. link_at twins (prev e)) i c

abbrev pub term_at : List ℤ → List ℕ → ℕ → ℕ → ℕ → ℕ → ℤ
term_at values twins n k c i =
    edge_weight n i *ℤ value_at values k (next (turned_at twins c i)) +ℤ face_weight n i *ℤ value_at values k (across (turned_at twins c i))

unfoldable pub vector_at : List ℤ → List ℕ → ℕ → ℕ → ℕ → ℤ
vector_at values twins n k c = nearest (pos 256 *ℤ sum_below_ℤ (term_at values twins n k c) n) scale

pub data Part : Type 0 where
  at_start at_end near far inner_near inner_far : Part

abbrev pub part_for : code.Part → Part
part_for AtStart = at_start
part_for AtEnd = at_end
part_for Near = near
part_for Far = far
part_for InnerNear = inner_near
part_for InnerFar = inner_far

abbrev pub place_for : code.Part → ℕ
place_for AtStart = 0
place_for AtEnd = 1
place_for Near = 2
place_for Far = 3
place_for InnerNear = 4
place_for InnerFar = 5

unfoldable pub part_at : ℕ → Part
part_at t = get_or (at_start ∷ at_end ∷ near ∷ far ∷ inner_near ∷ inner_far ∷ []) t inner_far

unfoldable pub part_told : List ℤ → List ℕ → ℕ → ℕ → ℕ → ℕ → Part → ℤ
part_told values twins n m k c at_start = vector_at values twins n k c
part_told values twins n m k c at_end = neg_ℤ (vector_at values twins m k (link_at twins c))
part_told values twins n m k c near = units (edge_at values n k c (link_at twins c))
part_told values twins n m k c far = units (edge_at values m k (link_at twins c) c)
part_told values twins n m k c inner_near = units (inner_at values n k c)
part_told values twins n m k c inner_far = units (inner_at values m k (next c))

pub record SideSource (valences : List ℕ) (g : ℕ) : Type 0 where
  pub few : g < max_faces
  pub most : (s : ℕ) → s < 4 → get_or valences s 0 ≤ 16

abbrev pub parts_told : List ℤ → List ℕ → List ℕ → ℕ → ℕ → ℤ
parts_told values twins valences g j =
    let s = j % 12 / 3 in
    part_told values twins (get_or valences s 0) (get_or valences ((s + 1) % 4) 0) (j % 3) (4 * g + s) (part_at (j / 12))
