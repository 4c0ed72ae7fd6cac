-- What is wrong with a list of a mesh that is looked at one entry or one face at a time.
--
--   any_coordinate_off xs   a number of the list is beyond the limit of a coordinate (rule M2)
--   any_tag_off xs          a number of the list is above the largest tag (rule M3)
--   any_vertex_off v xs     a number of the list is v or above (rule M4)
--   any_vertex_twice xs     two corners of one face of the list have the same vertex (rule M4): a corner has that of one of the three others of its face
use Rattle.std.specs.Prelude.{Bool, List, ℕ, suc, ◌*◌, ◌/◌, eqb, ltb, leb, ℤ, nat_abs, length, get_or}
use Rattle.std.specs.List.{list_any}
use Rattle.finite.specs.Fold.{any_below}
use Rattle.limits.specs.Limits.{max_coordinate, corner_tag}
use Rattle.corner.specs.Corner.{turn}

abbrev pub any_coordinate_off : List ℤ → Bool
any_coordinate_off xs = list_any (λ x. ltb max_coordinate (nat_abs x)) xs

abbrev pub any_tag_off : List ℕ → Bool
any_tag_off xs = list_any (λ t. ltb corner_tag t) xs

abbrev pub any_vertex_off : ℕ → List ℕ → Bool
any_vertex_off v xs = list_any (λ p. leb v p) xs

-- corner c has the vertex of the corner i + 1 further in its face
abbrev pub vertex_again : List ℕ → ℕ → ℕ → Bool
vertex_again xs c i = eqb (get_or xs (turn (suc i) c) 0) (get_or xs c 0)

abbrev pub any_vertex_twice : List ℕ → Bool
any_vertex_twice xs = any_below (λ c. any_below (vertex_again xs c) 3) (4 * (length xs / 4))
