-- What is off the limits of a mesh: sizes, and the valence of a vertex.
--
--   off a b x          x is off the range from a to b
--   sizes_off v f positions tags indices   V or F is off its range (rule M1), or the lists are not 3V, V and 4F long (rules M2, M3, M4); for sizes
--                      v, f and lists of these lengths
--   valence_bad boundary m   m corners are too few or too many for a vertex, on the boundary or inside (rule T6)
use Rattle.std.specs.Prelude.{Bool, not, cond, ◌||◌, ℕ, ◌*◌, eqb, ltb}
use Rattle.limits.specs.Limits.{min_vertices, max_vertices, min_faces, max_faces}
use Rattle.limits.specs.Limits.{min_valence, max_valence, min_boundary_faces, max_boundary_faces}

abbrev pub off : ℕ → ℕ → ℕ → Bool
off a b x = ltb x a || ltb b x

unfoldable pub sizes_off : ℕ → ℕ → ℕ → ℕ → ℕ → Bool
sizes_off v f positions tags indices =
    off min_vertices max_vertices v || (off min_faces max_faces f
    || (not (eqb positions (3 * v)) || (not (eqb tags v) || not (eqb indices (4 * f)))))

abbrev pub valence_bad : Bool → ℕ → Bool
valence_bad boundary m = cond boundary (off min_boundary_faces max_boundary_faces m) (off min_valence max_valence m)
