-- Corners of faces, numbered through: corner s of face f is corner 4f + s (rule T1).
--
--   turn i c   the corner i further than c in the same face
--   next c, across c, prev c   the corner 1, 2 and 3 further
--   face_corners indices f   the corners of face f: the part of the face list from 4f to 4f + 3, empty where 4f + 4 is above the list's length
--              (rule M6)
use Rattle.std.specs.Prelude.{cond, List, [], ℕ, ◌+◌, ◌*◌, ◌/◌, ◌%◌, leb, length, take, drop}

abbrev pub turn : ℕ → ℕ → ℕ
turn i c = c / 4 * 4 + (c % 4 + i) % 4

abbrev pub next : ℕ → ℕ
next c = turn 1 c

abbrev pub across : ℕ → ℕ
across c = turn 2 c

abbrev pub prev : ℕ → ℕ
prev c = turn 3 c

unfoldable pub face_corners : List ℕ → ℕ → List ℕ
face_corners indices f = cond (leb (4 * f + 4) (length indices)) (take 4 (drop (4 * f) indices)) []
