-- Lists as tables, for the contracts of private functions: what the lists of a mesh say of its corners, and the tables that the code keeps.
--
--   Corners n         n corners fill whole faces, and their numbers stay below `no_twin`
--   vertex_of faces c, twin_of twins c   the vertex of corner c, the twin of half-edge c, as the lists have them
--   Holds z xs k g    each place p below k of the list xs holds g p
--   latest p n        the greatest number below n that has p, if one has
--   corner_in e       the corner that an entry of these tables stands for: none for 0, corner c for c + 1
--   HoldsCorners xs k g   each place p below k of the list xs stands for the corner g p
--   Chained at c head link   the corners below c, chained by vertex from the last to the first: `head` has the last
--                     corner at each vertex, `link` the corner at the same vertex before each corner
--   Unchained head    the table of the last corners before the first corner is chained
--   Indices faces n   the first n numbers of the face list are whole faces, and their vertices have places in the tables
--   Findable faces head link n   these chains, of no more corners than a mesh has, with a next one in the list each: what half-edges are found by
--   Valences faces valences n    `valences` has the number of corners at each vertex
--   Twinned faces twins n   no half-edge of the faces occurs twice, and the first n places of the list of twins hold their twins
--   Headed faces head n     `head` has the last corner at each vertex
--   Connected faces twins head n   both: what circulating about a vertex rests on
--   Counted faces twins v f   what the counts of a mesh of v vertices and f faces rest on, with its twins
use Rattle.std.specs.Prelude.{◌≡◌, Bool, cond, Option, None, Some, List, ℕ, zero, suc, ◌*◌, ◌%◌, ◌≤◌, ◌<◌, eqb, length, get_or}
use Rattle.limits.specs.Limits.{max_vertices, max_faces, no_twin}
use Rattle.corner.specs.Corner.{next}
use Rattle.mesh.specs.HalfEdge.{twin, Simple}
use Rattle.mesh.specs.Fan.{valence}

pub record Corners (n : ℕ) : Type 0 where
  pub whole : n % 4 ≡ 0
  pub fits : n < no_twin

abbrev pub Holds : {A : Type 0} → A → List A → ℕ → (ℕ → A) → Type 0
Holds z xs k g = (p : ℕ) → p < k → get_or xs p z ≡ g p

abbrev pub vertex_of : List ℕ → ℕ → ℕ
vertex_of faces c = get_or faces c 0

abbrev pub twin_of : List ℕ → ℕ → ℕ
twin_of twins c = get_or twins c 0

abbrev pub corner_in : ℕ → Option ℕ
corner_in zero = None
corner_in (suc c) = Some c

abbrev pub HoldsCorners : List ℕ → ℕ → (ℕ → Option ℕ) → Type 0
HoldsCorners xs k g = (p : ℕ) → p < k → corner_in (get_or xs p 0) ≡ g p

unfoldable pub latest : (ℕ → Bool) → ℕ → Option ℕ
latest p zero = None
latest p (suc n) = cond (p n) (Some n) (latest p n)

pub record Chained (at : ℕ → ℕ) (c : ℕ) (head link : List ℕ) : Type 0 where
  pub heads : HoldsCorners head max_vertices (λ p. latest (λ d. eqb (at d) p) c)
  pub links : HoldsCorners link c (λ e. latest (λ d. eqb (at d) (at e)) e)

abbrev pub Unchained : List ℕ → Type 0
Unchained head = HoldsCorners head max_vertices (λ p. None)

pub record Indices (faces : List ℕ) (n : ℕ) : Type 0 where
  pub whole : n % 4 ≡ 0
  pub few : n ≤ 4 * max_faces
  pub listed : n ≤ length faces
  pub named : (c : ℕ) → c < n → vertex_of faces c < max_vertices

pub record Findable (faces : List ℕ) (head link : List ℕ) (n : ℕ) : Type 0 where
  pub next-listed : (c : ℕ) → c < n → next c < length faces
  pub few : n ≤ 4 * max_faces
  pub chained : Chained (vertex_of faces) n head link

pub record Valences (faces valences : List ℕ) (n : ℕ) : Type 0 where
  pub listed : max_vertices ≤ length valences
  pub are : Holds 0 valences max_vertices (valence (vertex_of faces) n)

pub record Twinned (faces twins : List ℕ) (n : ℕ) : Type 0 where
  pub indices : Indices faces n
  pub simple : Simple (vertex_of faces) n
  pub twins-listed : n ≤ length twins
  pub twins-are : Holds 0 twins n (twin (vertex_of faces) n)

pub record Headed (faces head : List ℕ) (n : ℕ) : Type 0 where
  pub heads-listed : max_vertices ≤ length head
  pub heads-are : HoldsCorners head max_vertices (λ p. latest (λ d. eqb (vertex_of faces d) p) n)

pub record Connected (faces twins head : List ℕ) (n : ℕ) : Type 0 where
  pub twinned : Twinned faces twins n
  pub headed : Headed faces head n

pub record Counted (faces twins : List ℕ) (v f : ℕ) : Type 0 where
  pub twinned : Twinned faces twins (4 * f)
  pub named : (c : ℕ) → c < 4 * f → vertex_of faces c < v
  pub ends : (c : ℕ) → c < 4 * f → vertex_of faces (next c) ≡ vertex_of faces c → ⊥
