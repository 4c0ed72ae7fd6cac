-- The two senses in which the faces of another mesh of one shape can be turned, and what becomes there of a corner's neighbours and of a half-edge's ends.
--
--   Sense           the faces keep their turn (`same`), or are turned the other way (`reversed`)
--   turned z k c    the corner that is there k further than c
--   ahead z c, behind z c   the corners that are there after c and before it
--   leaving z c     the half-edge that leaves corner c there
--   entering z c    the half-edge that enters corner c there
--   origin z c      the corner that half-edge c leaves there
--   target z c      the corner that half-edge c enters there
--   Opposite z at c d   half-edges c and d join the same two vertices, each the other way
use mathlib.Core.Path.{◌≡◌, refl, sym}
use Prim.Native.Nat.{ℕ, suc, ◌*◌, ◌<◌}
use native.Mathlib.Omega.{arith}
use Rattle.corner.specs.Corner.{turn, next, prev}
use Rattle.mesh.specs.HalfEdge.{Simple}
use Rattle.mesh.proofs.CornerLaws.{turn_below, next-below, prev-below, next-prev, prev-next, turn-none, turn_suc}
use Rattle.mesh.specs.Tables.{Corners}

pub data Sense : Type 0 where
  same reversed : Sense

abbrev pub turned : Sense → ℕ → ℕ → ℕ
turned same k c = turn k c
turned reversed k c = turn (3 * k) c

abbrev pub ahead : Sense → ℕ → ℕ
ahead same c = next c
ahead reversed c = prev c

abbrev pub behind : Sense → ℕ → ℕ
behind same c = prev c
behind reversed c = next c

abbrev pub leaving : Sense → ℕ → ℕ
leaving same c = c
leaving reversed c = prev c

abbrev pub entering : Sense → ℕ → ℕ
entering same c = prev c
entering reversed c = c

abbrev pub origin : Sense → ℕ → ℕ
origin same c = c
origin reversed c = next c

abbrev pub target : Sense → ℕ → ℕ
target same c = next c
target reversed c = c

-- ---- corners
pub turned_none : (z : Sense) (c : ℕ) → turned z 0 c ≡ c
turned_none same c = turn-none c
turned_none reversed c = turn-none c

back-suc : (k c : ℕ) → prev (turn (3 * k) c) ≡ turn (3 * suc k) c
back-suc k c = omega arith

pub turned-suc : (z : Sense) (k c : ℕ) → turned z (suc k) c ≡ ahead z (turned z k c)
turned-suc same k c = turn_suc k c
turned-suc reversed k c = sym (back-suc k c)

-- two further is two further either way
pub turned-across : (z : Sense) (c : ℕ) → turned z 2 c ≡ turn 2 c
turned-across same c = refl
turned-across reversed c = let e : turn 6 c ≡ turn 2 c = omega arith in e

-- three further is one back
pub turned-behind : (z : Sense) (c : ℕ) → turned z 3 c ≡ behind z c
turned-behind same c = refl
turned-behind reversed c = let e : turn 9 c ≡ next c = omega arith in e

pub turned-below : (z : Sense) {n : ℕ} → Corners n → (k c : ℕ) → c < n → turned z k c < n
turned-below same w k c l = turn_below w k c l
turned-below reversed w k c l = turn_below w (3 * k) c l

-- ---- half-edges
pub origin-leaving : (z : Sense) (c : ℕ) → origin z (leaving z c) ≡ c
origin-leaving same c = refl
origin-leaving reversed c = next-prev c

pub leaving-origin : (z : Sense) (c : ℕ) → leaving z (origin z c) ≡ c
leaving-origin same c = refl
leaving-origin reversed c = prev-next c

pub origin-entering : (z : Sense) (c : ℕ) → origin z (entering z c) ≡ behind z c
origin-entering same c = refl
origin-entering reversed c = refl

pub target-origin : (z : Sense) (c : ℕ) → ahead z (origin z c) ≡ target z c
target-origin same c = refl
target-origin reversed c = prev-next c

-- ---- they stay in the face
pub ahead-below : (z : Sense) {n : ℕ} → Corners n → (c : ℕ) → c < n → ahead z c < n
ahead-below same w c l = next-below w c l
ahead-below reversed w c l = prev-below w c l

pub behind-below : (z : Sense) {n : ℕ} → Corners n → (c : ℕ) → c < n → behind z c < n
behind-below same w c l = prev-below w c l
behind-below reversed w c l = next-below w c l

pub leaving-below : (z : Sense) {n : ℕ} → Corners n → (c : ℕ) → c < n → leaving z c < n
leaving-below same w c l = l
leaving-below reversed w c l = prev-below w c l

pub entering-below : (z : Sense) {n : ℕ} → Corners n → (c : ℕ) → c < n → entering z c < n
entering-below same w c l = prev-below w c l
entering-below reversed w c l = l

pub origin-below : (z : Sense) {n : ℕ} → Corners n → (c : ℕ) → c < n → origin z c < n
origin-below same w c l = l
origin-below reversed w c l = next-below w c l

pub target_below : (z : Sense) {n : ℕ} → Corners n → (c : ℕ) → c < n → target z c < n
target_below same w c l = next-below w c l
target_below reversed w c l = l

abbrev pub Opposite : Sense → (ℕ → ℕ) → ℕ → ℕ → Type 0
Opposite z at c d = (at (origin z d) ≡ at (target z c)) × (at (target z d) ≡ at (origin z c))

-- it is all one which end is called the first
pub opposite : (z : Sense) (at : ℕ → ℕ) (c d : ℕ) → Opposite same at c d → Opposite z at c d
opposite same at c d o = o
opposite reversed at c d o = (o.1, o.0)

pub opposite-same : (z : Sense) (at : ℕ → ℕ) (c d : ℕ) → Opposite z at c d → Opposite same at c d
opposite-same same at c d o = o
opposite-same reversed at c d o = (o.1, o.0)

pub simple-in : (z : Sense) {n : ℕ} {at : ℕ → ℕ} → Simple at n → (c d : ℕ) → c < n → d < n
    → at (origin z c) ≡ at (origin z d) → at (target z c) ≡ at (target z d) → c ≡ d
simple-in same s c d l k p q = s c d l k p q
simple-in reversed s c d l k p q = s c d l k q p
