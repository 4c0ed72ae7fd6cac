-- Turning from corner to corner in a face: it stays in the face, how turns compose, and that `next` and `prev` undo each other.
use mathlib.Core.Path.{◌≡◌}
use Prim.Native.Nat.{ℕ, suc, ◌*◌, ◌/◌, ◌%◌, ◌<◌}
use native.Mathlib.Omega.{arith}
use Rattle.limits.specs.Limits.{no_twin}
use Rattle.corner.specs.Corner.{turn, next, prev}
use Rattle.mesh.specs.Tables.{Corners}

turn_inside : (n i c : ℕ) → n % 4 ≡ 0 → c < n → turn i c < n
turn_inside n i c w l = omega arith

pub turn_below : {n : ℕ} → Corners n → (i c : ℕ) → c < n → turn i c < n
turn_below {n} k i c l = turn_inside n i c k.whole l

pub next-below : {n : ℕ} → Corners n → (c : ℕ) → c < n → next c < n
next-below k c l = turn_below k 1 c l

pub prev-below : {n : ℕ} → Corners n → (c : ℕ) → c < n → prev c < n
prev-below k c l = turn_below k 3 c l

pub next-prev : (c : ℕ) → next (prev c) ≡ c
next-prev c = omega arith

pub prev-next : (c : ℕ) → prev (next c) ≡ c
prev-next c = omega arith

-- ---- how turns compose
pub turn-none : (c : ℕ) → turn 0 c ≡ c
turn-none c = omega arith

pub turn_suc : (i c : ℕ) → turn (suc i) c ≡ next (turn i c)
turn_suc i c = omega arith

pub turn-next : (i c : ℕ) → turn i (next c) ≡ turn (suc i) c
turn-next i c = omega arith

pub turn-mod : (i c : ℕ) → turn (i % 4) c ≡ turn i c
turn-mod i c = omega arith

-- corner c is the corner c % 4 of its face
pub turn-first : (c : ℕ) → turn (c % 4) (4 * (c / 4)) ≡ c
turn-first c = omega arith

-- the number of a corner is not `no_twin`
pub not_none : {n : ℕ} → Corners n → (c : ℕ) → c < n → c ≡ no_twin → ⊥
not_none k c l e = omega arith
