-- Circulating about a vertex step by step, for the contracts of private functions and for proofs.
--
--   back_around tw n c  the corner that `around` leads from to c
--   Paired tw n        the twins tw come in pairs, as those of a mesh without refusal 7 do
--   Steps s n o m      m different corners: o, and what the steps s lead to from it, one after the other
--   Turn s b n o m     m such corners, and the step from the last one leads back to o (a closed turn), or to none, and so does the step b from o,
--                      which undoes s (a chain, which ends at boundary half-edges)
--   Run s n o m z      m such corners, and the step from the last one leads to z
--   Circulated tw n c m   m is the size of the turn through corner c: how many corners circulating from c meets
--   Ordered at n p first   the corners at p are `first` and what circulating leads to from it, each once
--   ClosedTurn at n p  they are so ordered from some corner on, and the step from the last leads back to the first (rule T7)
--   OneChain at n p    they are so ordered from some corner on, a boundary half-edge leaves p at the first, and one enters p at the last
--                      (rule T7)
use Rattle.std.specs.Prelude.{◌≡◌, true, cond, ◌⊎◌, ℕ, suc, ◌<◌, eqb, ltb}
use Rattle.limits.specs.Limits.{no_twin}
use Rattle.corner.specs.Corner.{next, prev}
use Rattle.mesh.specs.HalfEdge.{twin, boundary}
use Rattle.mesh.specs.Fan.{valence, around, iterate}

unfoldable pub back_around : (ℕ → ℕ) → ℕ → ℕ → ℕ
back_around tw n c = cond (ltb c n) (cond (eqb (tw c) no_twin) no_twin (next (tw c))) no_twin

pub record Paired (tw : ℕ → ℕ) (n : ℕ) : Type 0 where
  pub pairs : (c : ℕ) → c < n → (tw c ≡ no_twin) ⊎ ((tw c < n) × (tw (tw c) ≡ c))

pub record Steps (s : ℕ → ℕ) (n o m : ℕ) : Type 0 where
  pub some : 0 < m
  pub inside : (i : ℕ) → i < m → iterate s i o < n
  pub apart : (i j : ℕ) → i < m → j < m → iterate s i o ≡ iterate s j o → i ≡ j

pub record Turn (s b : ℕ → ℕ) (n o m : ℕ) : Type 0 where
  pub corners : Steps s n o m
  pub ends : (iterate s m o ≡ o) ⊎ ((iterate s m o ≡ no_twin) × (b o ≡ no_twin))

pub record Run (s : ℕ → ℕ) (n o m z : ℕ) : Type 0 where
  pub corners : Steps s n o m
  pub ends : iterate s m o ≡ z

pub record Circulated (tw : ℕ → ℕ) (n c m : ℕ) : Type 0 where
  pub first : ℕ
  pub turn : Turn (around tw n) (back_around tw n) n first m
  pub steps : ℕ
  pub few : steps < m
  pub through : iterate (around tw n) steps first ≡ c

pub record Ordered (at : ℕ → ℕ) (n p first : ℕ) : Type 0 where
  pub corners : Steps (around (twin at n) n) n first (valence at n p)
  pub here : (i : ℕ) → i < valence at n p → at (iterate (around (twin at n) n) i first) ≡ p
  pub all : (c : ℕ) → c < n → at c ≡ p → (i : ℕ) × (i < valence at n p) × (iterate (around (twin at n) n) i first ≡ c)

pub record ClosedTurn (at : ℕ → ℕ) (n p : ℕ) : Type 0 where
  pub first : ℕ
  pub order : Ordered at n p first
  pub back : iterate (around (twin at n) n) (valence at n p) first ≡ first

pub record OneChain (at : ℕ → ℕ) (n p : ℕ) : Type 0 where
  pub first : ℕ
  pub order : Ordered at n p first
  pub leaving : boundary at n first ≡ true
  pub entering : (i : ℕ) → suc i ≡ valence at n p → boundary at n (prev (iterate (around (twin at n) n) i first)) ≡ true
