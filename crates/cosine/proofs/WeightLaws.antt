-- The weights by number of faces and place: where there is one and where not, and where each stands in its table.
use mathlib.Core.Path.{◌≡◌, refl, sym, ap, ap₂, ◌∙◌}
use Rattle.std.proofs.lemmas.List.{ext_get_or}
use mathlib.Core.Bool.{Bool, true, false, not, cond}
use Rattle.std.specs.Prelude.{Option, Some, None, is_some}
use mathlib.Core.List.{List}
use Prim.Native.Nat.{ℕ, ◌+◌, ◌/◌, ◌%◌, ◌≤◌, ◌<◌}
use native.Mathlib.Omega.{arith}
use lib.IntN.{ℤ, pos}
use lib.ListN.{length, get_or}
use borrow.Author.Tests.{leb-true, ltb-true}
use Rattle.integer.specs.Nearest.{nearest}
use Rattle.finite.proofs.FoldLaws.{bool_cases}
use Rattle.finite.specs.Filled.{list_below}
use Rattle.finite.proofs.FilledLaws.{length-list_below, list_below-at}
use Rattle.finite.proofs.AnyAll.{and-true}
use Rattle.cosine.specs.Weight.{divisor, weighed, weight_by, weight_place, place_of, weights_by, listed}

-- ---- there is a weight, or there is none
pub record Weighed (n i : ℕ) : Type 0 where
  pub least : 3 ≤ n
  pub most : n ≤ 16
  pub place : i < n

pub weighed-is : (n i : ℕ) → weighed n i ≡ true → Weighed n i
weighed-is n i t =
    let a = and-true _ _ t in
    let b = and-true _ _ a.1 in
    record { least = leb-true 3 n a.0; most = leb-true n 16 b.0; place = ltb-true i n b.1 }

-- no place is found, and one is: b is what the code's `is_none` answers of the place o
pub placed : (n i : ℕ) {o : Option ℕ} {b : Bool} → o ≡ place_of n i → is_some o ≡ not b → b ≡ not (weighed n i)
placed n i {o} {b} e s = go (weighed n i) b e s
  where
    go : (w b : Bool) → o ≡ cond w (Some (weight_place n i)) None → is_some o ≡ not b → b ≡ not w
    go true true e s = cc
    go true false e s = refl
    go false true e s = refl
    go false false e s = cc

module _ (f : ℕ → ℕ → ℤ) (n i : ℕ) where
  pub weight_is : weighed n i ≡ true → weight_by f n i ≡ nearest (f n i) (divisor n)
  unfolding weight_by
  weight_is t = rw t

  pub weight-off : weighed n i ≡ false → pos 0 ≡ weight_by f n i
  unfolding weight_by
  weight-off t = rw t

-- ---- the lists by place
place-faces : (n i : ℕ) → 3 ≤ n → i < 16 → 3 + weight_place n i / 16 ≡ n
place-faces n i a l = omega arith

place_rest : (n i : ℕ) → 3 ≤ n → i < 16 → weight_place n i % 16 ≡ i
place_rest n i a l = omega arith

pub place-below : (n i : ℕ) → Weighed n i → weight_place n i < 224
place-below n i w = omega (arith, w.place, w.most)

pub at_place : (f : ℕ → ℕ → ℤ) (n i : ℕ) → Weighed n i → get_or (weights_by f) (weight_place n i) (pos 0) ≡ weight_by f n i
unfolding weights_by
at_place f n i w =
    let l : i < 16 = omega (arith, w.place, w.most) in
    list_below-at (λ k. weight_by f (3 + k / 16) (k % 16)) 224 (weight_place n i) (pos 0) (place-below n i w)
    ∙ ap₂ (weight_by f) (place-faces n i w.least l) (place_rest n i w.least l)

-- what a list has for n and i, as the code reads it
module _ (xs : List ℤ) (n i : ℕ) where
  pub listed_at : weighed n i ≡ true → get_or xs (weight_place n i) (pos 0) ≡ listed xs n i
  listed_at t = rw t

  pub listed-off : weighed n i ≡ false → pos 0 ≡ listed xs n i
  listed-off t = rw t

-- the list of all weights has each of them
all_listed : (f : ℕ → ℕ → ℤ) (n i : ℕ) → listed (weights_by f) n i ≡ weight_by f n i
all_listed f n i =
    bool_cases (weighed n i)
    (λ t. sym (listed_at (weights_by f) n i t) ∙ at_place f n i (weighed-is n i t))
    (λ t. sym (listed-off (weights_by f) n i t) ∙ weight-off f n i t)

pub listed-is : (f : ℕ → ℕ → ℤ) (n i : ℕ) (xs : List ℤ) (r : ℤ) → xs ≡ weights_by f → r ≡ listed xs n i → r ≡ weight_by f n i
listed-is f n i xs r e h = h ∙ ap (λ (t : List ℤ). listed t n i) e ∙ all_listed f n i

-- how long it is
pub all-length : (f : ℕ → ℕ → ℤ) → length (weights_by f) ≡ 224
unfolding weights_by
all-length f = length-list_below (λ k. weight_by f (3 + k / 16) (k % 16)) 224

-- a list that was made place by place
pub made-is : (f : ℕ → ℕ → ℤ) (xs : List ℤ) → length xs ≡ 224
    → ((k : ℕ) → k < 224 → get_or xs k (pos 0) ≡ weight_by f (3 + k / 16) (k % 16)) → xs ≡ weights_by f
unfolding weights_by
made-is f xs e h =
    let g : ℕ → ℤ = λ k. weight_by f (3 + k / 16) (k % 16) in
    ext_get_or (pos 0) xs (list_below g 224) (e ∙ sym (all-length f))
    (λ k l. let b : k < 224 = omega (arith, e) in h k b ∙ sym (list_below-at g 224 k (pos 0) b))
