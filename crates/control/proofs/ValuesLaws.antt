-- The table of values by corner that is filled from the lists of a mesh: what stands in it, and that it is small where the positions are.
use mathlib.Core.Path.{◌≡◌, sym, ap, ◌∙◌}
use mathlib.Core.List.{List}
use Prim.Native.Nat.{ℕ, ◌+◌, ◌*◌, ◌/◌, ◌%◌, ◌≤◌, ◌<◌, min}
use native.Mathlib.Nat.{min-eq_left}
use native.Mathlib.Omega.{arith}
use lib.Dec.{ltb}
use lib.IntN.{ℤ, pos, nat_abs}
use lib.ListN.{length, get_or, set}
use borrow.Author.Tests.{lt-ltb, ltb-true, ltb-false}
use Rattle.finite.specs.Filled.{filled}
use Rattle.finite.proofs.FoldLaws.{bool_cases}
use Rattle.finite.proofs.FilledLaws.{filled_more, filled_at, filled-past}
use Rattle.control.specs.Control.{value_at, corner_value, values_after}

module _ (positions : List ℤ) (faces : List ℕ) where
  -- ---- the four places of corner c
  place-value : (c k : ℕ) → k < 3 → corner_value positions faces (4 * c + k) ≡ get_or positions (3 * get_or faces c 0 + k) (pos 0)
  unfolding corner_value
  place-value c k l =
      let corner : (4 * c + k) / 4 ≡ c = omega arith in
      let axis : (4 * c + k) % 4 ≡ k = omega arith in
      rw (corner, axis, lt-ltb k 3 l)

  place-first : (c : ℕ) → corner_value positions faces (4 * c) ≡ get_or positions (3 * get_or faces c 0) (pos 0)
  unfolding corner_value
  place-first c =
      let corner : 4 * c / 4 ≡ c = omega arith in
      let axis : 4 * c % 4 ≡ 0 = omega arith in
      let from : 3 * get_or faces c 0 + 0 ≡ 3 * get_or faces c 0 = omega arith in
      rw (corner, axis, from)

  place-spare : (c : ℕ) → corner_value positions faces (4 * c + 3) ≡ pos 0
  unfolding corner_value
  place-spare c = let axis : (4 * c + 3) % 4 ≡ 3 = omega arith in rw axis

  -- one corner more
  pub corner-stored : (c : ℕ) (d m : List ℤ) {x y z : ℤ} → 4 * c + 4 ≤ length d → m ≡ filled (corner_value positions faces) (4 * c) d
      → x ≡ get_or positions (3 * get_or faces c 0) (pos 0) → y ≡ get_or positions (3 * get_or faces c 0 + 1) (pos 0)
      → z ≡ get_or positions (3 * get_or faces c 0 + 2) (pos 0)
      → set (set (set (set m (4 * c) x) (4 * c + 1) y) (4 * c + 2) z) (4 * c + 3) (pos 0) ≡ filled (corner_value positions faces) (4 * (c + 1)) d
  corner-stored c d m long e p q r =
      let f : ℕ → ℤ = corner_value positions faces in
      let to : (i j : ℕ) → i + 1 ≡ j → filled f (i + 1) d ≡ filled f j d = λ i j h. ap (λ (i : ℕ). filled f i d) h in
      let first = filled_more f (4 * c) _ d m (omega arith) e (p ∙ sym (place-first c)) in
      let second = filled_more f (4 * c + 1) _ d _ (omega arith) first (q ∙ sym (place-value c 1 (omega arith))) ∙ to (4 * c + 1) (4 * c + 2) (omega arith) in
      let third = filled_more f (4 * c + 2) _ d _ (omega arith) second (r ∙ sym (place-value c 2 (omega arith))) ∙ to (4 * c + 2) (4 * c + 3) (omega arith) in
      filled_more f (4 * c + 3) _ d _ (omega arith) third (sym (place-spare c)) ∙ to (4 * c + 3) (4 * (c + 1)) (omega arith)

  entry-small : (B : ℕ) → ((i : ℕ) → nat_abs (get_or positions i (pos 0)) ≤ B) → (i : ℕ) → nat_abs (corner_value positions faces i) ≤ B
  unfolding corner_value
  entry-small B small i =
      bool_cases (ltb (i % 4) 3) (λ t. rw t (small (3 * get_or faces (i / 4) 0 + i % 4))) (λ t. rw t (omega arith))

  -- ---- the table has room for every corner
  module _ (table : List ℤ) (room : 4 * length faces ≤ length table) where
    all-corners : min (length faces) (length table / 4) ≡ length faces
    all-corners = min-eq_left (omega arith)

    pub value-told : (k c : ℕ) → k < 3 → c < length faces → c < 1024
        → value_at (values_after positions faces table) k c ≡ get_or positions (3 * get_or faces c 0 + k) (pos 0)
    value-told k c l h few =
        let here : 4 * (c % 1024) + k % 4 ≡ 4 * c + k = omega arith in
        rw (all-corners, here) (filled_at (corner_value positions faces) (4 * length faces) (4 * c + k) table (pos 0) (omega arith))
        ∙ place-value c k l

    -- every entry is within a bound that the positions and the table keep
    pub values-small : (B : ℕ) → ((i : ℕ) → nat_abs (get_or positions i (pos 0)) ≤ B) → ((i : ℕ) → nat_abs (get_or table i (pos 0)) ≤ B)
        → (i : ℕ) → nat_abs (get_or (values_after positions faces table) i (pos 0)) ≤ B
    values-small B small others i =
        let f : ℕ → ℤ = corner_value positions faces in
        let n : ℕ = 4 * length faces in
        bool_cases (ltb i n)
        (λ t. rw (all-corners, filled_at f n i table (pos 0) (ltb-true i n t)) (entry-small B small i))
        (λ t. rw (all-corners, filled-past f n i table (pos 0) (ltb-false i n t)) (others i))
