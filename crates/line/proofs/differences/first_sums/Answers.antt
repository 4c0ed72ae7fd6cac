-- `first_sums` meets its contract: at a = 0 the sum and its differences are small multiples of the differences of the curve.
use mathlib.Core.Path.{◌≡◌, refl, sym, ap, ◌∙◌}
use Prim.Native.Nat.{ℕ, ◌+◌, ◌*◌, ◌^◌, ◌≤◌}
use native.Mathlib.Nat.{mul-le-mul}
use native.Mathlib.Omega.{arith}
use lib.IntN.{ℤ, pos, nat_abs, ◌+ℤ◌, ◌*ℤ◌}
use lib.ListN.{get_or}
use Rattle.line.specs.declared.model.Differences.{Differences}
use Rattle.line.specs.Differences.{forward, forward₂, forward₃, differences_at}
use Rattle.line.proofs.SizedLaws.{read, ReadAs, sized, times-fits, times-sized, plus-fits, plus-sized, sum_fits, sum-sized}
use Rattle.line.proofs.DifferenceLaws.{same-differences, first-size, second-size, third-size, cubic-start}
use Rattle.line.proofs.differences.first_sums.Goals.{After-add_product, After-add_product-2, After-add_product-first, After-add_product-half}
use Rattle.line.proofs.differences.first_sums.Goals.{After-differences-d, After-struct_told-2-1, After-struct_told-5-1, Start}
use Rattle.line.proofs.differences.first_sums.Goals as goal

zero : ReadAs (pos 0) (pos 0) 0
zero = record { is = refl; size = omega arith }

-- ---- at the entry: N, its square and its cube are small
module _ (s : Start) where
  square : s.args.n * s.args.n ≤ 32 * 32
  square = mul-le-mul s.requires.few s.requires.few

  cube : s.args.n * s.args.n * s.args.n ≤ 32 * 32 * 32
  cube = mul-le-mul square s.requires.few

-- ---- the differences of the curve are there, and are small
module _ (c : After-differences-d) where
  abbrev start : Start
  start = (goal.at.After-differences-d c).Start

  abbrev at : ℕ → ℤ
  at i = get_or start.args.curve i (pos 0)

  part-sized : (part : Differences → ℤ) (G : ℕ) → nat_abs (part (differences_at at 0)) ≤ G → G ≤ 2 ^ 48
      → ReadAs (read (part c.differences-d.result)) (part (differences_at at 0)) G
  part-sized part G p l =
      let s = sized (part (differences_at at 0)) p (omega arith) in
      record { is = ap (λ (d : Differences). read (part d)) c.differences-d.ensures ∙ s.is; size = s.size }

  curve-value : ReadAs (read c.differences-d.result.value) (at 0) (2 ^ 45)
  curve-value = part-sized (λ d. d.value) _ (start.requires.fine.fine 0 (omega arith)) (omega arith)

  curve-first : ReadAs (read c.differences-d.result.first) (forward at 0) (2 * 2 ^ 45)
  curve-first = part-sized (λ d. d.first) _ (first-size at (2 ^ 45) start.requires.fine.fine 0 (omega arith)) (omega arith)

  curve-second : ReadAs (read c.differences-d.result.second) (forward₂ at 0) (4 * 2 ^ 45)
  curve-second = part-sized (λ d. d.second) _ (second-size at (2 ^ 45) start.requires.fine.fine 0 (omega arith)) (omega arith)

  curve-third : ReadAs (read c.differences-d.result.third) (forward₃ at 0) (8 * 2 ^ 45)
  curve-third = part-sized (λ d. d.third) _ (third-size at (2 ^ 45) start.requires.fine.fine) (omega arith)

-- ---- half of the second difference is there, but for the third
module _ (c : After-add_product-half) where
  abbrev entries : After-differences-d
  entries = (goal.at.After-add_product-half c).After-differences-d

  half : ReadAs (read c.add_product-half.result) (pos 0 +ℤ pos (3 * (start entries).args.n) *ℤ forward₂ (at entries) 0) (96 * (4 * 2 ^ 45))
  half = sum-sized zero (curve-second entries) _ 96 (omega (arith, (start entries).requires.few)) c.add_product-half.type_inv c.add_product-half.ensures

-- ---- the third difference of the curve is read
abbrev read-third : After-struct_told-2-1 → After-add_product-half
read-third c = (goal.at.After-struct_told-2-1 c).After-add_product-half

-- ---- the first difference is there
module _ (c : After-add_product-first) where
  abbrev past-half : After-add_product-half
  past-half = read-third (goal.at.After-add_product-first c).After-struct_told-2-1

  abbrev entries-2 : After-differences-d
  entries-2 = entries past-half

  first : (let n = (start entries-2).args.n in
      let h = at entries-2 in
      read c.add_product-first.result ≡ pos 0 +ℤ pos (3 * n) *ℤ forward₂ h 0 +ℤ forward₃ h 0 +ℤ pos (3 * n * n) *ℤ forward h 0)
  first =
      (sum-sized (plus-sized (half past-half) (curve-third entries-2) (omega arith)) (curve-first entries-2) _ 3072 (omega (arith, square (start entries-2)))
      c.add_product-first.type_inv c.add_product-first.ensures).is

-- ---- the sum is there
module _ (c : After-add_product) where
  abbrev past_first : After-add_product-first
  past_first = (goal.at.After-add_product c).After-add_product-first

  abbrev entries-3 : After-differences-d
  entries-3 = entries-2 past_first

  sum : (let n = (start entries-3).args.n in read c.add_product.result ≡ pos 0 +ℤ pos (n * n * n) *ℤ at entries-3 0)
  sum = (sum-sized zero (curve-value entries-3) _ 32768 (omega (arith, cube (start entries-3))) c.add_product.type_inv c.add_product.ensures).is

  -- half of the second difference, with the third
  abbrev thrice-read : ℤ
  thrice-read = read (pos 3 *ℤ read entries-3.differences-d.result.third)

  thrice : ReadAs thrice-read (pos 3 *ℤ forward₃ (at entries-3) 0) (3 * (8 * 2 ^ 45))
  thrice = times-sized 3 (curve-third entries-3) (omega arith)

  whole-half : ReadAs (read (read (past-half past_first).add_product-half.result +ℤ thrice-read))
      (pos 0 +ℤ pos (3 * (start entries-3).args.n) *ℤ forward₂ (at entries-3) 0 +ℤ pos 3 *ℤ forward₃ (at entries-3) 0)
      (96 * (4 * 2 ^ 45) + 3 * (8 * 2 ^ 45))
  whole-half = plus-sized (half (past-half past_first)) thrice (omega arith)

-- ---- the third difference of the curve is read again
abbrev read-third-2 : After-struct_told-5-1 → After-add_product
read-third-2 c = (goal.at.After-struct_told-5-1 c).After-add_product

-- ---- the second difference is there
module _ (c : After-add_product-2) where
  abbrev past-sum : After-add_product
  past-sum = read-third-2 (goal.at.After-add_product-2 c).After-struct_told-5-1

  second : (let n = (start (entries-3 past-sum)).args.n in
      let h = at (entries-3 past-sum) in
      read c.add_product-2.result ≡ pos 0 +ℤ pos 2 *ℤ (pos 0 +ℤ pos (3 * n) *ℤ forward₂ h 0 +ℤ pos 3 *ℤ forward₃ h 0))
  second = (sum-sized zero (whole-half past-sum) 2 2 (omega arith) c.add_product-2.type_inv c.add_product-2.ensures).is

pub differences-d-requires : goal.differences-d-requires
differences-d-requires c = c.requires.fine

pub overflow_mul-m : goal.overflow_mul-m
overflow_mul-m c = omega (arith, (start c).requires.few)

pub add_product-half-requires : goal.add_product-half-requires
add_product-half-requires c =
    let d = (goal.at.add_product-half-requires c).After-differences-d in
    sum_fits zero (curve-second d) _ 96 (omega (arith, (start d).requires.few)) (omega arith)

pub overflow_add-half : goal.overflow_add-half
overflow_add-half c = let h = read-third c in plus-fits (half h) (curve-third (entries h)) (omega arith)

pub overflow_mul-m-2 : goal.overflow_mul-m-2
overflow_mul-m-2 c = omega (arith, (start (entries (read-third c))).requires.few)

pub overflow_mul-m-3 : goal.overflow_mul-m-3
overflow_mul-m-3 c = omega (arith, square (start (entries (read-third c))))

pub add_product-first-requires : goal.add_product-first-requires
add_product-first-requires c =
    let h = read-third (goal.at.add_product-first-requires c).After-struct_told-2-1 in
    let d = entries h in
    sum_fits (plus-sized (half h) (curve-third d) (omega arith)) (curve-first d) _ 3072 (omega (arith, square (start d))) (omega arith)

pub overflow_mul-m-4 : goal.overflow_mul-m-4
overflow_mul-m-4 c = omega (arith, square (start (entries-2 c)))

pub overflow_mul-m-5 : goal.overflow_mul-m-5
overflow_mul-m-5 c = omega (arith, cube (start (entries-2 c)))

pub add_product-requires : goal.add_product-requires
add_product-requires c =
    let d = entries-2 (goal.at.add_product-requires c).After-add_product-first in
    sum_fits zero (curve-value d) _ 32768 (omega (arith, cube (start d))) (omega arith)

pub overflow_mul-d : goal.overflow_mul-d
overflow_mul-d c = times-fits 3 (curve-third (entries-3 (read-third-2 c))) (omega arith)

pub overflow_add-half-2 : goal.overflow_add-half-2
overflow_add-half-2 c = let s = read-third-2 c in plus-fits (half (past-half (past_first s))) (thrice s) (omega arith)

pub add_product-requires-2 : goal.add_product-requires-2
add_product-requires-2 c = sum_fits zero (whole-half (read-third-2 c)) 2 2 (omega arith) (omega arith)

pub add_product-requires-3 : goal.add_product-requires-3
add_product-requires-3 c =
    let d = entries-3 (past-sum (goal.at.add_product-requires-3 c).After-add_product-2) in
    sum_fits zero (curve-third d) 6 6 (omega arith) (omega arith)

pub returns : goal.returns
returns c =
    let s : After-add_product-2 = (goal.at.returns c).After-add_product-2 in
    let p = past-sum s in
    let d = entries-3 p in
    same-differences
    (sum p)
    (first (past_first p))
    (second s)
    (sum-sized zero (curve-third d) 6 6 (omega arith) c.add_product-3.type_inv c.add_product-3.ensures).is
    ∙ sym (cubic-start (at d) (start d).args.n)
