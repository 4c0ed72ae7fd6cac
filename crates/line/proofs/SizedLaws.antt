-- A number of 64 bits as the machine reads it: which it is, and its size. Sums, differences and products fit where the sizes say so.
use mathlib.Core.Path.{◌≡◌, ap₂, ◌∙◌}
use Prim.Native.Nat.{ℕ, ◌+◌, ◌*◌, ◌^◌, ◌≤◌, ◌<◌}
use native.Mathlib.Omega.{arith}
use lib.IntN.{ℤ, pos, nat_abs, ◌+ℤ◌, ◌-ℤ◌, ◌*ℤ◌}
use lib.Signed.{mag}
use mir.Syntax.{w64}
use mir.Val.{SFits, to_z, of_z}
use mir.Facts.{to_z-of_z}
use Rattle.integer.proofs.Laws.{abs-+, abs--, abs-*-≤, sfits-abs, sfits-+, read_back}
use Rattle.sample.specs.Blend.{Addable}

abbrev pub read : ℤ → ℤ
read z = to_z w64 (of_z w64 z)

-- what is read as x' is x, and at most X in size
pub record ReadAs (x' x : ℤ) (X : ℕ) : Type 0 where
  pub is : x' ≡ x
  pub size : nat_abs x ≤ X

pub sized : (x : ℤ) {X : ℕ} → nat_abs x ≤ X → X < 2 ^ 63 → ReadAs (read x) x X
sized x p l = record { is = to_z-of_z {w = w64} (sfits-abs x (omega arith)); size = p }

module _ (w : ℕ) {x' x : ℤ} {X : ℕ} (p : ReadAs x' x X) where
  pub times-fits : w * X < 2 ^ 63 → SFits w64 (pos w *ℤ x')
  times-fits l = rw p.is (sfits-abs (pos w *ℤ x) (omega (arith, abs-*-≤ (pos w) x {A = w} (omega arith) p.size)))

  pub times-sized : w * X < 2 ^ 63 → ReadAs (read (pos w *ℤ x')) (pos w *ℤ x) (w * X)
  times-sized l = rw p.is (sized (pos w *ℤ x) (abs-*-≤ (pos w) x (omega arith) p.size) l)

module _ {x' y' x y : ℤ} {X Y : ℕ} (p : ReadAs x' x X) (q : ReadAs y' y Y) where
  pub plus-fits : X + Y < 2 ^ 63 → SFits w64 (x' +ℤ y')
  plus-fits l = rw (p.is, q.is) (sfits-+ x y (omega (arith, p.size, q.size)))

  pub plus-sized : X + Y < 2 ^ 63 → ReadAs (read (x' +ℤ y')) (x +ℤ y) (X + Y)
  plus-sized l = rw (p.is, q.is) (sized (x +ℤ y) (omega (arith, abs-+ x y, p.size, q.size)) l)

  pub minus-fits : X + Y < 2 ^ 63 → SFits w64 (x' -ℤ y')
  minus-fits l = rw (p.is, q.is) (sfits-abs (x -ℤ y) (omega (arith, abs-- x y, p.size, q.size)))

  pub minus-sized : X + Y < 2 ^ 63 → ReadAs (read (x' -ℤ y')) (x -ℤ y) (X + Y)
  minus-sized l = rw (p.is, q.is) (sized (x -ℤ y) (omega (arith, abs-- x y, p.size, q.size)) l)

  -- a product with a weight of at most W, added
  module _ (w W : ℕ) (v : w ≤ W) where
    pub sum_fits : X + W * Y < 2 ^ 63 → Addable x' w y'
    sum_fits l =
        let small = abs-*-≤ (pos w) y v q.size in
        rw (p.is, q.is)
        (record { product = sfits-abs (pos w *ℤ y) (omega (arith, small)); total = sfits-+ x (pos w *ℤ y) (omega (arith, small, p.size)) })

    pub sum-sized : {r : ℤ} → mag r < 2 ^ 63 → r ≡ x' +ℤ pos w *ℤ y' → ReadAs (read r) (x +ℤ pos w *ℤ y) (X + W * Y)
    sum-sized ok e =
        record {
          is = read_back w64 ok (e ∙ ap₂ (λ (x y : ℤ). x +ℤ pos w *ℤ y) p.is q.is);
          size = omega (arith, abs-+ x (pos w *ℤ y), abs-*-≤ (pos w) y v q.size, p.size);
        }
