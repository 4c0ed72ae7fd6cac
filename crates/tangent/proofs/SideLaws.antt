-- The numbers of a side, as the machine stores them and reads them back.
--
--   Fitting a    each number of a side fits its bits
use mathlib.Core.Path.{◌≡◌, sym, ◌∙◌}
use Rattle.std.proofs.lemmas.List.{ext_get_or}
use Rattle.std.specs.Array.{IsFromFnResult, IsFromFnResultFrom}
use denote.Param.Members.{Called, Mut}
use Rattle.finite.proofs.FilledLaws.{length-list_below, list_below-at}
use mathlib.Core.List.{List}
use Prim.Native.Nat.{ℕ, zero, suc, ◌+◌, ◌*◌, ◌%◌, ◌≤◌, ◌<◌, ◌^◌}
use native.Mathlib.Omega.{arith}
use native.Mathlib.Decide.{dec_le}
use lib.IntN.{ℤ, pos}
use lib.ListN.{length, get_or}
use lib.Signed.{mag}
use mir.Syntax.{w32, w64}
use mir.Val.{SFits, hbits}
use Rattle.finite.specs.Filled.{list_below}
use Rattle.tangent.specs.Lists.{Known, SideSized, listed_part, side_from}
use Rattle.tangent.specs.declared.side.Side.{Side}

pub record Fitting (a : Side) : Type 0 where
  pub start : SFits w64 a.start
  pub end : SFits w64 a.end
  pub near : SFits w64 a.near
  pub far : SFits w64 a.far
  pub inner-near : SFits w64 a.inner_near
  pub inner-far : SFits w64 a.inner_far
  pub start-cosine : SFits w32 a.start_cosine
  pub end-cosine : SFits w32 a.end_cosine

pub fitting : (a : Side) → mag a.start < 2 ^ hbits w64 → mag a.end < 2 ^ hbits w64 → mag a.near < 2 ^ hbits w64 → mag a.far < 2 ^ hbits w64
    → mag a.inner_near < 2 ^ hbits w64 → mag a.inner_far < 2 ^ hbits w64 → mag a.start_cosine < 2 ^ hbits w32
    → mag a.end_cosine < 2 ^ hbits w32 → Fitting a
fitting a s e n f i j k l = record {
  start = record { sfits = s };
  end = record { sfits = e };
  near = record { sfits = n };
  far = record { sfits = f };
  inner-near = record { sfits = i };
  inner-far = record { sfits = j };
  start-cosine = record { sfits = k };
  end-cosine = record { sfits = l };
}

-- a side whose numbers are those of the lists, one by one
pub side-told : (parts cosines : List ℤ) (s k : ℕ) {start end near far inner-near inner-far start-cosine end-cosine : ℤ}
    → start ≡ listed_part parts 0 s k → end ≡ listed_part parts 1 s k → near ≡ listed_part parts 2 s k → far ≡ listed_part parts 3 s k
    → inner-near ≡ listed_part parts 4 s k → inner-far ≡ listed_part parts 5 s k
    → start-cosine ≡ get_or cosines s (pos 0) → end-cosine ≡ get_or cosines ((s + 1) % 4) (pos 0)
    → ◌≡◌ {A = Side} (record {
      start = start;
      end = end;
      near = near;
      far = far;
      inner_near = inner-near;
      inner_far = inner-far;
      start_cosine = start-cosine;
      end_cosine = end-cosine;
    }) (side_from parts cosines s k)
unfolding side_from
side-told parts cosines s k a b c d e f g h = rw (a, b, c, d, e, f, g, h)

-- what the lists say of a side is small where they are
pub side-sized : {parts cosines : List ℤ} → Known parts cosines → (s k : ℕ) → s < 4 → k < 3 → SideSized (side_from parts cosines s k)
unfolding side_from
side-sized w s k l h = record {
  start = w.parts-small (12 * 0 + (3 * s + k)) (omega arith);
  end = w.parts-small (12 * 1 + (3 * s + k)) (omega arith);
  near = w.parts-small (12 * 2 + (3 * s + k)) (omega arith);
  far = w.parts-small (12 * 3 + (3 * s + k)) (omega arith);
  inner-near = w.parts-small (12 * 4 + (3 * s + k)) (omega arith);
  inner-far = w.parts-small (12 * 5 + (3 * s + k)) (omega arith);
  start-cosine = w.cosines-small s l;
  end-cosine = w.cosines-small ((s + 1) % 4) (omega arith);
}

-- a list that was made place by place
pub list-made : {A : Type 0} (f : ℕ → A) {n : ℕ} (xs : List A) (z : A) → length xs ≡ n → ((k : ℕ) → k < n → get_or xs k z ≡ f k) → xs ≡ list_below f n
list-made f {n} xs z e h =
    ext_get_or z xs (list_below f n) (e ∙ sym (length-list_below f n))
    (λ k l. let b : k < n = omega (arith, e) in h k b ∙ sym (list_below-at f n k z b))

-- a list that was made by calls of a function of its places, one after the other, which keep what is known of the function's captures
module _ {F B : Type 0} (g : Mut F (ℕ × Unit {0}) B) (Kept : F → Type 0) (f : ℕ → B) (n : ℕ)
    (call : (p q : F) (i : ℕ) (y : B) → i < n → Kept p → Called g p (i, tt) y q → (y ≡ f i) × Kept q) where
  made-from : (ys : List B) (d : B) (m i : ℕ) (p : F) → i + m ≡ n → Kept p → IsFromFnResultFrom g p ys i m → (k : ℕ) → i ≤ k → k < n → get_or ys k d ≡ f k
  made-from ys d zero i p e h r k l b = absurd (omega arith)
  made-from ys d (suc m) i p e h r k l b =
      let one = call p r.0 i r.1 (omega arith) h r.3 in
      go (dec_le (i + 1) k) one (made-from ys d m (i + 1) r.0 (omega arith))
    where
      go : Dec (i + 1 ≤ k) → (r.1 ≡ f i) × Kept r.0 → (Kept r.0 → IsFromFnResultFrom g r.0 ys (i + 1) m → (k : ℕ) → i + 1 ≤ k → k < n → get_or ys k d ≡ f k)
          → get_or ys k d ≡ f k
      go (yes q) one more = more one.1 r.4 k q b
      go (no q) one more = let here : k ≡ i = omega arith in rw here (r.2.1 d ∙ one.0)

  pub made-by : (p : F) → Kept p → (ys : List B) → B → IsFromFnResult g p ys n → ys ≡ list_below f n
  made-by p h ys d r = list-made f ys d r.long (λ k l. made-from ys d n 0 p (omega arith) h r.each k (omega arith) l)
