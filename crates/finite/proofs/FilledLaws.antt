-- Lists filled from the front: their length, what stands at a place, one store more, a tail that was lent and came back.
use mathlib.Core.Path.{◌≡◌, refl, sym, ap, ap₂, ◌∙◌}
use mathlib.Core.List.{List, [], ◌∷◌, ◌++◌, append_assoc, append-nil}
use Prim.Native.Nat.{ℕ, zero, suc, ◌+◌, ◌-◌, ◌<◌, ◌≤◌}
use native.Mathlib.Nat.{add-zero, add-suc, le_antisymm, le_of_eq, not-suc-le-zero, le_of_suc-le-suc}
use native.Mathlib.Numerals.{add-one}
use native.Mathlib.Omega.{arith}
use lib.ListN.{get_or, drop, take, length, set, length-append, length-take, length-drop, drop_of_length-le, get_or-append}
use lib.Seq.{ext_get_or, drop-cons, set_at, take_at, drop_at, get_or_at, take_all, drop-drop, get_or-append-add, get_or-drop}
use Rattle.finite.specs.Filled.{list_below, filled}
use Rattle.finite.proofs.FoldLaws.{lt-suc-cases}

module _ {A : Type 0} where
  pub length-list_below : (f : ℕ → A) (n : ℕ) → length (list_below f n) ≡ n
  unfolding list_below
  length-list_below f zero = refl
  length-list_below f (suc n) = rw (length-append, length-list_below f n) (add-one n)

  pub list_below-ext : {f g : ℕ → A} (n : ℕ) → ((k : ℕ) → k < n → f k ≡ g k) → list_below f n ≡ list_below g n
  unfolding list_below
  list_below-ext zero h = refl
  list_below-ext (suc n) h = ap₂ (λ (a : List A) (b : A). a ++ (b ∷ [])) (list_below-ext n (λ k l. h k (omega arith))) (h n (omega arith))

  -- m values and then k more
  pub list_below-add : (f : ℕ → A) (m k : ℕ) → list_below f (m + k) ≡ list_below f m ++ list_below (λ j. f (m + j)) k
  unfolding list_below
  list_below-add f m zero = rw (add-zero, append-nil)
  list_below-add f m (suc k) = rw (add-suc, list_below-add f m k, append_assoc)

  pub list_below-at : (f : ℕ → A) (n i : ℕ) (z : A) → i < n → get_or (list_below f n) i z ≡ f i
  unfolding list_below
  list_below-at f zero i z l = absurd (not-suc-le-zero l)
  list_below-at f (suc n) i z l =
      lt-suc-cases l
      (λ e. rw e (get_or_at (list_below f n) (f n) [] z n (length-list_below f n)))
      (λ q. get_or-append (list_below f n) (f n ∷ []) z i (rw length-list_below q) ∙ list_below-at f n i z q)

  -- equal lists have equal values
  pub agree : (f g : ℕ → A) (n : ℕ) → list_below f n ≡ list_below g n → (i : ℕ) → i < n → f i ≡ g i
  agree f g n e i l = sym (list_below-at f n i (f i) l) ∙ rw e (list_below-at g n i (f i) l)

  pub length-filled : (f : ℕ → A) (n : ℕ) (d : List A) → n ≤ length d → length (filled f n d) ≡ length d
  unfolding filled list_below
  length-filled f n d l = rw (length-append, length-list_below, length-drop) (omega arith)

  pub filled-ext : {f g : ℕ → A} (n : ℕ) (d : List A) → ((k : ℕ) → k < n → f k ≡ g k) → filled f n d ≡ filled g n d
  unfolding filled list_below
  filled-ext n d h = ap (λ (t : List A). t ++ drop n d) (list_below-ext n h)

  pub filled_at : (f : ℕ → A) (n i : ℕ) (d : List A) (z : A) → i < n → get_or (filled f n d) i z ≡ f i
  unfolding filled list_below
  filled_at f n i d z l = get_or-append (list_below f n) (drop n d) z i (rw length-list_below l) ∙ list_below-at f n i z l

  pub filled-past : (f : ℕ → A) (n i : ℕ) (d : List A) (z : A) → n ≤ i → get_or (filled f n d) i z ≡ get_or d i z
  unfolding filled list_below
  filled-past f n i d z l =
      let at : i ≡ length (list_below f n) + (i - n) = rw length-list_below (omega arith) in
      rw (at, get_or-append-add, get_or-drop, length-list_below)

  -- What a filling loop shows, in the shape that a need has: each is a lemma for `search`.
  pub filled-start : (f : ℕ → A) (d : List A) → d ≡ filled f 0 d
  unfolding filled list_below
  filled-start f d = refl

  -- one store
  pub filled_more : (f : ℕ → A) (i : ℕ) (v : A) (d m : List A) → i < length d → m ≡ filled f i d → v ≡ f i → set m i v ≡ filled f (i + 1) d
  unfolding filled list_below
  filled_more f i v d m l e q =
      rw (e, q, drop-cons d i v, set_at (list_below f i) (get_or d i v) (drop (suc i) d) (f i) i (length-list_below f i), add-one, append_assoc)

  pub filled-all : (f : ℕ → A) (n i : ℕ) (d m : List A) → i ≤ n → n ≤ i → m ≡ filled f i d → m ≡ filled f n d
  filled-all f n i d m a b e = e ∙ ap (λ (k : ℕ). filled f k d) (le_antisymm a b)

  -- filled up to its end
  pub filled-whole : (f : ℕ → A) (n : ℕ) (d : List A) → length d ≡ n → filled f n d ≡ list_below f n
  unfolding filled list_below
  filled-whole f n d e = rw (drop_of_length-le d (le_of_eq e), append-nil)

  -- filled once more: only the last filling shows
  pub filled-again : (f g : ℕ → A) (n : ℕ) (d m : List A) → m ≡ filled g n d → filled f n m ≡ filled f n d
  unfolding filled list_below
  filled-again f g n d m e = rw (e, drop_at (list_below g n) (drop n d) n (length-list_below g n))

  -- a part from m on, lent and filled for k places, in a list whose first m places hold f
  pub filled-part : (f g : ℕ → A) (m k : ℕ) (d l : List A) → ((j : ℕ) → j < k → g j ≡ f (m + j)) → l ≡ filled f m d
      → take m l ++ filled g k (drop m l) ≡ filled f (m + k) d
  unfolding filled list_below
  filled-part f g m k d l h e =
      let n = length-list_below f m in
      rw (e, take_at (list_below f m) (drop m d) m n, drop_at (list_below f m) (drop m d) m n)
      (rw (list_below-ext k h, drop-drop, list_below-add, append_assoc))

  -- the part from m on was lent, and came back with its first k places filled
  pub filled-tail : (f g : ℕ → A) (m k : ℕ) (d l ys : List A) → ((j : ℕ) → j < k → g j ≡ f (m + j)) → l ≡ filled f m d
      → ys ≡ filled g k (take (length l - m) (drop m l))
      → take m l ++ (ys ++ drop (length l - m) (drop m l)) ≡ filled f (m + k) d
  filled-tail f g m k d l ys h e q =
      let n : length (drop m l) ≤ length l - m = le_of_eq (length-drop m l) in
      rw (q, take_all (length l - m) (drop m l) n, drop_of_length-le (drop m l) n, append-nil) (filled-part f g m k d l h e)

  -- the stretch of w places from m on: it is there, and a list that a loop fills stretch by stretch has one more of them
  pub stretch-long : (m w : ℕ) (l : List A) → m + w ≤ length l → w ≤ length (take (length l - m) (drop m l))
  stretch-long m w l h = simp (length-take, length-drop) (omega arith)

  pub filled-stretch : (f g : ℕ → A) (m w n : ℕ) (d l ys : List A) → n ≡ m + w → n ≤ length d → ((j : ℕ) → j < w → g j ≡ f (m + j))
      → l ≡ filled f m d → ys ≡ filled g w (take (length l - m) (drop m l))
      → (length (take m l ++ (ys ++ drop (length l - m) (drop m l))) ≡ length d) × (take m l ++ (ys ++ drop (length l - m) (drop m l)) ≡ filled f n d)
  filled-stretch f g m w n d l ys next long h e q =
      let more = filled-tail f g m w d l ys h e q ∙ ap (λ (k : ℕ). filled f k d) (sym next) in
      (ap length more ∙ length-filled f n d long, more)

  -- ---- the front of a filled list, and three stores behind it
  pub take-filled : (f : ℕ → A) (n : ℕ) (d : List A) → take n (filled f n d) ≡ list_below f n
  unfolding filled list_below
  take-filled f n d = take_at (list_below f n) (drop n d) n (length-list_below f n)

  pub filled-three : (f : ℕ → A) (m : ℕ) {x y z : A} (d l : List A) → m + 3 ≤ length d → l ≡ filled f m d → x ≡ f m → y ≡ f (m + 1) → z ≡ f (m + 2)
      → set (set (set l m x) (m + 1) y) (m + 2) z ≡ filled f (m + 3) d
  filled-three f m d l long e p q r =
      let two : m + 1 + 1 ≡ m + 2 = omega arith in
      let three : m + 2 + 1 ≡ m + 3 = omega arith in
      let first = filled_more f m _ d l (omega arith) e p in
      let second = filled_more f (m + 1) _ d _ (omega arith) first q ∙ ap (λ (i : ℕ). filled f i d) two in
      filled_more f (m + 2) _ d _ (omega arith) second r ∙ ap (λ (i : ℕ). filled f i d) three

  -- ---- the part of a list from p on, as it is lent: nothing stands behind it
  pub part-lent : (l : List A) (p : ℕ) → take (length l - p) (drop p l) ≡ drop p l
  part-lent l p = take_all (length l - p) (drop p l) (le_of_eq (length-drop p l))

  pub behind-lent : (l : List A) (p : ℕ) → drop (length l - p) (drop p l) ≡ []
  behind-lent l p = drop_of_length-le (drop p l) (le_of_eq (length-drop p l))

-- ---- any list
-- what is read past its end
pub get_d_past : {A : Type 0} (xs : List A) (i : ℕ) (z : A) → length xs ≤ i → get_or xs i z ≡ z
get_d_past [] i z l = refl
get_d_past (y ∷ xs) zero z l = absurd (not-suc-le-zero l)
get_d_past (y ∷ xs) (suc i) z l = get_d_past xs i z (le_of_suc-le-suc l)

-- a list by its length and what stands at each place
pub list-below : {A : Type 0} (xs : List A) (z : A) (n : ℕ) (g : ℕ → A) → length xs ≡ n → ((i : ℕ) → i < n → get_or xs i z ≡ g i) → xs ≡ list_below g n
list-below xs z n g e h =
    ext_get_or z xs (list_below g n) (e ∙ sym (length-list_below g n)) (λ i l.
    let b : i < n = omega arith in h i b ∙ sym (list_below-at g n i z b))
