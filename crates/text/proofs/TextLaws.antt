-- The printed texts: how many digits a number has, texts stored one behind the other, and a whole line.
use mathlib.Core.Path.{◌≡◌, refl, sym, ap, ap₂, ◌∙◌, subst}
use mathlib.Core.Bool.{Bool, true, false, cond}
use mathlib.Core.List.{List, [], ◌∷◌, ◌++◌, append_assoc}
use Prim.Native.Nat.{ℕ, zero, suc, ◌+◌, ◌/◌, ◌%◌, ◌^◌, ◌≤◌, ◌<◌}
use native.Mathlib.Nat.{add-zero, zero-add, div-lt_iff_lt-mul, pow-suc, lt_of_lt_of_le}
use native.Mathlib.Omega.{arith}
use lib.Dec.{ltb, lit<, lit≤}
use lib.IntN.{ℤ, pos, negsuc}
use lib.ListN.{length, take, drop, set, length-append, length-drop}
use lib.Seq.{sets, sets-eq, length-sets, drop-drop}
use mir.Syntax.{w32}
use borrow.Rule.Slice.PartMut.{put_mid}
use Rattle.std.specs.Prelude.{map}
use mir.Val.{SFits}
use borrow.Author.Tests.{lt-ltb, le-ltb}
use Rattle.integer.proofs.Cases.{cond_cases}
use Rattle.text.specs.Text.{digits, decimal, text, words, line_places, printed_after, Printed}
use Rattle.text.specs.declared.Line.{Line}
use Rattle.text.specs.declared.Word.{Word}
use Rattle.text.specs.Put.{Put, Room, word_text}

-- ---- digits
one-digit : (k n : ℕ) → n < 10 → digits (suc k) n ≡ (48 + n) ∷ []
unfolding digits
one-digit k n h = rw (lt-ltb n 10 h)

more-digits : (k n : ℕ) → 10 ≤ n → digits (suc k) n ≡ digits k (n / 10) ++ ((48 + n % 10) ∷ [])
unfolding digits
more-digits k n h = rw (le-ltb n 10 h)

tenth : (k n : ℕ) → n < 10 ^ suc k → n / 10 < 10 ^ k
tenth k n h = (div-lt_iff_lt-mul (lit< tt)).1 (rw pow-suc at h)

-- more places than the number has digits change nothing
spare : (k j n : ℕ) → k ≤ j → n < 10 ^ suc k → digits (suc j) n ≡ digits (suc k) n
unfolding digits
spare zero j n l h = one-digit j n h ∙ sym (one-digit 0 n h)
spare (suc k) zero n l h = absurd (omega arith)
spare (suc k) (suc j) n l h =
    ap (λ (t : List ℕ). cond (ltb n 10) ((48 + n) ∷ []) (t ++ ((48 + n % 10) ∷ []))) (spare k j (n / 10) (omega arith) (tenth (suc k) n h))

digits-length : (k n : ℕ) → length (digits k n) ≤ k
unfolding digits
digits-length zero n = omega arith
digits-length (suc k) n =
    cond_cases (ltb n 10) ((48 + n) ∷ []) (digits k (n / 10) ++ ((48 + n % 10) ∷ [])) (λ t. length t ≤ suc k)
    (λ a. omega arith)
    (λ a. omega (arith, length-append (digits k (n / 10)) ((48 + n % 10) ∷ []), digits-length k (n / 10)))

pub decimal-one : (n : ℕ) → n < 10 → decimal n ≡ (48 + n) ∷ []
decimal-one n h = one-digit 19 n h

pub decimal-more : (n : ℕ) → n < 2 ^ 64 → 10 ≤ n → decimal n ≡ decimal (n / 10) ++ ((48 + n % 10) ∷ [])
decimal-more n f h =
    more-digits 19 n h
    ∙ ap (λ (t : List ℕ). t ++ ((48 + n % 10) ∷ [])) (sym (spare 18 19 (n / 10) (lit≤ tt) (tenth 19 n (lt_of_lt_of_le f (lit≤ tt)))))

-- the bytes of the digits i and j
abbrev two : ℕ → ℕ → List ℕ
two i j = (48 + i) ∷ ((48 + j) ∷ [])

pub decimal-two : (n : ℕ) → n < 100 → 10 ≤ n → decimal n ≡ two (n / 10) (n % 10)
decimal-two n f h = decimal-more n (lt_of_lt_of_le f (lit≤ tt)) h ∙ ap (λ (t : List ℕ). t ++ ((48 + n % 10) ∷ [])) (decimal-one (n / 10) (omega arith))

pub decimal-hundred : (n : ℕ) → n < 2 ^ 64 → 100 ≤ n → decimal n ≡ decimal (n / 100) ++ two (n / 10 % 10) (n % 10)
decimal-hundred n f h =
    let tens : decimal (n / 10) ≡ decimal (n / 10 / 10) ++ ((48 + n / 10 % 10) ∷ []) = decimal-more (n / 10) (omega (arith, f)) (omega arith) in
    decimal-more n f (omega arith)
    ∙ ap (λ (t : List ℕ). t ++ ((48 + n % 10) ∷ [])) tens
    ∙ append_assoc (decimal (n / 10 / 10)) ((48 + n / 10 % 10) ∷ []) ((48 + n % 10) ∷ [])
    ∙ ap (λ (m : ℕ). decimal m ++ two (n / 10 % 10) (n % 10)) (omega arith)

pub decimal-longer : (n : ℕ) → n < 2 ^ 64 → 100 ≤ n → length (decimal n) ≡ length (decimal (n / 100)) + 2
decimal-longer n f h = ap length (decimal-hundred n f h) ∙ length-append (decimal (n / 100)) (two (n / 10 % 10) (n % 10))

-- the last four digits, as the rest by 10000 has them
thousands : (n : ℕ) → n / 100 / 10 % 10 ≡ n % 10000 / 1000
thousands n = omega arith

hundreds : (n : ℕ) → n / 100 % 10 ≡ n % 10000 / 100 % 10
hundreds n = omega arith

tens : (n : ℕ) → n / 10 % 10 ≡ n % 10000 / 10 % 10
tens n = omega arith

ones : (n : ℕ) → n % 10 ≡ n % 10000 % 10
ones n = omega arith

abbrev upper : ℕ → List ℕ
upper n = two (n % 10000 / 1000) (n % 10000 / 100 % 10)

abbrev lower : ℕ → List ℕ
lower n = two (n % 10000 / 10 % 10) (n % 10000 % 10)

pub decimal-four : (n : ℕ) → n < 2 ^ 64 → 10000 ≤ n → decimal n ≡ (decimal (n / 10000) ++ upper n) ++ lower n
decimal-four n f h =
    let above = decimal-hundred (n / 100) (omega (arith, f)) (omega arith) in
    decimal-hundred n f (omega arith)
    ∙ ap (λ (t : List ℕ). t ++ two (n / 10 % 10) (n % 10)) above
    ∙ ap (λ (m : ℕ). (decimal m ++ two (n / 100 / 10 % 10) (n / 100 % 10)) ++ two (n / 10 % 10) (n % 10)) (omega arith)
    ∙ ap₂ (λ (i j : ℕ). (decimal (n / 10000) ++ two i j) ++ two (n / 10 % 10) (n % 10)) (thousands n) (hundreds n)
    ∙ ap₂ (λ (i j : ℕ). (decimal (n / 10000) ++ upper n) ++ two i j) (tens n) (ones n)

pub decimal-four-longer : (n : ℕ) → n < 2 ^ 64 → 10000 ≤ n → length (decimal n) ≡ length (decimal (n / 10000)) + 4
decimal-four-longer n f h =
    let t = decimal (n / 10000) in
    omega (arith, ap length (decimal-four n f h), length-append (t ++ upper n) (lower n), length-append t (upper n))

pub decimal-length : (n : ℕ) → length (decimal n) ≤ 20
decimal-length n = digits-length 20 n

decimal-short : (n : ℕ) → n ≤ 2 ^ 31 → length (decimal n) ≤ 10
decimal-short n h = rw (spare 9 19 n (lit≤ tt) (omega arith)) (digits-length 10 n)

-- ---- signed numbers
pub text-length : (z : ℤ) → SFits w32 z → length (text z) ≤ 11
text-length (pos n) f = omega (arith, decimal-short n (omega (arith, f.sfits)))
text-length (negsuc n) f = omega (arith, decimal-short (suc n) (omega (arith, f.sfits)))

-- ---- texts that are stored
sets-append : (l : List ℕ) (at : ℕ) (t u : List ℕ) → sets l at (t ++ u) ≡ sets (sets l at t) (at + length t) u
sets-append l at [] u = ap (λ (i : ℕ). sets l i u) (sym (add-zero at))
sets-append l at (a ∷ t) u =
    sets-append (set l at a) (suc at) t u ∙ ap (λ (i : ℕ). sets (sets (set l at a) (suc at) t) i u) (omega arith)

pub put-length : {t : List ℕ} {l m : Line} → Put t l m → length m.places.now ≡ length l.places.now
put-length {t} {l} a = ap length a.list ∙ length-sets l.places.now l.at t

pub put_then : {t u : List ℕ} {l m k : Line} → Put t l m → Put u m k → Put (t ++ u) l k
put_then {t} {u} {l} {m} {k} a b = record {
  same = b.same ∙ a.same;
  place = omega (arith, length-append t u, a.place, b.place);
  list = b.list ∙ ap₂ (λ (x : List ℕ) (i : ℕ). sets x i u) a.list a.place ∙ sym (sets-append l.places.now l.at t u);
}

-- a text that is copied as a whole
pub sets-part : (l : List ℕ) (at k : ℕ) (t : List ℕ) → at + length t ≤ length l → k ≡ length t → put_mid at k l t ≡ sets l at t
sets-part l at k t h e =
    ap (λ (x : List ℕ). take at l ++ (t ++ x)) (drop-drop k at l ∙ ap (λ (i : ℕ). drop (at + i) l) e)
    ∙ sym (append_assoc (take at l) t (drop (at + length t) l))
    ∙ sym (sets-eq t l at h)

-- a word of a line, its blank, and the words behind it
pub words-more : (w : Word) (ws : List Word) (last : Word)
    → words (map word_text (w ∷ (ws ++ (last ∷ [])))) ≡ word_text w ++ (32 ∷ words (map word_text (ws ++ (last ∷ []))))
words-more w [] last = refl
words-more w (v ∷ ws) last = refl

-- The line `now` has room for the words that are left, and they make the line that began as `begin` one with all words.
pub record Left (all rest : List Word) (begin now : Line) : Type 0 where
  pub room : Room (words (map word_text rest)) now
  pub put : (m : Line) → Put (words (map word_text rest)) now m → Put (words (map word_text all)) begin m

module _ {all : List Word} {w : Word} (ws : List Word) (last : Word) {begin now m : Line} (left : Left all (w ∷ (ws ++ (last ∷ []))) begin now)
    (put : Put (word_text w) now m) where
  pub left-room : Room (32 ∷ words (map word_text (ws ++ (last ∷ [])))) m
  left-room =
      let t = word_text w in
      let r = 32 ∷ words (map word_text (ws ++ (last ∷ []))) in
      omega (arith, put.place, put-length put, length-append t r, ap length (words-more w ws last), left.room)

  -- behind a word and its blank
  pub left-more : {k : Line} → Put (32 ∷ []) m k → Left all (ws ++ (last ∷ [])) begin k
  left-more {k} blank = record {
    room = omega (arith, left-room, blank.place, put-length blank);
    put = λ n p. left.put n (subst (λ (t : List ℕ). Put t now n) (sym (words-more w ws last)) (put_then put (put_then blank p)));
  }

-- ---- a whole line
pub printed : {t l m : List ℕ} {r : ℕ} → line_places ≤ length l → length t ≤ line_places → r ≡ 0 + length t → m ≡ sets l 0 t → Printed t l m r
printed {t} {l} h q p e = record {
  places = rw (le-ltb (length l) line_places h) (p ∙ zero-add (length t));
  list = rw (le-ltb (length l) line_places h) (e ∙ sets-eq t l 0 (omega arith) ∙ ap (λ (i : ℕ). t ++ drop i l) (zero-add (length t)));
}

-- what was returned is no place beyond the list
pub printed-within : {t l m : List ℕ} {r : ℕ} → length m ≡ length l → Printed t l m r → r ≤ length l
printed-within {t} {l} {m} {r} e a = within (ltb (length l) line_places) a.places a.list
  where
    within : (b : Bool) → r ≡ cond b 0 (length t) → m ≡ printed_after b t l → r ≤ length l
    within true p q = omega arith
    within false p q = omega (arith, ap length q, length-append t (drop (length t) l), length-drop (length t) l)
