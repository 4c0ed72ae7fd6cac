-- The cosines: c(m), for every m from 3 to 32, is the whole number nearest to cos(2 pi / m) times 2^20. Their rule says so without a cosine (rule D1).
--
--   term k m j     term j of the rule at t = k / 2^21, times 2^(20 j), which makes it a whole number. The terms are 1, then 2t, with 1 added where
--                  m is odd, and from there on the last term multiplied by 2t, minus the one before it
--   above k m      t is above cos(2 pi / m), for t between -1 and 1: every term up to the last place, (m - 1) / 2 for an odd m and m / 2 - 1 for
--                  an even one, is above 0. Both places are the whole part of (m - 1) / 2
--   IsCosine m e   the half below the entry e is not above the cosine, and the half above it is; both halves lie between -1 and 1
--   cosine m       c(m) for m from 3 to 32, 0 for another m, read off `cosines` (`proofs/CosineLaws.antt`: each entry meets the rule;
--                  `proofs/UniqueLaws.antt`: no other number does)
--   Entry m r      what the call returns, without the table (rule D5)
use Rattle.std.specs.Prelude.{◌≡◌, Bool, true, false, List, [], ◌∷◌, ℕ, zero, suc, ◌-◌, ◌*◌}
use Rattle.std.specs.Prelude.{◌/◌, ◌%◌, ◌^◌, ◌<◌, ◌≤◌, ℤ, pos, negsuc, nat_abs, ◌+ℤ◌, ◌-ℤ◌, ◌*ℤ◌, get_or}
use Rattle.std.specs.Int.Signed.{lt_z}
use Rattle.finite.specs.Fold.{all_below}

-- the cosine 1
abbrev pub scale : ℕ
scale = 2 ^ 20

unfoldable pub term : ℤ → ℕ → ℕ → ℤ
term k m zero = pos 1
term k m (suc zero) = k +ℤ pos (m % 2 * 2 ^ 20)
term k m (suc (suc j)) = k *ℤ term k m (suc j) -ℤ pos (2 ^ 40) *ℤ term k m j

unfoldable pub above : ℤ → ℕ → Bool
above k m = all_below (λ j. lt_z (pos 0) (term k m j)) (suc ((m - 1) / 2))

pub record IsCosine (m : ℕ) (e : ℤ) : Type 0 where
  pub high-inside : nat_abs (pos 2 *ℤ e +ℤ pos 1) < 2 ^ 21
  pub high-above : above (pos 2 *ℤ e +ℤ pos 1) m ≡ true
  pub low-inside : nat_abs (pos 2 *ℤ e -ℤ pos 1) < 2 ^ 21
  pub low-not-above : above (pos 2 *ℤ e -ℤ pos 1) m ≡ false

-- c(m) at place m
unfoldable pub cosines : List ℤ
cosines =
    pos 0 ∷ pos 0 ∷ pos 0 ∷ negsuc 524287 ∷ pos 0 ∷ pos 324028 ∷ pos 524288 ∷ pos 653776
    ∷ pos 741455 ∷ pos 803256 ∷ pos 848316 ∷ pos 882118 ∷ pos 908093 ∷ pos 928468 ∷ pos 944734 ∷ pos 957922
    ∷ pos 968758 ∷ pos 977768 ∷ pos 985339 ∷ pos 991761 ∷ pos 997255 ∷ pos 1001991 ∷ pos 1006101 ∷ pos 1009692
    ∷ pos 1012847 ∷ pos 1015633 ∷ pos 1018106 ∷ pos 1020311 ∷ pos 1022286 ∷ pos 1024061 ∷ pos 1025662 ∷ pos 1027112
    ∷ pos 1028428 ∷ []

unfoldable pub cosine : ℕ → ℤ
unfolding cosines
cosine m = get_or cosines m (pos 0)

pub record Entry (m : ℕ) (r : ℤ) : Type 0 where
  pub rule : 3 ≤ m → m ≤ 32 → IsCosine m r
  pub off : (3 ≤ m → m ≤ 32 → ⊥) → r ≡ pos 0
