-- The lines of a file by their numbers: one behind the other they are its listing, and each place of a sample has its number.
use mathlib.Core.Path.{◌≡◌, refl, sym, ap, ap₂, ◌∙◌}
use mathlib.Core.List.{List, ◌++◌, append_assoc, append-nil}
use Prim.Native.Nat.{ℕ, zero, suc, ◌+◌, ◌*◌, ◌/◌, ◌%◌, ◌≤◌, ◌<◌}
use native.Mathlib.Nat.{mul-add-div_right, mul-add-mod_self_right, mod-eq_of_lt, div-eq_of_lt, add-mul, mul-le-mul_right}
use native.Mathlib.Omega.{arith}
use lib.IntN.{ℤ}
use Rattle.answer.specs.Table.{Answer, result, refusal}
use Rattle.meshfile.specs.declared.model.Tessellation.{Tessellation}
use Rattle.listing.specs.Listing.{joined, sample_text, face_text, counts_text, listing, line_count, sample_text_at, line_at}

-- ---- texts one behind the other
pub joined-ext : (f g : ℕ → List ℕ) (n : ℕ) → ((i : ℕ) → i < n → f i ≡ g i) → joined f n ≡ joined g n
unfolding joined
joined-ext f g zero h = refl
joined-ext f g (suc n) h = ap₂ ◌++◌ (joined-ext f g n (λ i l. h i (omega arith))) (h n (omega arith))

pub joined-add : (f : ℕ → List ℕ) (i k : ℕ) → joined f (i + k) ≡ joined f i ++ joined (λ j. f (i + j)) k
unfolding joined
joined-add f i zero = ap (joined f) (let e : i + 0 ≡ i = omega arith in e) ∙ sym (append-nil (joined f i))
joined-add f i (suc k) =
    ap (joined f) (let e : i + suc k ≡ suc (i + k) = omega arith in e)
    ∙ ap (λ (t : List ℕ). t ++ f (i + k)) (joined-add f i k)
    ∙ append_assoc (joined f i) (joined (λ j. f (i + j)) k) (f (i + k))

joined-first : (f : ℕ → List ℕ) (n : ℕ) → joined f (suc n) ≡ f 0 ++ joined (λ i. f (suc i)) n
unfolding joined
joined-first f n =
    ap (joined f) (let e : suc n ≡ 1 + n = omega arith in e)
    ∙ joined-add f 1 n
    ∙ ap (λ (t : List ℕ). f 0 ++ t) (joined-ext (λ j. f (1 + j)) (λ i. f (suc i)) n (λ i l. ap f (omega arith)))

joined-product : (f : ℕ → List ℕ) (m k : ℕ) → joined f (k * m) ≡ joined (λ i. joined (λ j. f (i * m + j)) m) k
unfolding joined
joined-product f m zero = ap (joined f) (let e : 0 * m ≡ 0 = omega arith in e)
joined-product f m (suc k) =
    ap (joined f) (let e : suc k * m ≡ k * m + m = omega (arith, add-mul k 1 m) in e)
    ∙ joined-add f (k * m) m
    ∙ ap (λ (t : List ℕ). t ++ joined (λ j. f (k * m + j)) m) (joined-product f m k)

-- ---- the lines are the listing
module _ (q r m : ℕ) (l : r < m) where
  pub quotient : (q * m + r) / m ≡ q
  quotient = mul-add-div_right (omega arith) q r ∙ omega (arith, div-eq_of_lt l)

  pub rest : (q * m + r) % m ≡ r
  rest = mul-add-mod_self_right q m r ∙ mod-eq_of_lt l

-- sample i, of face f at (a, b)
pub text_at : (patches : List ℤ) (n f b a : ℕ) → b ≤ n → a ≤ n → sample_text_at patches n ((f * (n + 1) + b) * (n + 1) + a) ≡ sample_text patches n f b a
text_at patches n f b a lb la =
    let i : ℕ = (f * (n + 1) + b) * (n + 1) + a in
    let row : i / (n + 1) ≡ f * (n + 1) + b = quotient (f * (n + 1) + b) a (n + 1) (omega arith) in
    rw (row, rest (f * (n + 1) + b) a (n + 1) (omega arith), quotient f b (n + 1) (omega arith), rest f b (n + 1) (omega arith))

samples-joined : (patches : List ℤ) (n faces : ℕ) → joined (sample_text_at patches n) (faces * (n + 1) * (n + 1)) ≡ joined (face_text patches n) faces
samples-joined patches n faces =
    joined-product (sample_text_at patches n) (n + 1) (faces * (n + 1))
    ∙ joined-product (λ r. joined (λ a. sample_text_at patches n (r * (n + 1) + a)) (n + 1)) (n + 1) faces
    ∙ joined-ext _ (face_text patches n) faces (λ f _.
    joined-ext _ _ (n + 1) (λ b lb.
    joined-ext _ _ (n + 1) (λ a la. text_at patches n f b a (omega arith) (omega arith))))

pub lines-listing : (answer : Answer Tessellation) (patches : List ℤ) → joined (line_at answer patches) (line_count answer) ≡ listing answer patches
unfolding listing joined
lines-listing (result t) patches =
    ap (joined (line_at (result t) patches)) (let e : line_count (result t) ≡ suc (t.mesh.faces * (t.steps + 1) * (t.steps + 1)) = omega arith in e)
    ∙ joined-first (line_at (result t) patches) (t.mesh.faces * (t.steps + 1) * (t.steps + 1))
    ∙ ap (λ (x : List ℕ). counts_text t ++ x) (samples-joined patches t.steps t.mesh.faces)
lines-listing (refusal k) patches = refl

-- ---- the number of a place
-- a place of one of the faces comes before their end
pub place-below : (n faces f b a : ℕ) → a ≤ n → b ≤ n → f < faces → suc ((f * (n + 1) + b) * (n + 1) + a) ≤ faces * (n + 1) * (n + 1)
place-below n faces f b a la lb lf =
    let later : f + 1 ≤ faces = omega arith in
    let row : f * (n + 1) + b + 1 ≤ faces * (n + 1) = omega (arith, add-mul f 1 (n + 1), mul-le-mul_right (n + 1) later) in
    omega (arith, add-mul (f * (n + 1) + b) 1 (n + 1), mul-le-mul_right (n + 1) row)
