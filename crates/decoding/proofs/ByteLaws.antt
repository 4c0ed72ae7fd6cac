-- Lists that are written place by place.
use Rattle.std.proofs.Common.{◌≡◌, refl, sym, ap, ap₂, ◌∙◌, subst, ℕ, suc, ◌+◌, ◌<◌, List}
use Rattle.std.proofs.Common.{[], ◌∷◌, ◌++◌, length, length-take, length-drop, take, drop, get_or, ◌≤◌, set, add-one, arith}
use Rattle.std.proofs.Math.Seq.{take-suc-set}
use Rattle.std.proofs.lemmas.List.{get_or-take, get_or-drop}
use Rattle.finite.specs.Filled.{list_below, filled}
use Rattle.finite.proofs.FilledLaws.{list_below-ext, list-below}
use Rattle.finite.proofs.Lists.{first-below}
use Rattle.decoding.specs.Bytes.{Each}

module _ {A : Type 0} (P : ℕ → A → Type 0) where
  each-behind : (n : ℕ) (xs : List A) (v : A) → Each P n xs → P (n + length xs) v → Each P n (xs ++ (v ∷ []))
  each-behind n [] v h q = (subst (λ (i : ℕ). P i v) (omega arith) q, tt)
  each-behind n (x ∷ xs) v h q = (h.0, each-behind (suc n) xs v h.1 (subst (λ (i : ℕ). P i v) (omega arith) q))

  -- one place more
  pub each-more : (xs : List A) (i : ℕ) (v : A) → i < length xs → Each P 0 (take i xs) → P i v → Each P 0 (take (i + 1) (set xs i v))
  each-more xs i v l h q =
      rw (add-one, take-suc-set xs i v l)
      (each-behind 0 (take i xs) v h (subst (λ (j : ℕ). P j v) (let z : i ≡ 0 + length (take i xs) = omega (arith, length-take i xs) in z) q))

  -- a list whose places hold what f says
  module _ (f : ℕ → A) (told : (i : ℕ) (x : A) → P i x → x ≡ f i) where
    each-from : (n : ℕ) (xs : List A) → Each P n xs → xs ≡ list_below (λ i. f (n + i)) (length xs)
    unfolding list_below
    each-from n [] e = refl
    each-from n (x ∷ xs) e =
        ap₂ ◌∷◌ (told n x e.0 ∙ ap f (omega arith)) (each-from (suc n) xs e.1 ∙ list_below-ext (length xs) (λ k l. ap f (omega arith)))
        ∙ sym (first-below (λ i. f (n + i)) (length xs))

    pub each-below : (xs : List A) → Each P 0 xs → xs ≡ list_below f (length xs)
    each-below xs e = each-from 0 xs e ∙ list_below-ext (length xs) (λ k l. ap f (omega arith))

    -- such a list in front of the rest of another
    pub each-filled : (n : ℕ) (xs d : List A) → length xs ≡ n → Each P 0 xs → xs ++ drop n d ≡ filled f n d
    unfolding filled
    each-filled n xs d l e = ap (λ (ys : List A). ys ++ drop n d) (each-below xs e ∙ ap (list_below f) l)

-- a part of a list in front of the rest of another
pub part-filled : (b : List ℕ) (at n : ℕ) (d : List ℕ) → at + n ≤ length b → take n (drop at b) ++ drop n d ≡ filled (λ i. get_or b (at + i) 0) n d
unfolding filled
part-filled b at n d l =
    ap (λ (ys : List ℕ). ys ++ drop n d)
    (list-below (take n (drop at b)) 0 n (λ i. get_or b (at + i) 0) (simp (length-take, length-drop) (omega arith))
    (λ i q. get_or-take n (drop at b) i 0 q ∙ get_or-drop at b i 0))
