-- A number tells its refusal: each number is that of one refusal and of no other, so that a contract that gives the number fixes what a call hands back.
use mathlib.Core.Path.{◌≡◌, refl, sym, ap, ◌∙◌}
use mathlib.Core.Bool.{Bool, true, false, ◌&&◌}
use mathlib.Core.List.{List, [], ◌∷◌}
use Prim.Native.Nat.{ℕ, zero, suc, ◌+◌, ◌-◌, ◌<◌}
use native.Mathlib.Nat.{not-suc-le-zero}
use native.Mathlib.Omega.{arith}
use lib.Dec.{eqb, ltb, leb}
use lib.ListN.{length, get_or}
use borrow.Author.Tests.{eqb-true, ltb-true, leb-true}
use Rattle.std.specs.Prelude.{Result, Ok, Err}
use Rattle.std.proofs.Math.Bool.{Bool-set}
use Rattle.answer.specs.declared.refusal.Refusal.{Refusal}
use Rattle.answer.specs.declared.refusal.Refusal.TheVariants.{Sizes, ListShort, Coordinate, Tag, Vertex, VertexTwice, HalfEdgeTwice, Unused, Fan, Valence, InnerTag, NoFace, Control, Steps, File, Lengths, LineShort, NoTangents, Other}
use Rattle.answer.specs.Listed.{listed}
use Rattle.answer.specs.Number.{number}
use Rattle.answer.specs.Told.{names, told_by, told}
use Rattle.answer.specs.Table.{Answer, result, refusal, answered}

-- whether refusals have the numbers from n on
abbrev numbered : List Refusal → ℕ → Bool
numbered [] n = true
numbered (r ∷ rs) n = eqb (number r) n && numbered rs (suc n)

and-both : (a b : Bool) → (a && b) ≡ true → (a ≡ true) × (b ≡ true)
and-both true b e = (refl, e)
and-both false b e = cc

numbered-at : (rs : List Refusal) (n i : ℕ) → numbered rs n ≡ true → i < length rs → number (get_or rs i Sizes) ≡ n + i
numbered-at [] n i e l = absurd (not-suc-le-zero l)
numbered-at (r ∷ rs) n zero e l = eqb-true (number r) n (and-both (eqb (number r) n) (numbered rs (suc n)) e).0 ∙ (omega arith)
numbered-at (r ∷ rs) n (suc i) e l =
    numbered-at rs (suc n) i (and-both (eqb (number r) n) (numbered rs (suc n)) e).1 (omega arith) ∙ (omega arith)

-- the refusal of a number has that number
pub number-told : (k : ℕ) → number (told k) ≡ k
number-told k = go (listed k) refl
  where
    go : (b : Bool) (e : listed k ≡ b) → number (told_by k b e) ≡ k
    go true e =
        let h = and-both (ltb 0 k) (leb k 18) e in
        let low = ltb-true 0 k h.0 in
        let high = leb-true k 18 h.1 in
        numbered-at names 1 (k - 1) refl (omega arith) ∙ (omega arith)
    go false e = refl

-- and a refusal is that of its number
pub told-number : (r : Refusal) → told (number r) ≡ r
told-number Sizes = refl
told-number ListShort = refl
told-number Coordinate = refl
told-number Tag = refl
told-number Vertex = refl
told-number VertexTwice = refl
told-number HalfEdgeTwice = refl
told-number Unused = refl
told-number Fan = refl
told-number Valence = refl
told-number InnerTag = refl
told-number NoFace = refl
told-number Control = refl
told-number Steps = refl
told-number File = refl
told-number Lengths = refl
told-number LineShort = refl
told-number NoTangents = refl
told-number (Other own) = go (listed own.number) refl own.unlisted
  where
    go : (b : Bool) (e : listed own.number ≡ b) → listed own.number ≡ false → told_by own.number b e ≡ Other own
    go true e f = let bad : true ≡ false = sym e ∙ f in cc
    go false e f = ap (λ (h : listed own.number ≡ false). told_by own.number false h) (Bool-set _ _ e own.unlisted)

pub number-unique : (r s : Refusal) → number r ≡ number s → r ≡ s
number-unique r s e = sym (told-number r) ∙ ap told e ∙ told-number s

-- one value for each answer: of two results that tell the same, one is the other
pub answered-unique : {A : Type 0} (r s : Result A Refusal) → answered r ≡ answered s → r ≡ s
answered-unique (Ok a) (Ok b) e = cc
answered-unique (Ok a) (Err s) e = cc
answered-unique (Err r) (Ok b) e = cc
answered-unique (Err r) (Err s) e = ap Err (number-unique r s (cc))
