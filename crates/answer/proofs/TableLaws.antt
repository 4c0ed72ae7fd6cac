-- A table of causes, whatever its rows are: a row is met and gives its number, or it is skipped and the rows after it tell; a table in two
-- parts goes on to the second where nothing of the first is met.
--
--   From rows rest   what is first met of rows is what is first met of rest, the rows that are not checked yet
--   or_else m m'    the first of two numbers, where it is there, else the second
--   Met rows met   `met` is the refusal of the first cause met of the rows, if one is
--   over g answer  the answer with g of its result, or the same refusal
--   `first_met (row b k ∷ rows)` is `cond b (some k) (first_met rows)`; the laws speak of that form, with m what the rows after it give.
use mathlib.Core.Path.{◌≡◌, refl, sym, ap, ◌∙◌}
use mathlib.Core.Bool.{Bool, true, false, cond}
use mathlib.Core.List.{List, [], ◌∷◌, ◌++◌}
use mathlib.Core.Option.{Option, none, some}
use Prim.Native.Nat.{ℕ}
use native.Mathlib.Omega.{arith}
use Rattle.std.specs.Prelude.{Result, Ok, Err}
use Rattle.answer.specs.declared.refusal.Refusal.{Refusal}
use Rattle.answer.specs.Number.{number}
use Rattle.answer.proofs.NumberLaws.{number-told}
use Rattle.answer.specs.Table.{Row, row, first_met, Answer, result, refusal, answer_by, answered, refused, result_of, refuse_by, met_or}

-- ---- one row
module _ (k : ℕ) (m : Option ℕ) {b : Bool} where
  pub met-here : b ≡ true → cond b (some k) m ≡ some k
  met-here e = rw e

  pub skipped : b ≡ false → cond b (some k) m ≡ m
  skipped e = rw e

-- nothing is met: not this cause, and nothing after it
pub none-met : (b : Bool) (k : ℕ) (m : Option ℕ) → cond b (some k) m ≡ none → (b ≡ false) × (m ≡ none)
none-met true k m e = let z : ◌≡◌ {A = ℕ} 0 1 = cc in absurd (omega arith)
none-met false k m e = (refl, e)

-- ---- two parts
abbrev pub or_else : Option ℕ → Option ℕ → Option ℕ
or_else none y = y
or_else (some k) y = some k

pub or_else-assoc : (x y z : Option ℕ) → or_else x (or_else y z) ≡ or_else (or_else x y) z
or_else-assoc none y z = refl
or_else-assoc (some k) y z = refl

pub or_else-none : (x : Option ℕ) → or_else x none ≡ x
or_else-none none = refl
or_else-none (some k) = refl

pub first-append : (xs ys : List Row) → first_met (xs ++ ys) ≡ or_else (first_met xs) (first_met ys)
first-append [] ys = refl
first-append (r ∷ xs) ys = go r.cause (first-append xs ys)
  where
    go : (b : Bool) → first_met (xs ++ ys) ≡ or_else (first_met xs) (first_met ys)
        → cond b (some r.number) (first_met (xs ++ ys)) ≡ or_else (cond b (some r.number) (first_met xs)) (first_met ys)
    go true h = refl
    go false h = h

-- nothing of either is met
pub none-append : (xs ys : List Row) → first_met xs ≡ none → first_met (xs ++ ys) ≡ first_met ys
none-append xs ys e = first-append xs ys ∙ rw e

pub some-append : (xs ys : List Row) {k : ℕ} → first_met xs ≡ some k → first_met (xs ++ ys) ≡ some k
some-append xs ys e = first-append xs ys ∙ rw e

pub append-none : (xs ys : List Row) → first_met (xs ++ ys) ≡ none → (first_met xs ≡ none) × (first_met ys ≡ none)
append-none xs ys e = go (first_met xs) (first_met ys) (sym (first-append xs ys) ∙ e)
  where
    go : (x y : Option ℕ) → or_else x y ≡ none → (x ≡ none) × (y ≡ none)
    go none y h = (refl, h)
    go (some k) y h = let z : ◌≡◌ {A = ℕ} 0 1 = cc in absurd (omega arith)

-- ---- the answer
-- a result says that nothing was met
pub result-none : {A : Type 0} {a x : A} (met : Option ℕ) → result a ≡ answer_by met x → (met ≡ none) × (a ≡ x)
result-none none e = (refl, (cc))
result-none (some k) e = let z : ◌≡◌ {A = ℕ} 0 1 = cc in absurd (omega arith)

-- a refusal is what was met
pub refusal-met : {A : Type 0} (x : A) {k : ℕ} (met : Option ℕ) → refusal k ≡ answer_by met x → met ≡ some k
refusal-met x none e = let z : ◌≡◌ {A = ℕ} 0 1 = cc in absurd (omega arith)
refusal-met x (some j) e = cc

-- the code's `Result` has a value for each answer
pub result-of : {A : Type 0} (a : Answer A) → answered (result_of a) ≡ a
result-of (result a) = refl
result-of (refusal k) = ap refusal (number-told k)

-- another result, by the same causes
abbrev pub over : {A B : Type 0} → (A → B) → Answer A → Answer B
over g (result a) = result (g a)
over g (refusal k) = refusal k

pub over_by : {A B : Type 0} (g : A → B) (met : Option ℕ) (a : A) → over g (answer_by met a) ≡ answer_by met (g a)
over_by g none a = refl
over_by g (some k) a = refl

-- ---- checking row by row
pub record From (rows rest : List Row) : Type 0 where
  pub same : first_met rows ≡ first_met rest

pub all-rows : (rows : List Row) → From rows rows
all-rows rows = record { same = refl }

module _ {rows rest : List Row} {b : Bool} {k : ℕ} (l : From rows (row b k ∷ rest)) where
  pub row-met : b ≡ true → first_met rows ≡ some k
  row-met e = l.same ∙ rw e

  pub row-passed : b ≡ false → From rows rest
  row-passed e = record { same = l.same ∙ rw e }

-- ---- a row that the code checks by `refuse`
-- it refuses: its cause is met, and the refusal is the row's
pub refuse-met : (b : Bool) (r : Refusal) {e : Refusal} → refuse_by b r ≡ Err e → (b ≡ true) × (e ≡ r)
refuse-met true r h = (refl, cc)
refuse-met false r h = cc

-- it does not: its cause is not met
pub refuse-passed : (b : Bool) (r : Refusal) {u : Unit {0}} → refuse_by b r ≡ Ok u → b ≡ false
refuse-passed true r h = cc
refuse-passed false r h = refl

module _ {rows rest : List Row} {b : Bool} (r : Refusal) (l : From rows (row b (number r) ∷ rest)) where
  pub row-refused : {e : Refusal} → refuse_by b r ≡ Err e → first_met rows ≡ some (number e)
  row-refused h = let q = refuse-met b r h in row-met l q.0 ∙ ap (λ (x : Refusal). some (number x)) (sym q.1)

  pub row-let-through : {u : Unit {0}} → refuse_by b r ≡ Ok u → From rows rest
  row-let-through h = row-passed l (refuse-passed b r h)

-- the last row: what it gives is what the table gives
pub last-row : {rows : List Row} {b : Bool} (r : Refusal) → From rows (row b (number r) ∷ []) → first_met rows ≡ refused (refuse_by b r)
last-row {rows} {b} r l = l.same ∙ go b
  where
    go : (x : Bool) → first_met (row x (number r) ∷ []) ≡ refused (refuse_by x r)
    go true = refl
    go false = refl

-- ---- the same, where the code tests b', which says what the row's cause b says
module _ {rows rest : List Row} {b : Bool} (r : Refusal) (l : From rows (row b (number r) ∷ rest)) {b' : Bool} (same : b' ≡ b) where
  pub told-refused : {e : Refusal} → refuse_by b' r ≡ Err e → first_met rows ≡ some (number e)
  told-refused h = row-refused r l (sym (ap (λ (x : Bool). refuse_by x r) same) ∙ h)

  pub told-through : {u : Unit {0}} → refuse_by b' r ≡ Ok u → From rows rest
  told-through h = row-let-through r l (sym (ap (λ (x : Bool). refuse_by x r) same) ∙ h)

pub told-last : {rows : List Row} {b b' : Bool} (r : Refusal) → From rows (row b (number r) ∷ []) → b' ≡ b → first_met rows ≡ refused (refuse_by b' r)
told-last r l same = last-row r l ∙ ap (λ (x : Bool). refused (refuse_by x r)) (sym same)

-- ---- a table that the code checks a row at a time, each by `first_met`
pub record Met (rows : List Row) (met : Result Unit Refusal) : Type 0 where
  pub first : first_met rows ≡ refused met

pub no_row : Met [] (Ok tt)
no_row = record { first = refl }

-- one row more, with the refusal e: its cause b is what the code tested
pub next_row : {rows : List Row} {met r : Result Unit Refusal} {b b' : Bool} (e : Refusal) → Met rows met → r ≡ met_or met b' e → b' ≡ b
    → Met (rows ++ (row b (number e) ∷ [])) r
next_row {rows} {met} {r} {b} {b'} e m said same = record {
  first =
      first-append rows (row b (number e) ∷ [])
      ∙ ap (λ (x : Option ℕ). or_else x (first_met (row b (number e) ∷ []))) m.first
      ∙ go met b
      ∙ sym (ap refused (said ∙ ap (λ (x : Bool). met_or met x e) same));
}
  where
    go : (m : Result Unit Refusal) (x : Bool) → or_else (refused m) (first_met (row x (number e) ∷ [])) ≡ refused (met_or m x e)
    go (Ok u) true = refl
    go (Ok u) false = refl
    go (Err f) x = refl
