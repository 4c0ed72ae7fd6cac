-- A table of causes to refuse, in the order of checking, each with its number, and the first one that is met: a call gives a number
-- exactly when its cause is the first met.
--
--   first_met rows        the number of the first cause that is met, if one is
--   Answer A             what a call returns: its result, or the number of a refusal
--   answer_by met a       the refusal that was met, else the result a
--   written_by met before after   a lent list afterwards: as it was before after a refusal, else what was written
--   answered r            the answer that the code's `Result` is: its value, or the number of its refusal
--   refused r             the number of the refusal that the code's `Result` is, if it is one
--   result_of a           a `Result` that is the answer a
--   refuse_by cause r     what checking one row gives: the refusal r where its cause is met
--   met_or met cause r    the first refusal met after one more row, where `met` says which of the rows before it was
use Rattle.std.specs.Prelude.{Bool, cond, List, [], ◌∷◌, ℕ, Result, Ok, Err}
use Rattle.std.proofs.Math.Option.{Option, none, some}
use Rattle.answer.specs.declared.refusal.Refusal.{Refusal}
use Rattle.answer.specs.Number.{number}
use Rattle.answer.specs.Told.{told}

-- a row of the table
pub record Row : Type 0 where
  pub cause : Bool
  pub number : ℕ

abbrev pub row : Bool → ℕ → Row
row cause number = record { cause = cause; number = number }

abbrev pub first_met : List Row → Option ℕ
first_met [] = none
first_met (r ∷ rows) = cond r.cause (some r.number) (first_met rows)

pub data Answer (A : Type 0) : Type 0 where
  result : A → Answer A
  refusal : ℕ → Answer A

abbrev pub answer_by : {A : Type 0} → Option ℕ → A → Answer A
answer_by none a = result a
answer_by (some k) a = refusal k

abbrev pub written_by : {A : Type 0} → Option ℕ → A → A → A
written_by none before after = after
written_by (some k) before after = before

abbrev pub answered : {A : Type 0} → Result A Refusal → Answer A
answered (Ok a) = result a
answered (Err r) = refusal (number r)

abbrev pub refused : {A : Type 0} → Result A Refusal → Option ℕ
refused (Ok a) = none
refused (Err r) = some (number r)

abbrev pub result_of : {A : Type 0} → Answer A → Result A Refusal
result_of (result a) = Ok a
result_of (refusal k) = Err (told k)

abbrev pub refuse_by : Bool → Refusal → Result Unit Refusal
refuse_by cause r = cond cause (Err r) (Ok tt)

abbrev pub met_or : Result Unit Refusal → Bool → Refusal → Result Unit Refusal
met_or (Ok done) cause r = refuse_by cause r
met_or (Err first) cause r = Err first
