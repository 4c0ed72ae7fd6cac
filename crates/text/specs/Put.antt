-- What the private functions of `text` store.
--
--   Put t before after    the text t was written to a line behind what was written, and nothing else
--   Room t line           the line has room for the text t
--   word_text w           the text of a word
use Rattle.std.specs.Prelude.{◌≡◌, List, [], ◌∷◌, ℕ, ◌+◌, ◌≤◌, length}
use Rattle.std.proofs.lemmas.List.Edits.{sets}
use Rattle.text.specs.Text.{decimal, text}
use Rattle.text.specs.declared.Line.{Line}
use Rattle.text.specs.declared.Word.{Word}
use Rattle.text.specs.declared.Word.TheVariants.{Refused, Natural, Signed}

pub record Put (t : List ℕ) (before after : Line) : Type 0 where
  pub same : after.places.ghost_name ≡ before.places.ghost_name
  pub place : after.at ≡ before.at + length t
  pub list : after.places.now ≡ sets before.places.now before.at t

abbrev pub Room : List ℕ → Line → Type 0
Room t line = line.at + length t ≤ length line.places.now

abbrev pub word_text : Word → List ℕ
word_text Refused = 114 ∷ 101 ∷ 102 ∷ 117 ∷ 115 ∷ 101 ∷ 100 ∷ []
word_text (Natural n) = decimal n
word_text (Signed z) = text z
