-- What is left of the words is those from the next one on and the last.
use Rattle.std.proofs.Common.{◌∷◌, [], ◌++◌, drop}
use Rattle.text.proofs.TextLaws.{Left}
use Rattle.text.proofs.Line.words.Given as goal

abbrev pub invariant-loop-word : goal.invariant-loop-word
invariant-loop-word l = Left l.all (drop l.word-index l.others ++ (l.last ∷ [])) l.initial.self l.self
