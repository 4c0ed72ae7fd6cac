-- `words` meets its contract: each word but the last has a blank behind it, and the last the line's end.
use Rattle.std.proofs.Common.{◌∷◌, [], ◌++◌, ◌+◌, subst, rules, ℕ, List, drop, get_or, drop-cons, drop_of_length-le, add-one, length-append, arith}
use Rattle.text.specs.Put.{Put, word_text}
use Rattle.text.specs.declared.Word.{Word}
use Rattle.text.specs.declared.Word.TheVariants.{Refused}
use Rattle.text.proofs.TextLaws.{Left, left-room, left-more, put-length, put_then}
use Rattle.text.proofs.Line.words.Goals.{After-word, After-word-2}
use Rattle.text.proofs.Line.words.Goals as goal

-- ---- a word with others behind it
module _ (c : After-word) where
  abbrev others : List Word
  others = c.in-Some.others.now

  abbrev last : List Word
  last = c.in-Some.last.now ∷ []

  next : Left c.args.all.now (get_or others c.loop-word.word-index Refused ∷ (drop (c.loop-word.word-index + 1) others ++ last)) c.args.self.now
      c.loop-word.self
  next =
      rw add-one
      (subst (λ (ws : List Word). Left c.args.all.now (ws ++ last) c.args.self.now c.loop-word.self)
      (drop-cons others c.loop-word.word-index Refused c.loop-word-test.true) c.loop-word.invariant)

pub byte-requires-in-loop-word : goal.byte-requires-in-loop-word
byte-requires-in-loop-word c =
    let w = (goal.at.byte-requires-in-loop-word c).After-word in
    omega (arith, left-room _ _ (next w) c.word.ensures)

pub loop-word-preserved : goal.loop-word-preserved
loop-word-preserved c =
    let w = (goal.at.loop-word-preserved c).After-word in
    left-more _ _ (next w) c.word.ensures
    (subst (λ (b : ℕ). Put (b ∷ []) c.word.new.self c.byte-in-loop-word.new.self) (search rules) c.byte-in-loop-word.ensures)

-- ---- the last word
module _ (c : After-word-2) where
  only : Left c.args.all.now (c.in-Some.last.now ∷ []) c.args.self.now c.loop-word.self
  only =
      subst (λ (ws : List Word). Left c.args.all.now (ws ++ (c.in-Some.last.now ∷ [])) c.args.self.now c.loop-word.self)
      (drop_of_length-le c.in-Some.others.now c.loop-word-test.false) c.loop-word.invariant

pub byte-requires-2 : goal.byte-requires-2
byte-requires-2 c =
    let w = (goal.at.byte-requires-2 c).After-word-2 in
    omega (arith, (only w).room, length-append (word_text c.in-Some.last.now) (10 ∷ []), c.word-2.ensures.place, put-length c.word-2.ensures)

pub returns : goal.returns
returns c =
    let w = (goal.at.returns c).After-word-2 in
    (only w).put _ (put_then c.word-2.ensures c.byte-2.ensures)
