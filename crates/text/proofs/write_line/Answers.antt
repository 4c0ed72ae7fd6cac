-- `write_line` meets its contract: the words stand at the front of a list that has room for each line.
use Rattle.std.proofs.Common.{sym, List, ℕ, subst, arith, map}
use Rattle.std.proofs.lemmas.Grind.{common_steps}
use Rattle.text.specs.Text.{words, Printed}
use Rattle.text.specs.Put.{word_text}
use Rattle.text.proofs.TextLaws.{printed}
use Rattle.text.proofs.write_line.Goals as goal

pub returns : goal.returns
returns c =
    let said = c.words.ensures in
    subst (λ (m : List ℕ). Printed (words (map word_text c.args.all.now)) c.args.places.now m c.words.new.self.at) (sym (grind (arith, common_steps)))
    (printed c.if-places-lt-LINE_PLACES.false c.requires said.place said.list)
