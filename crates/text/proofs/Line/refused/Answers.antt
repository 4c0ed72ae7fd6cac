-- `refused` meets its contract: the seven bytes that are copied are the word.
use Rattle.std.proofs.Common.{refl, arith, ap, ◌∙◌, ◌+◌, ◌-◌}
use borrow.Rule.Slice.PartMut.{put_mid}
use Rattle.text.specs.Put.{word_text}
use Rattle.text.specs.declared.Word.TheVariants.{Refused}
use Rattle.text.proofs.TextLaws.{sets-part}
use Rattle.text.proofs.Line.refused.Goals as goal

pub returns : goal.returns
returns c =
    let l = c.args.self.now in
    record {
      same = refl;
      place = refl;
      list =
          ap (put_mid l.at (l.at + 7 - l.at) l.places.now) c.copy_from_slice.ensures.after
          ∙ sets-part l.places.now l.at _ (word_text Refused) c.requires (omega arith);
    }
