-- `write_numbered` meets its contract: the two tables are those of the definitions.
use mathlib.Core.Path.{sym, ◌∙◌}
use Prim.Native.Nat.{◌<◌}
use Rattle.finite.proofs.FilledLaws.{filled-ext}
use Rattle.patch.specs.Point.{inner}
use Rattle.patch.specs.Patch.{owner, kind}
use Rattle.patch.specs.Written.{kind_of, mark_from}
use Rattle.patch.specs.Sources.{lists_in}
use Rattle.patch.proofs.FacePointLaws.{owner-listed, number-point, table_at}
use Rattle.patch.proofs.source.PatchSource.write_numbered.Goals.{Start}
use Rattle.patch.proofs.source.PatchSource.write_numbered.Goals as goal

pub write_point-requires : goal.write_point-requires
write_point-requires c =
    let s : Start = (goal.at.write_point-requires c).Start in
    (owner-listed s.args.self.serves s.args.g _ _ s.requires.face c.turned-c.ensures, s.requires.room)

-- `table_at` asks for l
pub returns : goal.returns
unfolding owner kind mark_from
returns c =
    let s : Start = (goal.at.returns c).Start in
    let l : s.args.m < 16 = s.requires.sixteen in
    let w = c.write_point.ensures in
    record {
      numbers-are =
          (rw (c.turned-c.ensures, c.from.ensures, table_at kind_of inner) at w.numbers-are)
          ∙ sym (filled-ext 3 s.args.point.now (number-point (lists_in s.args.self) s.args.g s.args.m));
      mark-is = rw (c.turned-c.ensures, c.from.ensures, table_at kind_of inner) at w.mark-is;
    }
