-- `write_patch` meets its contract: each point fills the next three places and its mark the next byte, and what stands behind the sixteenth is as it was.
use mathlib.Core.Path.{refl, ◌∙◌}
use Prim.Native.Nat.{◌+◌, ◌*◌, ◌≤◌}
use native.Mathlib.Omega.{arith}
use lib.ListN.{length, length-set}
use Rattle.finite.proofs.FilledLaws.{filled-start, filled_more, filled-all, stretch-long, filled-stretch}
use Rattle.patch.specs.Written.{PatchLists, number_from, mark_from}
use Rattle.patch.specs.Sources.{lists_in}
use Rattle.patch.proofs.source.PatchSource.write_patch.Goals.{At-loop-m, In-loop-m, Start}
use Rattle.patch.proofs.source.PatchSource.write_patch.Goals as goal

-- ---- in the loop: the entry, the number that belongs at place i, and the part of the list that is lent is long enough
module _ (c : In-loop-m) where
  abbrev head : At-loop-m
  head = (goal.at.In-loop-m c).At-loop-m

  abbrev start : Start
  start = (goal.at.At-loop-m head).Start

  abbrev lists : PatchLists
  lists = lists_in start.args.self

  room : 3 * head.loop-m.m + 3 ≤ length start.args.patch.now
  room = omega (arith, start.requires.patch-room, c.loop-m-test.true)

-- ---- the answers, in the order of the code
pub loop-m-init : goal.loop-m-init
loop-m-init c =
    record { most = omega arith; patch-long = refl; patch-is = filled-start _ _; marks-long = refl; marks-are = filled-start _ _ }

pub write_numbered-requires : goal.write_numbered-requires
write_numbered-requires c =
    let i : In-loop-m = (goal.at.write_numbered-requires c).In-loop-m in
    let s = start i in
    let l = (head i).loop-m in
    record {
      face = s.requires.face;
      sixteen = omega (arith, i.loop-m-test.true);
      room = stretch-long (3 * l.m) 3 l.patch (omega (arith, room i, l.invariant.patch-long));
    }

pub bounds-marks-m : goal.bounds-marks-m
bounds-marks-m c =
    let i : In-loop-m = (goal.at.bounds-marks-m c).In-loop-m in
    omega (arith, i.loop-m-test.true, (start i).requires.marks-room, (head i).loop-m.invariant.marks-long)

pub loop-m-smaller : goal.loop-m-smaller
loop-m-smaller c = omega (arith, c.loop-m-test.true)

pub loop-m-preserved : goal.loop-m-preserved
loop-m-preserved c =
    let i : In-loop-m = (goal.at.loop-m-preserved c).In-loop-m in
    let s = start i in
    let l = (head i).loop-m in
    let w =
    filled-stretch (number_from (lists i) s.args.g) _ (3 * l.m) 3 (3 * (l.m + 1)) s.args.patch.now l.patch _
    (omega arith) (omega (arith, room i)) (λ j h. refl) l.invariant.patch-is c.write_numbered.ensures.numbers-are in
    record {
      most = omega (arith, i.loop-m-test.true);
      patch-long = w.0;
      patch-is = w.1;
      marks-long = length-set l.marks l.m _ ∙ l.invariant.marks-long;
      marks-are =
          filled_more (mark_from (lists i) s.args.g) l.m _ s.args.marks.now l.marks
          (omega (arith, i.loop-m-test.true, s.requires.marks-room)) l.invariant.marks-are c.write_numbered.ensures.mark-is;
    }

pub shape_of-patch : goal.shape_of-patch
shape_of-patch c = c.loop-m.invariant.patch-long

pub shape_of-marks : goal.shape_of-marks
shape_of-marks c = c.loop-m.invariant.marks-long

pub returns : goal.returns
returns c =
    let inv = c.loop-m.invariant in
    record {
      numbers-are = filled-all _ _ _ _ _ (omega (arith, inv.most)) (omega arith) inv.patch-is;
      marks-are = filled-all _ _ _ _ _ (omega (arith, inv.most)) (omega arith) inv.marks-are;
    }
