-- `write_patches` meets its contract: 48 numbers and 16 marks are written for each face, from 48 and 16 times its number on.
use mathlib.Core.Path.{refl}
use Prim.Native.Nat.{◌<◌, ◌+◌, ◌*◌}
use native.Mathlib.Numerals.{add-one-le}
use native.Mathlib.Omega.{arith}
use Rattle.finite.proofs.FilledLaws.{filled-start, filled-all, stretch-long, filled-stretch}
use Rattle.patch.specs.Written.{PatchLists}
use Rattle.patch.specs.Sources.{lists_in}
use Rattle.patch.proofs.SourceLaws.{number-placed, mark-placed}
use Rattle.patch.proofs.source.PatchSource.write_patches.Goals.{After-write_patch, After-write_patch-arg-in-loop-g-1, At-loop-g, Start}
use Rattle.patch.proofs.source.PatchSource.write_patches.Goals as goal

-- the loop's head and the function's entry, from the parts that are lent
abbrev head : After-write_patch-arg-in-loop-g-1 → At-loop-g
head c = (goal.at.After-write_patch-arg-in-loop-g-1 c).At-loop-g

abbrev start : At-loop-g → Start
start l = (goal.at.At-loop-g l).Start

abbrev lists : Start → PatchLists
lists s = lists_in s.args.self

pub loop-g-init : goal.loop-g-init
loop-g-init c =
    record { most = omega arith; patches-long = refl; patches-are = filled-start _ _; marks-long = refl; marks-are = filled-start _ _ }

pub write_patch-requires : goal.write_patch-requires
write_patch-requires c =
    let l = head c in
    let s = start l in
    let below : l.loop-g.g < s.args.f = omega arith in
    record {
      face = omega (arith, s.requires.listed, below);
      patch-room = stretch-long (48 * l.loop-g.g) 48 l.loop-g.patches (omega (arith, s.requires.patches-room, l.loop-g.invariant.patches-long, below));
      marks-room = stretch-long (16 * l.loop-g.g) 16 l.loop-g.marks (omega (arith, s.requires.marks-room, l.loop-g.invariant.marks-long, below));
    }

pub loop-g-preserved : goal.loop-g-preserved
loop-g-preserved c =
    let t : After-write_patch = (goal.at.loop-g-preserved c).After-write_patch in
    let l = head (goal.at.After-write_patch t).After-write_patch-arg-in-loop-g-1 in
    let s = start l in
    let below : l.loop-g.g < s.args.f = omega arith in
    let w = filled-stretch _ _ (48 * l.loop-g.g) 48 (48 * (l.loop-g.g + 1)) s.args.patches.now l.loop-g.patches _
    (omega arith) (omega (arith, s.requires.patches-room, below)) (number-placed (lists s) l.loop-g.g)
    l.loop-g.invariant.patches-are t.write_patch.ensures.numbers-are in
    let x = filled-stretch _ _ (16 * l.loop-g.g) 16 (16 * (l.loop-g.g + 1)) s.args.marks.now l.loop-g.marks _
    (omega arith) (omega (arith, s.requires.marks-room, below)) (mark-placed (lists s) l.loop-g.g)
    l.loop-g.invariant.marks-are t.write_patch.ensures.marks-are in
    record { most = add-one-le below; patches-long = w.0; patches-are = w.1; marks-long = x.0; marks-are = x.1 }

pub shape_of-patches : goal.shape_of-patches
shape_of-patches c = c.loop-g.invariant.patches-long

pub shape_of-marks : goal.shape_of-marks
shape_of-marks c = c.loop-g.invariant.marks-long

pub returns : goal.returns
returns c =
    let inv = c.loop-g.invariant in
    record {
      numbers-are = filled-all _ _ _ _ _ (omega (arith, inv.most)) (omega arith) inv.patches-are;
      marks-are = filled-all _ _ _ _ _ (omega (arith, inv.most)) (omega arith) inv.marks-are;
    }
