-- `write_stretches` ends: the buffer has room for a line, so each stretch leads on, and none leads beyond the last line. What was written is the lines so far, and
-- at the end all lines.
use Rattle.std.proofs.Common.{◌≡◌, refl, ap, ◌∙◌, subst, ◌≤◌, ◌<◌, [], ◌++◌, length, take, arith}
use Rattle.std.specs.Io.KnownBytes.{Appends}
use Rattle.std.proofs.KnownBytes.{Appends-nil, Appends-trans}
use Rattle.answer.specs.Table.{answered}
use Rattle.text.specs.Text.{line_places}
use Rattle.listing.specs.Listing.{joined, line_at, handed_count}
use Rattle.listing.proofs.StretchLaws.{leads-on, leads-within, begun, further, stretches-lines}
use Rattle.printing.proofs.write_stretches.Goals as goal

pub loop-line-init : goal.loop-line-init
loop-line-init g c = (omega arith, refl, ([], begun, Appends-nil (g.W.Write.contents c.args.to.now)))

pub loop-line-smaller : goal.loop-line-smaller
loop-line-smaller g c =
    let more : c.loop-line.line < handed_count (answered c.args.file) = omega (arith, c.loop-line-test.true, c.line_count-lines.ensures) in
    let room : line_places ≤ length c.loop-line.out = omega (arith, c.requires, c.loop-line.invariant.1) in
    omega (arith, more, c.line_count-lines.ensures, leads-on c.stretch-next.ensures more room)

pub loop-line-preserved : goal.loop-line-preserved
loop-line-preserved g c =
    let more : c.loop-line.line < handed_count (answered c.args.file) = omega (arith, c.loop-line-test.true, c.line_count-lines.ensures) in
    let within : c.stretch-next.result.line ≤ handed_count (answered c.args.file) = leads-within c.stretch-next.ensures (omega (arith, more)) in
    let so_far = c.loop-line.invariant.2 in
    let held = g.W.Write.contents in (
      omega (arith, within, c.line_count-lines.ensures),
      c.stretch-next.auto.out ∙ c.loop-line.invariant.1,
      (
        so_far.0 ++ take c.stretch-next.result.length c.stretch-next.new.out,
        further so_far.1 c.stretch-next.ensures,
        Appends-trans (held c.args.to.now) (held c.loop-line.to) (held c.write_all.new.self) so_far.0 (take c.stretch-next.result.length c.stretch-next.new.out) so_far.2 c.in_ok-write_all.ensures.bytes,
      ),
    )

pub returns : goal.returns
returns g c =
    let so_far = c.loop-line.invariant.2 in
    let answer = answered c.args.file in
    let patches = c.args.patches.now in
    let last : c.loop-line.line ≡ handed_count answer = omega (arith, c.loop-line-test.false, c.loop-line.invariant.0, c.line_count-lines.ensures) in
    let whole : so_far.0 ≡ joined (line_at answer patches) (handed_count answer) =
    stretches-lines answer patches c.loop-line.line so_far.0 so_far.1 ∙ ap (joined (line_at answer patches)) last in
    subst (Appends (g.W.Write.contents c.args.to.now) (g.W.Write.contents c.loop-line.to)) whole so_far.2
