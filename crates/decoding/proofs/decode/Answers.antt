-- `decode` meets its contract: the refusals of the file, then that of the lists, and else the file is read into them.
use Rattle.std.proofs.Common.{◌≡◌, ◌∙◌, sym, ap, false, ◌||◌, Bool, ltb, ◌*◌, length, Err, arith}
use Rattle.std.proofs.lemmas.Grind.{common_steps}
use mathlib.Core.Option.{none, some}
use Rattle.answer.specs.Number.{number}
use Rattle.answer.specs.declared.refusal.Refusal.{Refusal}
use Rattle.answer.specs.declared.refusal.Refusal.TheVariants.{ListShort}
use Rattle.answer.specs.Table.{first_met}
use Rattle.answer.proofs.TableLaws.{refusal-met, result-none, refuse-met, refuse-passed}
use Rattle.decoding.specs.File.{file_rows}
use Rattle.decoding.specs.Decoding.{header_of, places_short}
use Rattle.decoding.specs.declared.model.Header.{Header}
use Rattle.decoding.proofs.FileLaws.{Whole, file-whole, decode-file, decode-short, decode-read, readable, file-refused, file-decoded}
use Rattle.decoding.proofs.decode.Goals.{In_ok-header, After-places_short, In_ok-refuse}
use Rattle.decoding.proofs.decode.Goals as goal

pub returns-in_err-header : goal.returns-in_err-header
returns-in_err-header c =
    let b = c.args.bytes.now in
    let r : c.from_residual.result ≡ Err c.in_err-header.field-0.0 = grind (arith, common_steps) in
    file-refused _ _ _ _ _ r (decode-file _ _ _ _ (refusal-met (header_of b) (first_met (file_rows b)) c.in_err-header.ensures))

-- ---- the file is whole
module _ (c : In_ok-header) where
  told : (first_met (file_rows c.args.bytes.now) ≡ none) × (c.in_ok-header.header ≡ header_of c.args.bytes.now)
  told = result-none (first_met (file_rows c.args.bytes.now)) c.in_ok-header.ensures

  whole : Whole c.args.bytes.now
  whole = file-whole c.args.bytes.now told.0

pub places_short-requires : goal.places_short-requires
places_short-requires c = rw (told c).1 ((whole c).vertices-high, (whole c).faces-high)

-- ---- the room of the lists
module _ (c : After-places_short) where
  abbrev read : In_ok-header
  read = (goal.at.After-places_short c).In_ok-header

  -- whether the lists are too short for a file with these sizes
  abbrev tight : Header → Bool
  tight h =
      ltb (length c.args.positions.now) (3 * h.vertices) || (ltb (length c.args.tags.now) h.vertices || ltb (length c.args.faces.now) (4 * h.faces))

  short : c.places_short.result ≡ places_short c.args.bytes.now (length c.args.positions.now) (length c.args.tags.now) (length c.args.faces.now)
  short = c.places_short.ensures ∙ ap tight (told read).1

pub returns-in_err-refuse : goal.returns-in_err-refuse
returns-in_err-refuse c =
    let p = (goal.at.returns-in_err-refuse c).After-places_short in
    let r : c.from_residual-in_err-refuse.result ≡ Err c.in_err-refuse.field-0.0 = grind (arith, common_steps) in
    let met = refuse-met c.places_short.result ListShort (sym c.in_err-refuse.ensures) in
    file-refused _ _ _ _ _ r (decode-short _ _ _ _ (told (read p)).0 (sym (short p) ∙ met.0) ∙ ap (λ (e : Refusal). some (number e)) (sym met.1))

-- ---- the lists are long enough
module _ (c : In_ok-refuse) where
  abbrev asked : After-places_short
  asked = (goal.at.In_ok-refuse c).After-places_short

  long : places_short c.args.bytes.now (length c.args.positions.now) (length c.args.tags.now) (length c.args.faces.now) ≡ false
  long = sym (short asked) ∙ refuse-passed c.places_short.result ListShort (sym c.in_ok-refuse.ensures)

pub read_mesh-requires : goal.read_mesh-requires
read_mesh-requires c =
    let o = (goal.at.read_mesh-requires c).In_ok-refuse in
    ((told (read (asked o))).1, readable _ _ _ _ (whole (read (asked o))) (long o))

pub returns : goal.returns
returns c =
    let o = (goal.at.returns c).In_ok-refuse in
    let t = told (read (asked o)) in
    file-decoded _ _ _ _ (decode-read _ _ _ _ t.0 (long o)) t.1 c.read_mesh.ensures
