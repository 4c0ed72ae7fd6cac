-- `open` meets its contract: a file that decoding refuses is refused, and else the parts of the lists that were written are the file's mesh.
use Rattle.std.proofs.Common.{◌≡◌, sym, ap, subst, ℕ, ◌*◌, ◌≤◌, List, ℤ, pos, length, replicate, Err, arith}
use Rattle.std.proofs.lemmas.Grind.{common_steps}
use Rattle.std.proofs.lemmas.List.{length-replicate, length-take-le}
use native.Mathlib.Nat.{le_of_eq}
use Rattle.limits.specs.Limits.{max_vertices, max_faces}
use Rattle.decoding.specs.File.{vertices, faces, steps, position_at, tag_at, index_at}
use Rattle.decoding.specs.declared.model.Header.{Header}
use Rattle.decoding.proofs.FileLaws.{Whole, file-whole}
use Rattle.mesh.specs.WellFormed.{MeshSized}
use Rattle.meshfile.proofs.OpenLaws.{FileRead, file-read, file-turned-down, part-fits, mesh-is, whole-sized, open-mesh, open-refused}
use Rattle.meshfile.proofs.open.Goals.{In_ok-header}
use Rattle.meshfile.proofs.open.Goals as goal

-- ---- the three lists of `open`, before they are written
abbrev no-positions : List ℤ
no-positions = replicate (3 * max_vertices) (pos 0)

abbrev no-tags : List ℕ
no-tags = replicate max_vertices 0

abbrev no-indices : List ℕ
no-indices = replicate (4 * max_faces) 0

as_long : {A : Type 0} (n : ℕ) (a : A) → n ≤ length (replicate n a)
as_long n a = le_of_eq (sym (length-replicate n a))

pub returns-in_err-header : goal.returns-in_err-header
returns-in_err-header c =
    let r : c.from_residual.result ≡ Err c.in_err-header.field-0.0 = grind (arith, common_steps) in
    open-refused c.args.bytes.now c.args.patches.now _ r
    (file-turned-down c.args.bytes.now no-positions no-tags no-indices
    (as_long (3 * max_vertices) (pos 0)) (as_long {A = ℕ} max_vertices 0) (as_long {A = ℕ} (4 * max_faces) 0) c.in_err-header.ensures)

-- ---- the file was read
module _ (c : In_ok-header) where
  abbrev file : List ℕ
  file = c.args.bytes.now

  abbrev header : Header
  header = c.in_ok-header.header

  read : FileRead file no-positions no-tags no-indices header c.decode.new.positions c.decode.new.tags c.decode.new.faces
  read = file-read file _ _ _ c.in_ok-header.ensures

  whole : Whole file
  whole = file-whole file read.passed

  vertices-are : header.vertices ≡ vertices file
  vertices-are = ap (λ (h : Header). h.vertices) read.header_is

  faces-are : header.faces ≡ faces file
  faces-are = ap (λ (h : Header). h.faces) read.header_is

  steps-are : header.steps ≡ steps file
  steps-are = ap (λ (h : Header). h.steps) read.header_is

-- ---- the parts of the lists are handed on
module _ (c : In_ok-header) where
  positions-fit : 3 * (header c).vertices ≤ length c.decode.new.positions
  positions-fit = rw (read c).header_is (part-fits (position_at (file c)) (3 * vertices (file c)) _ _ (read c).positions-are)

  tags-fit : (header c).vertices ≤ length c.decode.new.tags
  tags-fit = rw (read c).header_is (part-fits (tag_at (file c)) (vertices (file c)) _ _ (read c).tags-are)

  faces-fit : 4 * (header c).faces ≤ length c.decode.new.faces
  faces-fit = rw (read c).header_is (part-fits (index_at (file c)) (4 * faces (file c)) _ _ (read c).faces-are)

pub slice_bounds-positions-end : goal.slice_bounds-positions-end
slice_bounds-positions-end c = positions-fit c

pub slice_bounds-mesh-end : goal.slice_bounds-mesh-end
slice_bounds-mesh-end c = sym (length-take-le _ _ (positions-fit (goal.at.slice_bounds-mesh-end c).In_ok-header))

pub slice_bounds-tags-end : goal.slice_bounds-tags-end
slice_bounds-tags-end c = tags-fit (goal.at.slice_bounds-tags-end c).In_ok-header

pub slice_bounds-mesh-end-2 : goal.slice_bounds-mesh-end-2
slice_bounds-mesh-end-2 c = sym (length-take-le _ _ (tags-fit (goal.at.slice_bounds-mesh-end-2 c).In_ok-header))

pub slice_bounds-faces-end : goal.slice_bounds-faces-end
slice_bounds-faces-end c = faces-fit (goal.at.slice_bounds-faces-end c).In_ok-header

pub slice_bounds-mesh-end-3 : goal.slice_bounds-mesh-end-3
slice_bounds-mesh-end-3 c = sym (length-take-le _ _ (faces-fit (goal.at.slice_bounds-mesh-end-3 c).In_ok-header))

pub tessellate-requires : goal.tessellate-requires
tessellate-requires c =
    let k = (goal.at.tessellate-requires c).In_ok-header in
    subst MeshSized (sym (mesh-is (file k) (read k))) (whole-sized (file k) (whole k))

pub returns : goal.returns
returns c =
    let k = (goal.at.returns c).In_ok-header in
    open-mesh (file k) c.args.patches.now (read k).passed (mesh-is (file k) (read k)) (steps-are k) c.tessellate.ensures
