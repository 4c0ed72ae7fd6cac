-- `read_mesh` meets its contract: each list holds the numbers of its part of the file.
use Rattle.std.proofs.Common.{◌≡◌, ◌∙◌, ◌+◌, ◌*◌, ℕ, ap, ap₂, List, ◌++◌, take, drop, rules, arith}
use Rattle.std.proofs.lemmas.List.{length-take-le}
use Rattle.decoding.specs.File.{vertices, faces, position_at, index_at}
use Rattle.decoding.specs.declared.model.Header.{Header}
use Rattle.decoding.proofs.ByteLaws.{each-filled, part-filled}
use Rattle.decoding.proofs.lists.read_mesh.Goals as goal

pub returns : goal.returns
returns c =
    let b = c.args.bytes.now in
    let r = c.requires.1 in
    let v : c.args.header.vertices ≡ vertices b = ap (λ (h : Header). h.vertices) c.requires.0 in
    let f : c.args.header.faces ≡ faces b = ap (λ (h : Header). h.faces) c.requires.0 in
    let part : c.copy_from_slice.new.self ≡ take (vertices b) (drop (6 + 12 * vertices b) b) =
    c.copy_from_slice.ensures.after ∙ ap₂ (λ (k at : ℕ). take k (drop at b)) (omega (arith, v)) (omega (arith, v)) in
    rw c.requires.0
    record {
      positions-are =
          each-filled _ (position_at b) (λ i x p. search rules) _ _ _
          (c.fill.auto.list ∙ length-take-le _ _ (omega (arith, r.positions-long, v)) ∙ omega (arith, v)) c.fill.ensures;
      tags-are =
          ap (λ (l : List ℕ). l ++ drop (vertices b) c.args.tags.now) part
          ∙ part-filled b (6 + 12 * vertices b) (vertices b) c.args.tags.now (omega (arith, r.length-is));
      faces-are =
          each-filled _ (index_at b) (λ i x p. search rules) _ _ _
          (c.fill-2.auto.list ∙ length-take-le _ _ (omega (arith, r.indices-long, f)) ∙ omega (arith, f)) c.fill-2.ensures;
    }
