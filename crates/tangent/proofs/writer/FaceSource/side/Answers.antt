-- `side` meets its contract: the lists have the places that are read.
use Rattle.std.proofs.Common.{◌≡◌, arith, ℕ, ◌<◌, ◌+◌, ◌%◌, pos, w32, w64, to_z, of_z}
use lib.ListN.{get_or}
use mir.Facts.{to_z-of_z}
use Rattle.integer.proofs.Laws.{read_back, sfits-abs}
use Rattle.tangent.proofs.SideLaws.{side-told}
use Rattle.tangent.proofs.writer.FaceSource.side.Goals as goal

pub returns : goal.returns
returns c =
    let a = c.args in
    let cosines = a.self.cosines.now in
    let cosine : (t : ℕ) → t < 4 → to_z w32 (of_z w32 (get_or cosines t (pos 0))) ≡ get_or cosines t (pos 0) =
    λ t l. to_z-of_z (sfits-abs {w = w32} (get_or cosines t (pos 0)) (omega (arith, a.self.known.cosines-small t l))) in
    side-told a.self.parts.now cosines a.s a.k
    (read_back w64 c.listed.type_inv c.listed.ensures)
    (read_back w64 c.listed-2.type_inv c.listed-2.ensures)
    (read_back w64 c.listed-3.type_inv c.listed-3.ensures)
    (read_back w64 c.listed-4.type_inv c.listed-4.ensures)
    (read_back w64 c.listed-5.type_inv c.listed-5.ensures)
    (read_back w64 c.listed-6.type_inv c.listed-6.ensures)
    (cosine a.s c.requires.0)
    (cosine ((a.s + 1) % 4) (omega arith))
