-- `corner_vector` meets its contract: 256 times the sum fits 64 bits.
use Rattle.std.proofs.Common.{refl, ap, ◌∙◌, ◌^◌, arith, w64, ℤ, pos, ◌*ℤ◌}
use Rattle.integer.specs.Nearest.{nearest}
use Rattle.integer.proofs.Laws.{read_back}
use Rattle.cosine.specs.Cosine.{scale}
use Rattle.tangent.specs.Told.{vector_at}
use Rattle.tangent.proofs.MachineLaws.{wide, times, result}
use Rattle.tangent.proofs.ring.Tables.corner_vector.Goals as goal

pub returns : goal.returns
unfolding vector_at
returns c =
    read_back w64 (omega arith)
    (c.round.ensures.0
    ∙ ap (λ (z : ℤ). nearest z scale)
    (result (times 256 (wide c.ring_sum.result (2 ^ 47))) c.ring_sum.ensures.1 refl ∙ ap (λ (z : ℤ). pos 256 *ℤ z) c.ring_sum.ensures.0))
