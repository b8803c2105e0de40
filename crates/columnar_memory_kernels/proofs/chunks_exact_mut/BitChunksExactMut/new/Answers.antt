use Rattle.std.proofs.Common.{◌≡◌, ◌∙◌, ◌*◌, ◌/◌, ap, arith, take, length-take}
use Rattle.std.proofs.lemmas.List.{take-take}
use Rattle.columnar_memory_kernels.proofs.Chunks.{chunks_within}
use Rattle.columnar_memory_kernels.proofs.chunks_exact_mut.BitChunksExactMut.new.Goals as goal

pub split_at_mut-chunks-requires : goal.split_at_mut-chunks-requires
split_at_mut-chunks-requires g c =
    let w = c.bits-width.result in
    let whole : w ≡ 8 * (w / 8) = omega (arith, c.bits-width.ensures, g.met.T.ChunkWidth.whole) in
    let within = chunks_within w (w / 8) c.args.len whole in
    omega (arith, within, length-take c.bytes_for.result c.args.bitmap.now, c.bytes_for.ensures, c.requires)

pub returns-clause-chunks : goal.returns-clause-chunks
returns-clause-chunks g c =
    let w = c.bits-width.result in
    let whole : w ≡ 8 * (w / 8) = omega (arith, c.bits-width.ensures, g.met.T.ChunkWidth.whole) in
    let within = chunks_within w (w / 8) c.args.len whole in
    c.chunks_exact_mut.ensures.rest ∙ c.split_at_mut-chunks.ensures.front
    ∙ take-take (c.args.len / w * (w / 8)) c.bytes_for.result c.args.bitmap.now (omega (arith, within, c.bytes_for.ensures))
    ∙ ap (λ k. take (c.args.len / k * (k / 8)) c.args.bitmap.now) c.bits-width.ensures
