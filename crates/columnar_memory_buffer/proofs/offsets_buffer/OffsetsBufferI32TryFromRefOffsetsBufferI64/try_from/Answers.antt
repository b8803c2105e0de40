use Rattle.std.proofs.Common.{subst}
use Rattle.std.proofs.lemmas.Result.{err_from_is_err_and}
use Rattle.columnar_memory_buffer.specs.Growth.{IsGrowthFault}
use Rattle.columnar_memory_buffer.specs.Spans.{Spans, last_of}
use Rattle.columnar_memory_buffer.proofs.Runs.{spans_of-AreOffsets}
use Rattle.columnar_memory_buffer.proofs.offsets_buffer.OffsetsBufferI32TryFromRefOffsetsBufferI64.try_from.Goals as goal

pub returns-in_err-converted : goal.returns-in_err-converted
returns-in_err-converted c =
    let p = err_from_is_err_and c.from_residual.result c.from_residual.ensures.1 in
    rw (p.1, p.2) (subst (λ (s : Spans). IsGrowthFault 0x7fff_ffff (last_of s) c.in_err-converted.field-0.0) (spans_of-AreOffsets (λ x. x)
    c.as_slice.result.now c.args.offsets.now c.as_slice.ensures) c.in_err-converted.ensures)
