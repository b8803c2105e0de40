use Rattle.std.proofs.Common.{◌≡◌, ◌≤◌, ap, arith, ◌∙◌}
use Rattle.std.proofs.lemmas.Result.{err_from_is_err_and}
use Rattle.columnar_memory_buffer.specs.Spans.{last_of, offset_at, stored}
use Rattle.columnar_memory_buffer.proofs.Faults.{IsOutOfMemory-from_fault}
use Rattle.columnar_memory_buffer.proofs.Runs.{spans_of-AreOffsets, offset_at-all}
use Rattle.columnar_memory_buffer.proofs.offsets_buffer.OffsetsBufferI64TryFromRefOffsetsBufferI32.try_from.Goals as goal

pub returns-in_err-converted : goal.returns-in_err-converted
returns-in_err-converted c =
    let p = err_from_is_err_and c.from_residual.result c.from_residual.ensures.1 in
    let same : last_of (stored (λ x. x) c.as_slice.result.now) ≡ last_of c.args.offsets.now = ap last_of (spans_of-AreOffsets (λ x. x)
    c.as_slice.result.now c.args.offsets.now c.as_slice.ensures) in
    let last : c.number-last.result ≡ last_of c.args.offsets.now = c.number-last.ensures.value ∙ ap (offset_at c.args.offsets.now)
    c.len_proxy.ensures ∙ offset_at-all c.args.offsets.now in
    let within : last_of (stored (λ x. x) c.as_slice.result.now) ≤ 0x7fff_ffff_ffff_ffff = omega (arith, same, last, c.number-last.ensures.bound) in
    rw (p.1, p.2) (IsOutOfMemory-from_fault 0x7fff_ffff_ffff_ffff (last_of (stored (λ x. x) c.as_slice.result.now)) c.in_err-converted.field-0.0
    within c.in_err-converted.ensures)
