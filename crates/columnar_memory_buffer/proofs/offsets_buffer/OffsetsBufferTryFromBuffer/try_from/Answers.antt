use Rattle.std.proofs.Common.{List, refl, subst}
use Rattle.columnar_memory_buffer.specs.Spans.{IsStored}
use Rattle.columnar_memory_buffer.proofs.Runs.{IsStored-from_IsWhole}
use Rattle.columnar_memory_buffer.proofs.offsets_buffer.OffsetsBufferTryFromBuffer.try_from.Goals as goal

pub invariant_of-result : goal.invariant_of-result
invariant_of-result g c =
    subst (λ (xs : List _). IsStored g.O.Number.value xs) c.as_slice.ensures
    (IsStored-from_IsWhole g.O.Number.value c.as_slice.result.now (c.if-are_offsets.ensures.0 refl))

pub returns-then-are_offsets : goal.returns-then-are_offsets
returns-then-are_offsets g c =
    subst (λ (xs : List _). IsStored g.O.Number.value xs) c.as_slice.ensures
    (IsStored-from_IsWhole g.O.Number.value c.as_slice.result.now (c.if-are_offsets.ensures.0 refl))
