use Rattle.std.proofs.Common.{◌≡◌, ◌-◌, length}
use Rattle.flat_arrays_bytes.specs.columnar_memory.Spans.{first_spans}
use Rattle.flat_arrays_byte_values_builders.proofs.builder.keep_spans.Given as goal

-- as many of the last spans are off as there were turns
abbrev pub invariant-loop-k : goal.invariant-loop-k
invariant-loop-k g l = l.offsets ≡ first_spans l.initial.offsets (length l.initial.offsets.lengths - l._k)
