use Rattle.std.proofs.Common.{◌≡◌, ◌≤◌, length}
use Rattle.nested_arrays_core.specs.arrays.columnar_memory.Spans.{first_spans}
use Rattle.nested_arrays_builder_parts.proofs.strings.keep_spans.Given as goal

abbrev pub invariant-keep : goal.invariant-keep
invariant-keep g l = record {
  kept : l.offsets ≡ first_spans l.fn.offsets (length l.offsets.lengths);
  long : l.len ≤ length l.offsets.lengths;
  within : length l.offsets.lengths ≤ length l.fn.offsets.lengths;
}

abbrev pub decreases-keep : goal.decreases-keep
decreases-keep g l = length l.offsets.lengths
