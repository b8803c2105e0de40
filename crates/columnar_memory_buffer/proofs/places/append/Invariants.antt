use Rattle.std.proofs.Common.{◌≡◌, ◌+◌, take}
use Rattle.std.specs.Prelude.{vec_capacity, vec_len}
use Rattle.columnar_memory_buffer.specs.Spans.{AreOffsets, extended, stored}
use Rattle.columnar_memory_buffer.proofs.places.append.Given as goal

-- as many offsets have come as the index says
abbrev pub invariant-loop-index : goal.invariant-loop-index
invariant-loop-index g l = record {
  grown : AreOffsets g.O.Number.value l.values.items (extended (stored g.O.Number.value l.fn.values.items) (take l.index (stored
      g.P.Number.value l.offsets).lengths));
  len : vec_len l.values ≡ vec_len l.fn.values + l.index;
  room : vec_capacity l.values ≡ vec_capacity l.fn.values;
}
