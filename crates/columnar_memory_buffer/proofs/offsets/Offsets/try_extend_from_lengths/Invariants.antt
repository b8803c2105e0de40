use Rattle.std.proofs.Common.{◌≡◌, ◌≤◌}
use Rattle.columnar_memory_buffer.specs.Spans.{extended, last_of}
use Rattle.columnar_memory_buffer.proofs.offsets.Offsets.try_extend_from_lengths.Given as goal

-- the spans are those that stood before and one for each length that was given
abbrev pub invariant-loop-length : goal.invariant-loop-length
invariant-loop-length g l = record {
  grown : l.self ≡ extended l.initial.self l.yielded;
  last : l.last ≡ last_of l.self;
  fits : last_of l.self ≤ g.O.Index.greatest;
}
