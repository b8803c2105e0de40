use Rattle.std.proofs.Common.{length}
use Rattle.columnar_memory_buffer.specs.Spans.{NeverFalls}
use Rattle.columnar_memory_buffer.proofs.places.never_falls.Given as goal

-- what is left does not fall below the last offset exactly where the whole does not fall
abbrev pub invariant-loop-offset : goal.invariant-loop-offset
invariant-loop-offset g l =
    (NeverFalls g.O.Number.value l.last l.rest → NeverFalls g.O.Number.value 0 l.fn.offsets) × (NeverFalls g.O.Number.value 0 l.fn.offsets →
    NeverFalls g.O.Number.value l.last l.rest)

abbrev pub decreases-loop-offset : goal.decreases-loop-offset
decreases-loop-offset g l = length l.rest
