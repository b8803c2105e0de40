use Rattle.std.proofs.Common.{◌≡◌, ◌<◌, ◌≤◌, ◌++◌, map, take}
use Rattle.std.specs.Prelude.{is_some}
use Rattle.nested_arrays_nulls.specs.columnar_memory.Spans.{extended, last_of}
use Rattle.nested_arrays_generic_builders.specs.ListBuilders.{count_of}
use Rattle.nested_arrays_generic_builders.proofs.lengths.push_lists.Given as goal

-- the lists so far
abbrev pub invariant-loop-length : goal.invariant-loop-length
invariant-loop-length g l =
    let first = take l.length-index l.lengths in
    (l.marks ≡ l.initial.marks ++ map is_some first) × (l.offsets ≡ extended l.initial.offsets (map count_of first))
    × (0 < l.length-index → last_of l.offsets ≤ l.held)
