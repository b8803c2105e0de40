use Rattle.std.proofs.Common.{ap, arith}
use Rattle.nested_arrays_parts.specs.columns.StoredColumns.{column_len}
use Rattle.nested_arrays_parts.proofs.OffsetLists.{spans_count}
use Rattle.nested_arrays_parts.specs.Widths.{spans_in}
use Rattle.nested_arrays_arrays.proofs.list_runs.list_run.Goals as goal

pub node_run-requires-clause-left_within : goal.node_run-requires-clause-left_within
node_run-requires-clause-left_within c = omega (
  arith,
  ap column_len c.in-Some-Some.ensures.0,
  spans_count (spans_in c.in-Some-Some.left.now.offsets),
  c.requires.left_within,
)

pub node_run-requires-clause-right_within : goal.node_run-requires-clause-right_within
node_run-requires-clause-right_within c = omega (
  arith,
  ap column_len c.in-Some-Some.ensures'.0,
  spans_count (spans_in c.in-Some-Some.right.now.offsets),
  c.requires.right_within,
)
