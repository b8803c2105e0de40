-- The rows of the batches so far are pushed, and fit.
use Rattle.std.proofs.Common.{◌≡◌, true, take}
use Rattle.tables_chunks.specs.Batches.{stored_rows}
use Rattle.tables_rows.specs.Grouping.{IsReady, after_rows, no_rows, rows_fit}
use Rattle.tables_rows.specs.GroupViews.{grouped}
use Rattle.tables_rows.proofs.groups.group_rows.Given as goal
use Rattle.tables_rows.proofs.ReadyGroups.{field_types}

abbrev pub invariant-loop-batch : goal.invariant-loop-batch
invariant-loop-batch l = record {
  pushed : grouped l.groups ≡ after_rows l.n (no_rows l.table.schema.fields) (stored_rows (take l.batch-index l.table.batches));
  fit : rows_fit l.n (no_rows l.table.schema.fields) (stored_rows (take l.batch-index l.table.batches)) ≡ true;
  ready : IsReady l.n (field_types l.table.schema.fields) (grouped l.groups);
}
