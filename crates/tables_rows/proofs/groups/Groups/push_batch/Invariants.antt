-- The rows so far are pushed, and fit.
use Rattle.std.proofs.Common.{◌≡◌, true, map}
use Rattle.tables_chunks.specs.SameRows.{rows_from}
use Rattle.tables_chunks.specs.ipc_format.columns.StoredColumns.{column_type}
use Rattle.tables_rows.specs.Grouping.{IsReady, after_rows, rows_fit}
use Rattle.tables_rows.specs.GroupViews.{grouped}
use Rattle.tables_rows.proofs.groups.Groups.push_batch.Given as goal

abbrev pub invariant-loop-row : goal.invariant-loop-row
invariant-loop-row l = record {
  pushed : grouped l.self ≡ after_rows l.n (grouped l.fn.self) (rows_from l.batch 0 l.row);
  fit : rows_fit l.n (grouped l.fn.self) (rows_from l.batch 0 l.row) ≡ true;
  ready : IsReady l.n (map column_type l.batch) (grouped l.self);
}
