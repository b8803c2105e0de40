-- The columns so far fit, and are stored as they come.
use Rattle.std.proofs.Common.{◌≡◌, true, take}
use Rattle.std.specs.List.{list_all}
use Rattle.tables_chunks.specs.ipc_format.columns.FreshLaws.{is_buildable}
use Rattle.nested_arrays_cells.specs.parts.Open.{Open}
use Rattle.tables_rows.specs.Grouping.{all_fit}
use Rattle.tables_rows.proofs.groups.are_whole.Given as goal

abbrev pub invariant-loop-column : goal.invariant-loop-column
invariant-loop-column l = record {
  fits : all_fit (take l.column-index l.columns) ≡ true;
  stored : list_all (λ (column : Open). is_buildable column.data_type) (take l.column-index l.columns) ≡ true;
}
