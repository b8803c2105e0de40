-- The columns so far are those of the fields so far.
use Rattle.std.proofs.Common.{◌≡◌, take}
use Rattle.nested_arrays_cells.specs.builders.Begun.{opened_none}
use Rattle.tables_rows.proofs.groups.begin_columns.Given as goal

abbrev pub invariant-loop-field : goal.invariant-loop-field
invariant-loop-field l = l.columns.items ≡ opened_none (take l.field-index l.fields)
