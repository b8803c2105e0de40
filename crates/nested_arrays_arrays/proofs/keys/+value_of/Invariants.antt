use Rattle.nested_arrays_parts.specs.columns.StoredColumns.{column_size}
use Rattle.nested_arrays_arrays.proofs.keys.+value_of.Given as goal

abbrev pub decreases-value_of : goal.decreases-value_of
decreases-value_of l = column_size l.array.now
