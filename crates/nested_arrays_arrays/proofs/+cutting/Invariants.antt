use Rattle.std.proofs.Common.{◌≡◌, ◌+◌, take, drop, map, ◌++◌, ◌*◌}
use Rattle.nested_arrays_parts.specs.columns.StoredColumns.{column_size, columns_size, in_columns, cut}
use Rattle.nested_arrays_arrays.proofs.+cutting.Given as goal

abbrev pub invariant-records::slice_each-loop-value : goal.invariant-records::slice_each-loop-value
invariant-records::slice_each-loop-value l =
    l.value-items ≡ map (λ c. cut c l.offset l.count) (take l.value-index l.fn.values.items) ++ drop l.value-index l.fn.values.items

abbrev pub decreases-any::AnyArray::slice : goal.decreases-any::AnyArray::slice
decreases-any::AnyArray::slice l = 3 * column_size l.self.now + 2

abbrev pub decreases-fixed_lists::FixedSizeListArray::slice : goal.decreases-fixed_lists::FixedSizeListArray::slice
decreases-fixed_lists::FixedSizeListArray::slice l = 3 * column_size l.self.now + 1

abbrev pub decreases-records::StructArray::slice : goal.decreases-records::StructArray::slice
decreases-records::StructArray::slice l = 3 * column_size l.self.now + 1

abbrev pub decreases-unions::UnionArray::slice : goal.decreases-unions::UnionArray::slice
decreases-unions::UnionArray::slice l = 3 * column_size l.self.now + 1

abbrev pub decreases-records::slice_each : goal.decreases-records::slice_each
decreases-records::slice_each l = 3 * columns_size (in_columns l.values.now.items) + 3
