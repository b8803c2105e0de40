use Rattle.std.proofs.Common.{rules, ap, arith}
use Rattle.nested_arrays_parts.specs.columns.StoredColumns.{column_size}
use Rattle.nested_arrays_arrays.proofs.CutNodes.{one_size}
use Rattle.nested_arrays_arrays.proofs.copies.+copying.Goals as goal

pub copy_of_array-copies_of-requires : goal.copy_of_array-copies_of-requires
copy_of_array-copies_of-requires t c = let size = ap column_size c.values-in-Struct.ensures in search (rules, size)

pub copy_of_array-copies_of-requires-in-Union : goal.copy_of_array-copies_of-requires-in-Union
copy_of_array-copies_of-requires-in-Union t c = let size = ap column_size c.fields.ensures in search (rules, size)

pub copies_of-copy_of_array-requires : goal.copies_of-copy_of_array-requires
copies_of-copy_of_array-requires t c =
    let most = one_size c.args.arrays.now c.loop-array.array-index c.array-item.result (omega arith) in
    let size = ap column_size c.array-item.is in
    search (rules, most, size)
