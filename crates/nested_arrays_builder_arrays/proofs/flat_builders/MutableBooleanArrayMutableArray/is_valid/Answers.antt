use Rattle.std.proofs.Common.{length}
use Rattle.nested_arrays_builders.specs.columns.StoredColumns.{bits}
use Rattle.nested_arrays_builder_arrays.proofs.FlatSlots.{null_by_mark}
use Rattle.nested_arrays_builder_arrays.proofs.flat_builders.MutableBooleanArrayMutableArray.is_valid.Goals as goal

pub returns : goal.returns
returns c =
    let own = c.args.self.now in
    null_by_mark own.data_type (length own.values) own.validity (bits own.values) c.args.i c.is_valid.result c.requires c.is_valid.ensures
