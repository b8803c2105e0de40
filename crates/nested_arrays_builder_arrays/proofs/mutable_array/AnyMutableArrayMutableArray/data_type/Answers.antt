use Rattle.std.proofs.Common.{◌∙◌, sym}
use Rattle.nested_arrays_builder_arrays.proofs.OpenColumns.{open_type}
use Rattle.nested_arrays_builder_arrays.proofs.mutable_array.AnyMutableArrayMutableArray.data_type.Goals as goal

pub returns : goal.returns
returns c = c.data_type.ensures ∙ sym (open_type c.args.self.now)
