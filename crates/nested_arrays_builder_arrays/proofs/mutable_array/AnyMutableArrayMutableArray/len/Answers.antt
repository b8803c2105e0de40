use Rattle.std.proofs.Common.{◌∙◌, sym}
use Rattle.nested_arrays_builder_arrays.proofs.OpenColumns.{open_long}
use Rattle.nested_arrays_builder_arrays.proofs.mutable_array.AnyMutableArrayMutableArray.len.Goals as goal

pub returns : goal.returns
returns c = c.len.ensures ∙ sym (open_long c.args.self.now c.whole.ensures.within c.whole.ensures.stored)
