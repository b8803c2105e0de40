use Rattle.nested_arrays_builder_arrays.proofs.OpenColumns.{pushed_null}
use Rattle.nested_arrays_builder_arrays.proofs.mutable_array.AnyMutableArrayMutableArray.push_null.Goals as goal

pub returns : goal.returns
returns c =
    pushed_null c.args.self.now c.whole.ensures.within c.whole.ensures.stored c.push_null.new.self c.push_null.result c.push_null.ensures
