use Rattle.nested_arrays_builder_arrays.proofs.OpenColumns.{taken_column}
use Rattle.nested_arrays_builder_arrays.proofs.mutable_array.AnyMutableArrayMutableArray.as_box.Goals as goal

pub returns : goal.returns
returns c = record {
  taken = c.as_array.ensures;
  column = taken_column c.args.self.now c.whole.ensures.within c.whole.ensures.stored
      c.as_array.new.builder (λ array. array) c.as_array.result c.as_array.ensures;
}
