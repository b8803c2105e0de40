use Rattle.nested_arrays_builder_arrays.proofs.OpenColumns.{taken_column}
use Rattle.nested_arrays_builder_arrays.proofs.mutable_array.AnyMutableArrayMutableArray.as_arc.Goals as goal

pub returns : goal.returns
returns c = record {
  taken = c.as_arc.ensures;
  column = taken_column c.args.self.now c.whole.ensures.within c.whole.ensures.stored
      c.as_arc.new.builder (λ counted. counted.value) c.as_arc.result c.as_arc.ensures;
}
