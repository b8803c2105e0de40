use Rattle.nested_arrays_core.specs.columnar_memory.declared.PhysicalType.TheVariants as physical
use Rattle.nested_arrays_iterators.proofs.TypedItems.{texts_downcast}
use Rattle.nested_arrays_iterators.proofs.typed.RefUtf8ArrayI64DictValue.downcast_values.Goals as goal

pub returns-in-Some : goal.returns-in-Some
returns-in-Some c = texts_downcast physical.LargeUtf8 c.in-Some.texts.now c.args.array.now c.without_nulls.result c.in-Some.ensures.0
    c.in-Some.ensures.1 c.whole.ensures c.without_nulls.ensures
