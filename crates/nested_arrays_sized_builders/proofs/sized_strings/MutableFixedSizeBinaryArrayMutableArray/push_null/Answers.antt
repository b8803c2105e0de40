use Rattle.nested_arrays_sized_builders.proofs.SizedPushes.{null_pushed}
use Rattle.nested_arrays_sized_builders.proofs.sized_strings.MutableFixedSizeBinaryArrayMutableArray.push_null.Goals as goal

pub returns-clause-column : goal.returns-clause-column
returns-clause-column c = null_pushed _ _ _ c.push_null.ensures.column
