use Rattle.std.proofs.Common.{refl, false}
use Rattle.nested_arrays_builder_arrays.proofs.FlatKinds.{boolean_laws}
use Rattle.nested_arrays_builder_arrays.proofs.FlatSlots.{law_of_push}
use Rattle.nested_arrays_builder_arrays.proofs.flat_builders.MutableBooleanArrayMutableArray.push_null.Goals as goal

pub returns-clause-column : goal.returns-clause-column
returns-clause-column c =
    let laws = boolean_laws c.args.self.now c.whole_booleans.ensures in
    let call = c.push_null_boolean in law_of_push laws false call.new.booleans call.result refl call.ensures
