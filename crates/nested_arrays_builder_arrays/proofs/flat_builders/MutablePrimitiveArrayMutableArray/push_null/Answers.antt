use Rattle.nested_arrays_builder_arrays.proofs.FlatKinds.{number_laws}
use Rattle.nested_arrays_builder_arrays.proofs.FlatSlots.{law_of_push}
use Rattle.nested_arrays_builder_arrays.proofs.flat_builders.MutablePrimitiveArrayMutableArray.push_null.Goals as goal

pub returns-clause-column : goal.returns-clause-column
returns-clause-column g c =
    let laws = number_laws g.T.NativeType.PRIMITIVE g.T.NativeType.numbers c.args.self.now c.whole_numbers.ensures in
    let call = c.push_null_number in
    law_of_push laws call.ensures.0 call.new.numbers call.result call.ensures.1 call.ensures.2
