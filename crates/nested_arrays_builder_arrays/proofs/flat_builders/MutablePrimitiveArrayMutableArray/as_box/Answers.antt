use Rattle.nested_arrays_builder_arrays.proofs.FlatKinds.{number_laws}
use Rattle.nested_arrays_builder_arrays.proofs.FlatSlots.{law_of_taking}
use Rattle.nested_arrays_builder_arrays.proofs.flat_builders.MutablePrimitiveArrayMutableArray.as_box.Goals as goal

pub returns-clause-column : goal.returns-clause-column
returns-clause-column g c =
    let laws = number_laws g.T.NativeType.PRIMITIVE g.T.NativeType.numbers c.args.self.now c.whole_numbers.ensures in
    let call = c.box_numbers in law_of_taking laws call.new.numbers (λ array. array) call.result call.ensures.left call.ensures.taken
