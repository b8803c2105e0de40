use Rattle.nested_arrays_builder_arrays.proofs.FlatKinds.{boolean_laws}
use Rattle.nested_arrays_builder_arrays.proofs.FlatSlots.{law_of_taking}
use Rattle.nested_arrays_builder_arrays.proofs.flat_builders.MutableBooleanArrayMutableArray.as_box.Goals as goal

pub returns-clause-column : goal.returns-clause-column
returns-clause-column c =
    let laws = boolean_laws c.args.self.now c.whole_booleans.ensures in
    let call = c.box_booleans in law_of_taking laws call.new.booleans (λ array. array) call.result call.ensures.left call.ensures.taken
