use Rattle.nested_arrays_builder_arrays.proofs.FlatKinds.{boolean_laws}
use Rattle.nested_arrays_builder_arrays.proofs.FlatSlots.{law_of_cut}
use Rattle.nested_arrays_builder_arrays.proofs.flat_builders.MutableBooleanArrayMutableArray.truncate.Goals as goal

pub returns-clause-column : goal.returns-clause-column
returns-clause-column c =
    law_of_cut (boolean_laws c.args.self.now c.whole_booleans.ensures) c.truncate.new.self c.args.len c.requires c.truncate.ensures
