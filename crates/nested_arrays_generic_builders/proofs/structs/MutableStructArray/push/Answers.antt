use Rattle.nested_arrays_generic_builders.specs.StructBuilders.{struct_parts}
use Rattle.nested_arrays_generic_builders.proofs.OpenStructs.{closed_row}
use Rattle.nested_arrays_generic_builders.proofs.StructMakes.{mark_added}
use Rattle.nested_arrays_generic_builders.proofs.structs.MutableStructArray.push.Goals as goal

pub returns-clause-column : goal.returns-clause-column
returns-clause-column c =
    let own = c.self.inside in
    rw (← c.self.view_is)
    (closed_row (struct_parts own.data_type own.marks own.values) c.args.valid (struct_parts own.data_type c.push.new.self own.values) c.push.result
    (mark_added own.data_type own.marks own.values c.args.valid c.push.new.self c.push.result c.push.ensures))
