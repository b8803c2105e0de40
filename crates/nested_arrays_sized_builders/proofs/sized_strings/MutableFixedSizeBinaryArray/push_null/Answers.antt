use Rattle.nested_arrays_sized_builders.specs.SizedStrings.{sized_parts}
use Rattle.nested_arrays_sized_builders.proofs.SizedPushes.{null_added, null_sized}
use Rattle.nested_arrays_sized_builders.proofs.sized_strings.MutableFixedSizeBinaryArray.push_null.Goals as goal

pub invariant_of-self : goal.invariant_of-self
invariant_of-self c =
    let push = c.push_zeros in null_sized c.self.invariant push.new.marks push.new.values.items push.result push.ensures

pub returns-clause-column : goal.returns-clause-column
returns-clause-column c =
    let own = c.self.inside in
    let push = c.push_zeros in
    rw (← c.self.view_is)
    (null_added (sized_parts own.data_type own.marks own.values.items) c.self.invariant push.new.marks push.new.values.items push.result push.ensures)
