use Rattle.nested_arrays_sized_builders.proofs.SizedPushes.{first_kept, first_sized}
use Rattle.nested_arrays_sized_builders.proofs.sized_strings.MutableFixedSizeBinaryArray.truncate.Goals as goal

pub invariant_of-self : goal.invariant_of-self
invariant_of-self c =
    let within = rw (← c.self.view_is) at c.requires in
    first_sized c.self.invariant c.args.len within c.truncate-2.new.self c.truncate.new.self.items c.truncate-2.ensures c.truncate.ensures.items

pub returns-clause-column : goal.returns-clause-column
returns-clause-column c =
    let within = rw (← c.self.view_is) at c.requires in
    rw (← c.self.view_is)
    (first_kept c.self.invariant c.args.len within c.truncate-2.new.self c.truncate.new.self.items c.truncate-2.ensures c.truncate.ensures.items)
