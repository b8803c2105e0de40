use Rattle.nested_arrays_sized_builders.proofs.NullColumns.{nulls_first}
use Rattle.nested_arrays_sized_builders.proofs.nulls_alone.MutableNullArrayMutableArray.truncate.Goals as goal

pub returns : goal.returns
returns c =
    let own = c.self.inside in
    let within = rw (← c.self.view_is) at c.requires in
    rw (← c.self.view_is) (nulls_first own.data_type c.self.invariant.typed own.length c.args.len within c.self.invariant.few)
