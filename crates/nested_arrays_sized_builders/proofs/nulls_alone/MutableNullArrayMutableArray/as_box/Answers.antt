use Rattle.nested_arrays_sized_builders.proofs.NullColumns.{nulls_taken}
use Rattle.nested_arrays_sized_builders.proofs.nulls_alone.MutableNullArrayMutableArray.as_box.Goals as goal

pub returns : goal.returns
returns c =
    let own = c.self.inside in
    rw (← c.self.view_is) (nulls_taken own.data_type c.self.invariant.typed own.length c.nulls_of.result c.nulls_of.ensures)
