use Rattle.nested_arrays_iterators.proofs.ReadSlots.{struct_places, struct_row}
use Rattle.nested_arrays_iterators.proofs.struct_walks.RefStructArrayArrayValues.value.Goals as goal

pub new-requires : goal.new-requires
new-requires c = struct_places c.args.self.now _ _ _ c.values.result.now c.args.i c.values.ensures c.whole.ensures c.requires

pub returns : goal.returns
returns c = struct_row c.args.self.now _ _ _ c.values.result.now c.new.result c.args.i c.values.ensures c.new.ensures
