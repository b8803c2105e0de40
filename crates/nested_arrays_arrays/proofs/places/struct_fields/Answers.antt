use Rattle.nested_arrays_arrays.proofs.SlotPlaces.{struct_fields}
use Rattle.nested_arrays_arrays.proofs.places.struct_fields.Goals as goal

pub returns : goal.returns
returns c = struct_fields _ _ _ _ _ c.args.i c.values.ensures c.whole.ensures c.requires.within c.requires.set
