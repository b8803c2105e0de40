use Rattle.nested_arrays_sized_builders.proofs.SizedPushes.{null_pushed}
use Rattle.nested_arrays_dictionary_builders.proofs.dictionaries.MutableDictionaryArrayMutableArray.push_null.Goals as goal

pub returns : goal.returns
returns g c = null_pushed _ _ _ c.push_null.ensures
