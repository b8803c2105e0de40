use Rattle.std.proofs.Common.{arith}
use Rattle.nested_arrays_dictionary_builders.proofs.KeyedParts.{keys_copied, marks_many}
use Rattle.nested_arrays_dictionary_builders.proofs.dictionaries.MutableDictionaryArray.keys.Goals as goal

pub copy_of_keys-requires : goal.copy_of_keys-requires
copy_of_keys-requires g c = record {
  few = omega (arith, c.self.invariant.few, g.met.K.DictionaryKey.most_law);
  marked = marks_many c.self.invariant;
}

pub returns : goal.returns
returns g c = rw (← c.self.view_is) (keys_copied c.self.invariant g.K.Number.value c.copy_of_keys.result c.copy_of_keys.ensures)
