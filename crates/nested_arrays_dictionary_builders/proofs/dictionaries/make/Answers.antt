use Rattle.nested_arrays_dictionary_builders.proofs.KeyedParts.{none_keyed}
use Rattle.nested_arrays_dictionary_builders.proofs.dictionaries.make.Goals as goal

pub invariant_of-result : goal.invariant_of-result
invariant_of-result g c =
    none_keyed g.K.DictionaryKey.KEY_TYPE c.args.data_type c.new.result c.new-2.result c.new-3.result (g.M.MutableArray.column c.args.values)
    c.requires.lies c.requires.valued c.requires.empty c.new.ensures c.new-2.ensures c.new-3.ensures
