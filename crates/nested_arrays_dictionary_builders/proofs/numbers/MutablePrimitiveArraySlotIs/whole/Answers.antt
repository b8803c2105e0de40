use Rattle.nested_arrays_dictionary_builders.proofs.NumberItems.{none_whole}
use Rattle.nested_arrays_dictionary_builders.proofs.numbers.MutablePrimitiveArraySlotIs.whole.Goals as goal

pub returns : goal.returns
returns g c =
    none_whole g.T.NativeType.PRIMITIVE g.T.DictionaryKey.KEY_TYPE g.met.T.DictionaryKey.key_law g.T.NativeType.numbers g.T.Number.value
    g.met.T.Index.numbers_law c.args.self.now c.len-whole.ensures.whole c.requires
