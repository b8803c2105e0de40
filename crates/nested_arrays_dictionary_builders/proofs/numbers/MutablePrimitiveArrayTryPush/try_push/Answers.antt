use Rattle.nested_arrays_dictionary_builders.proofs.NumberItems.{number_pushed}
use Rattle.nested_arrays_dictionary_builders.proofs.numbers.MutablePrimitiveArrayTryPush.try_push.Goals as goal

pub returns : goal.returns
returns g c =
    number_pushed g.T.NativeType.PRIMITIVE g.T.DictionaryKey.KEY_TYPE g.met.T.DictionaryKey.key_law g.T.NativeType.numbers g.T.Number.value
    g.met.T.Index.numbers_law c.args.self.now c.len-whole.ensures.whole c.args.item.now c.push_number.new.numbers c.push_number.result
    c.push_number.ensures.native c.push_number.ensures.number
