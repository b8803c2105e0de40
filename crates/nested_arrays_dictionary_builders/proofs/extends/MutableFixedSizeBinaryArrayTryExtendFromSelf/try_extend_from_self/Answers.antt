use Rattle.nested_arrays_dictionary_builders.proofs.JoinedSized.{sized_joined}
use Rattle.nested_arrays_dictionary_builders.proofs.extends.MutableFixedSizeBinaryArrayTryExtendFromSelf.try_extend_from_self.Goals as goal

pub returns-clause-column : goal.returns-clause-column
returns-clause-column c =
    let own = c.whole_strings.ensures in
    let other = c.whole_strings-2.ensures in
    sized_joined c.args.self.now c.args.other.now own.some other.some own.counted other.counted own.sound other.sound
    c.try_extend_from_self.new.self c.try_extend_from_self.result c.try_extend_from_self.ensures
