use Rattle.nested_arrays_dictionary_builders.proofs.JoinedFlats.{numbers_joined}
use Rattle.nested_arrays_dictionary_builders.proofs.extends.MutablePrimitiveArrayTryExtendFromSelf.try_extend_from_self.Goals as goal

pub returns-clause-column : goal.returns-clause-column
returns-clause-column g c =
    numbers_joined g.T.NativeType.numbers c.args.self.now c.args.other.now c.join_numbers.new.numbers c.join_numbers.result
    g.T.NativeType.PRIMITIVE c.len-whole.ensures.whole c.len-whole_other.ensures.whole c.join_numbers.ensures
