use Rattle.nested_arrays_dictionary_builders.proofs.JoinedFlats.{booleans_joined}
use Rattle.nested_arrays_dictionary_builders.proofs.extends.MutableBooleanArrayTryExtendFromSelf.try_extend_from_self.Goals as goal

pub returns-clause-column : goal.returns-clause-column
returns-clause-column c =
    booleans_joined c.args.self.now c.args.other.now c.join_booleans.new.booleans c.join_booleans.result c.len-whole.ensures.whole
    c.len-whole_other.ensures.whole c.join_booleans.ensures
