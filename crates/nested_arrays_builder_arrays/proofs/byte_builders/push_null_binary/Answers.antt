use Rattle.nested_arrays_builder_arrays.proofs.ByteSlots.{binary_laws, law_of_push}
use Rattle.nested_arrays_builder_arrays.proofs.byte_builders.push_null_binary.Goals as goal

pub returns-clause-column : goal.returns-clause-column
returns-clause-column g c =
    let laws = binary_laws g.O.Offset.IS_LARGE c.args.strings.now c.whole.ensures in
    let call = c.push_null_to_strings in law_of_push laws call.new.strings call.result call.ensures
