use Rattle.nested_arrays_builder_arrays.proofs.ByteSlots.{binary_laws, law_of_taking}
use Rattle.nested_arrays_builder_arrays.proofs.byte_builders.take_binary.Goals as goal

pub returns-clause-emptied : goal.returns-clause-emptied
returns-clause-emptied g c =
    let laws = binary_laws g.O.Offset.IS_LARGE c.args.strings.now c.whole.ensures in
    let call = c.take_binary_array in law_of_taking laws call.new.strings call.ensures.left
