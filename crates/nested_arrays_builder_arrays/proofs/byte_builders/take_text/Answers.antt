use Rattle.nested_arrays_builder_arrays.proofs.ByteSlots.{text_laws, law_of_taking}
use Rattle.nested_arrays_builder_arrays.proofs.byte_builders.take_text.Goals as goal

pub returns-clause-emptied : goal.returns-clause-emptied
returns-clause-emptied g c =
    let laws = text_laws g.O.Offset.IS_LARGE c.args.texts.now c.whole.ensures.layout in
    let call = c.take_text_array in law_of_taking laws call.new.texts call.ensures.left
