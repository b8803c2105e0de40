use Rattle.nested_arrays_builder_arrays.proofs.ByteSlots.{text_laws, law_of_push}
use Rattle.nested_arrays_builder_arrays.proofs.byte_builders.push_null_text.Goals as goal

pub returns-clause-column : goal.returns-clause-column
returns-clause-column g c =
    let laws = text_laws g.O.Offset.IS_LARGE c.args.texts.now c.whole.ensures.layout in
    let call = c.push_null_to_texts in law_of_push laws call.new.texts call.result call.ensures
