use Rattle.nested_arrays_dictionary_builders.proofs.ByteItems.{text_whole}
use Rattle.nested_arrays_dictionary_builders.proofs.texts.sound_text.Goals as goal

pub returns : goal.returns
returns g c = text_whole g.O.Offset.IS_LARGE c.args.texts.now c.whole.ensures.layout c.requires
