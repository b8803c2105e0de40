use Rattle.nested_arrays_dictionary_builders.proofs.ByteItems.{binary_whole}
use Rattle.nested_arrays_dictionary_builders.proofs.texts.sound_bytes.Goals as goal

pub returns : goal.returns
returns g c = binary_whole g.O.Offset.IS_LARGE c.args.strings.now c.whole.ensures c.requires
