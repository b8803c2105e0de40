use Rattle.std.proofs.Common.{◌∙◌, sym}
use Rattle.nested_arrays_builders.proofs.arrays_lemmas.flat_lemmas.SoundFlats.{primitive_len}
use Rattle.nested_arrays_builder_arrays.proofs.flat_builders.MutablePrimitiveArrayMutableArray.len.Goals as goal

pub returns : goal.returns
returns g c = c.len.ensures.value ∙ sym (primitive_len g.T.NativeType.PRIMITIVE g.T.NativeType.numbers c.args.self.now)
