use Rattle.std.proofs.Common.{◌∙◌, ap}
use Rattle.nested_arrays_access.specs.columnar_memory.Layouts.{physical_type}
use Rattle.nested_arrays_access.specs.columns.SoundColumns.{is_sound}
use Rattle.nested_arrays_core.proofs.DictionaryParts.{keyed_fits, keyed_is}
use Rattle.nested_arrays_core.proofs.from.AnyArrayFromDictionaryArray.from.Goals as goal

pub returns : goal.returns
returns g c =
    keyed_is g.K.DictionaryKey.KEY_TYPE g.K.NativeType.PRIMITIVE g.K.NativeType.numbers g.K.Number.value c.array.inside.data_type
    c.array.inside.keys c.from_array.result c.array.inside.values.value g.met.K.DictionaryKey.key_law g.met.K.Index.numbers_law
    c.from_array.ensures ∙ c.array.view_is

pub invariant_of-result : goal.invariant_of-result
invariant_of-result g c = record {
  sound = ap is_sound (keyed_is g.K.DictionaryKey.KEY_TYPE g.K.NativeType.PRIMITIVE g.K.NativeType.numbers g.K.Number.value
      c.array.inside.data_type c.array.inside.keys c.from_array.result c.array.inside.values.value g.met.K.DictionaryKey.key_law
      g.met.K.Index.numbers_law c.from_array.ensures) ∙ c.array.invariant.0;
  fits = keyed_fits g.K.DictionaryKey.KEY_TYPE g.K.NativeType.PRIMITIVE g.K.NativeType.numbers (physical_type c.array.inside.data_type)
      c.array.inside.keys c.from_array.result g.met.K.DictionaryKey.key_law c.from_array.ensures c.array.invariant.1;
}
