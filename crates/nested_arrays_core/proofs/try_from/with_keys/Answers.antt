use Rattle.std.proofs.Common.{ap, sym}
use Rattle.nested_arrays_access.specs.columnar_memory.Layouts.{physical_type}
use Rattle.nested_arrays_access.specs.columns.StoredColumns.{Column}
use Rattle.nested_arrays_access.specs.parts.Keys.{keyed}
use Rattle.nested_arrays_core.proofs.DictionaryParts.{keyed_is}
use Rattle.nested_arrays_core.proofs.TakenKeys.{keys_not, keys_so, taken_whole}
use Rattle.nested_arrays_core.proofs.try_from.with_keys.Goals as goal

pub invariant_of-result : goal.invariant_of-result
invariant_of-result g c =
    taken_whole g.K.DictionaryKey.KEY_TYPE g.K.NativeType.PRIMITIVE g.K.NativeType.numbers g.K.Number.value c.args.node.data_type c.in-Ok.keys
    c.args.node.keys c.args.node.values.value g.met.K.DictionaryKey.key_law g.met.K.Index.numbers_law c.in-Ok.ensures c.requires.sound
    c.requires.keys

pub returns-in-Ok : goal.returns-in-Ok
returns-in-Ok g c = (
  sym (keyed_is g.K.DictionaryKey.KEY_TYPE g.K.NativeType.PRIMITIVE g.K.NativeType.numbers g.K.Number.value c.args.node.data_type c.in-Ok.keys
      c.args.node.keys c.args.node.values.value g.met.K.DictionaryKey.key_law g.met.K.Index.numbers_law (sym c.in-Ok.ensures)),
  keys_so g.K.DictionaryKey.KEY_TYPE g.K.NativeType.PRIMITIVE g.K.NativeType.numbers (physical_type c.args.node.data_type) c.in-Ok.keys
      c.args.node.keys g.met.K.DictionaryKey.key_law c.in-Ok.ensures c.requires.keys,
)

pub returns-in-Err : goal.returns-in-Err
returns-in-Err g c = (
  ap (λ (keys : Column). keyed c.args.node.data_type keys c.args.node.values.value) c.in-Err.ensures.0,
  keys_not g.K.DictionaryKey.KEY_TYPE g.K.NativeType.PRIMITIVE (physical_type c.args.node.data_type) c.args.node.keys
      g.met.K.DictionaryKey.key_law c.whole.ensures c.requires.keys c.in-Err.ensures.1,
)
