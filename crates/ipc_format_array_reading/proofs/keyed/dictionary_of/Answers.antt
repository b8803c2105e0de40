-- Keys in the range of their type, and values of the type that the array's says.
use Rattle.std.proofs.Common.{◌≡◌, ◌∙◌, ap, map, rules, subst, sym}
use Rattle.ipc_format_column_writing.specs.columnar_memory.Layouts.{physical_type}
use Rattle.ipc_format_column_writing.specs.columnar_memory.declared.PhysicalType.TheVariants as physical
use Rattle.ipc_format_column_writing.specs.nested_arrays.StoredColumns.{Column, dictionary}
use Rattle.ipc_format_column_writing.specs.nested_arrays.Answers.{IsCheckedAs}
use Rattle.ipc_format_array_reading.proofs.KeyedArrays.{keyed_made}
use Rattle.ipc_format_array_reading.proofs.keyed.dictionary_of.Goals as goal

pub returns : goal.returns
returns g c =
    let key = g.K.DictionaryKey.KEY_TYPE in
    let t = c.args.data_type in
    let keys = c.args.keys in
    let copied : c.in_ok-boxed.boxed.value ≡ c.args.values.now = search rules in
    keyed_made key g.K.NativeType.PRIMITIVE g.K.NativeType.numbers g.K.Number.value t keys.data_type keys.validity keys.values c.args.values.now
    c.try_new.result g.met.K.DictionaryKey.key_law g.met.K.Index.numbers_law c.requires.kind c.requires.typed
    (ap physical_type (sym c.data_type-type.ensures.value) ∙ c.data_type-type.ensures.fits) c.whole.ensures c.whole-2.ensures
    (subst (λ (values : Column). IsCheckedAs (physical.Dictionary key) (dictionary t keys.validity (map g.K.Number.value keys.values) values)
    c.try_new.result) copied c.try_new.ensures)
