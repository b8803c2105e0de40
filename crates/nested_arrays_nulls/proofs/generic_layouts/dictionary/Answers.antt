use Rattle.std.proofs.Common.{◌≡◌, ◌∙◌, ap, rules, replicate}
use Rattle.std.specs.Prelude.{pos}
use Rattle.nested_arrays_iterators.specs.columnar_memory.declared.PhysicalType.TheVariants as physical
use Rattle.nested_arrays_iterators.specs.columns.StoredColumns.{Column, dictionary}
use Rattle.nested_arrays_iterators.specs.generic.Dictionaries.{keyed_by}
use Rattle.nested_arrays_nulls.specs.NullColumns.{no_marks}
use Rattle.nested_arrays_nulls.proofs.KeyedNulls.{zeros_keyed}
use Rattle.nested_arrays_nulls.proofs.LayoutNulls.{checked_made_as}
use Rattle.nested_arrays_nulls.proofs.generic_layouts.dictionary.Goals as goal

pub returns : goal.returns
returns g c =
    let t = c.args.data_type in
    let n = c.args.length in
    let keys = c.in_ok-keys.keys in
    let child = c.in_ok-new.field-0.value in
    let moved : child ≡ c.args.values = search rules in
    let value = g.K.Number.value in
    checked_made_as (physical.Dictionary g.K.DictionaryKey.KEY_TYPE) (keyed_by value t keys child)
    (dictionary t (no_marks n) (replicate n (pos 0)) c.args.values) c.try_new.result c.requires
    (ap (λ (values : Column). keyed_by value t keys values) moved
    ∙ zeros_keyed g.K.DictionaryKey.KEY_TYPE g.K.NativeType.PRIMITIVE g.K.NativeType.numbers value t _ n keys c.args.values
    g.met.K.DictionaryKey.key_law g.met.K.Index.numbers_law c.in_ok-keys.ensures) c.try_new.ensures
