use Rattle.std.proofs.Common.{◌∙◌, ap, sym, length, map}
use Rattle.std.proofs.lemmas.Bool.{false≢true}
use Rattle.nested_arrays_access.specs.columns.SoundColumns.{has_value_at, holds_below, mask_fits}
use Rattle.nested_arrays_access.specs.columns.StoredColumns.{type_layer}
use Rattle.nested_arrays_core.specs.Dictionaries.{is_value_type}
use Rattle.nested_arrays_core.proofs.DictionaryParts.{dictionary_parts, dictionary_whole, keys_in_range, keys_masked}
use Rattle.nested_arrays_core.proofs.dictionaries.are_parts.Goals as goal

pub name_values-requires : goal.name_values-requires
name_values-requires g c =
    ap (λ mask. mask_fits mask (length c.args.keys.now.values)) c.validity.ensures.value
    ∙ keys_masked g.K.NativeType.PRIMITIVE g.K.NativeType.numbers c.args.keys.now c.primitive_is_sound.ensures

pub returns : goal.returns
returns g c =
    let value = g.K.Number.value in
    let key = g.K.DictionaryKey.KEY_TYPE in
    let numbers = map value c.args.keys.now.values in
    let named = c.name_values.ensures
    ∙ ap (λ mask. holds_below (length c.args.keys.now.values) (has_value_at mask numbers c.len.result)) c.validity.ensures.value
    ∙ ap (λ n. holds_below (length c.args.keys.now.values) (has_value_at c.args.keys.now.validity numbers n)) c.len.ensures in (
      λ is. dictionary_whole key value c.args.data_type.now c.args.keys.now c.args.values.now (c.has_keys.ensures.0 c.if-not-has_keys.false)
          (ap (is_value_type (type_layer c.args.data_type.now)) (sym c.data_type.ensures) ∙ sym c.has_values.ensures ∙ c.if-not-has_values.false)
          (keys_in_range key g.K.NativeType.PRIMITIVE g.K.NativeType.numbers value c.args.keys.now g.met.K.DictionaryKey.key_law
          g.met.K.Index.numbers_law c.len-slots.ensures.whole.fits c.primitive_is_sound.ensures)
          (keys_masked g.K.NativeType.PRIMITIVE g.K.NativeType.numbers c.args.keys.now c.primitive_is_sound.ensures)
          (sym named ∙ is) c.whole.ensures,
      λ lies. named ∙ (dictionary_parts key value c.args.data_type.now c.args.keys.now c.args.values.now lies).1,
    )

pub returns-then-not-has_keys : goal.returns-then-not-has_keys
returns-then-not-has_keys g c = (
  λ is. absurd (false≢true is),
  λ lies. sym c.if-not-has_keys.true ∙ c.has_keys.ensures.1 lies.1,
)

pub returns-then-not-has_values : goal.returns-then-not-has_values
returns-then-not-has_values g c = (
  λ is. absurd (false≢true is),
  λ lies. sym c.if-not-has_values.true ∙ c.has_values.ensures
      ∙ ap (is_value_type (type_layer c.args.data_type.now)) c.data_type.ensures
      ∙ (dictionary_parts g.K.DictionaryKey.KEY_TYPE g.K.Number.value c.args.data_type.now c.args.keys.now c.args.values.now lies).0,
)
