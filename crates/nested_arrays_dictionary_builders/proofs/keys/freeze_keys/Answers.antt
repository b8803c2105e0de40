use Rattle.std.proofs.Common.{◌≡◌, ◌∙◌, map, ap, rules}
use Rattle.nested_arrays_sized_builders.specs.values.Uses.{keys_from}
use Rattle.nested_arrays_sized_builders.specs.nulls.columns.StoredColumns.{dictionary}
use Rattle.nested_arrays_sized_builders.specs.cells.parts.Marks.{mask_of_marks}
use Rattle.nested_arrays_dictionary_builders.proofs.KeyedParts.{keys_frozen}
use Rattle.nested_arrays_dictionary_builders.proofs.keys.freeze_keys.Goals as goal

pub returns : goal.returns
returns g c =
    let typed : c.in_ok-data_type.data_type ≡ c.args.data_type.now = search rules in
    let masked : c.in_ok-keys.keys.validity ≡ mask_of_marks c.args.marks = search rules in
    let named : map g.K.Number.value c.in_ok-keys.keys.values ≡ keys_from c.args.uses =
    c.in_ok-keys.ensures.1 ∙ ap keys_from c.as_slice.ensures in
    let held : c.in_ok-values.values.value ≡ c.args.values = search rules in
    keys_frozen g.K.DictionaryKey.KEY_TYPE c.args.data_type.now (mask_of_marks c.args.marks) (keys_from c.args.uses) c.args.values _
    c.try_new.result c.requires.lies (λ j. dictionary (typed j) (masked j) (named j) (held j)) c.try_new.ensures
