use Rattle.std.proofs.Common.{◌≡◌, ◌∙◌, length, map, ap}
use Rattle.nested_arrays_builders.specs.arrays.columnar_memory.Conversions.{type_of_primitive}
use Rattle.nested_arrays_builders.specs.arrays.columnar_memory.Layouts.{physical_type}
use Rattle.nested_arrays_builders.specs.arrays.columns.SoundColumns.{mask_fits}
use Rattle.nested_arrays_builders.specs.arrays.columns.StoredColumns.{flat}
use Rattle.nested_arrays_builders.specs.arrays.flat.FlatColumns.{primitive_column, stored_numbers}
use Rattle.nested_arrays_builders.specs.flat_arrays.Flat.{Flat}
use Rattle.nested_arrays_builders.proofs.arrays_lemmas.flat_lemmas.SoundFlats.{masked_from}
use Rattle.nested_arrays_builders.proofs.arrays_lemmas.flat_arrays_lemmas.values_lemmas.Layouts.{plainest_layout}
use Rattle.nested_arrays_builders.specs.values.Uses.{keys_from}
use Rattle.nested_arrays_builder_arrays.proofs.FrozenParts.{as_many, stored_keys}
use Rattle.nested_arrays_builder_arrays.proofs.keys.keys_array.Goals as goal

pub new-array-requires : goal.new-array-requires
new-array-requires g c =
    let same : c.in_ok-values.values ≡ c.in_ok-keys.keys.items = c.in_ok-values.ensures in
    let keys : map g.K.Number.value c.in_ok-keys.keys.items ≡ keys_from c.as_slice.result.now = c.in_ok-keys.ensures in
    let many = ap length same ∙ as_many g.K.Number.value c.in_ok-keys.keys.items c.as_slice.result.now keys ∙ ap length c.as_slice.ensures in
    record {
      fits = ap physical_type (c.from.ensures ∙ ap type_of_primitive c.PRIMITIVE.ensures) ∙ plainest_layout g.K.NativeType.PRIMITIVE;
      masked = masked_from c.args.validity (length c.in_ok-values.values) (ap (mask_fits c.args.validity) many ∙ c.requires.masked);
    }

pub returns : goal.returns
returns g c =
    let kind = g.K.NativeType.PRIMITIVE in
    let same : c.in_ok-values.values ≡ c.in_ok-keys.keys.items = c.in_ok-values.ensures in
    let keys : map g.K.Number.value c.in_ok-keys.keys.items ≡ keys_from c.as_slice.result.now = c.in_ok-keys.ensures in
    let typed = c.from.ensures ∙ ap type_of_primitive c.PRIMITIVE.ensures in
    let stored = ap (map g.K.NativeType.numbers) same
    ∙ stored_keys g.K.NativeType.numbers g.K.Number.value g.met.K.Index.numbers_law c.in_ok-keys.keys.items c.args.uses
    (keys ∙ ap keys_from c.as_slice.ensures) in
    c.from_array.ensures ∙ ap (λ (a : Flat g.row.K.Denot). primitive_column kind g.K.NativeType.numbers a) c.new-array.ensures
    ∙ (λ j. flat (typed j) c.args.validity (stored_numbers kind (stored j)))
