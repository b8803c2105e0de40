-- The types below a builder have fewer columns than its own.
use Rattle.std.proofs.Common.{◌≡◌, ◌∙◌, ℕ, ◌+◌, List, [], ◌∷◌, length, Bool, sym, ap, refl}
use Rattle.nested_arrays_builder_values.specs.parts.arrays.columnar_memory.declared.DataType.{DataType}
use Rattle.nested_arrays_builder_values.specs.parts.arrays.columnar_memory.declared.DataType.TheOpen as layer
use Rattle.nested_arrays_builder_values.specs.parts.arrays.columnar_memory.declared.Field.{Field}
use Rattle.nested_arrays_builder_values.specs.parts.arrays.columnar_memory.declared.IntegerType.{IntegerType}
use Rattle.nested_arrays_builder_values.specs.parts.arrays.columns.Children.{field_slots}
use Rattle.nested_arrays_builder_values.specs.parts.arrays.columns.Rows.{fresh_columns}
use Rattle.nested_arrays_builder_values.specs.parts.arrays.columns.Slots.{Slot, window}
use Rattle.nested_arrays_builder_values.specs.parts.arrays.columns.StoredColumns.{column_size, columns_size, in_columns, type_layer}
use Rattle.nested_arrays_builder_values.proofs.parts_lemmas.arrays_lemmas.columns_lemmas.FreshLengths.{Layer}
use Rattle.nested_arrays_builder_values.specs.parts.columns.OpenParts.{slots_of_fields}
use Rattle.nested_arrays_builder_values.proofs.parts_lemmas.columns_lemmas.LayerParts.{fresh_list, fresh_large_list, fresh_fixed_list, fresh_struct, fresh_dictionary}
use Rattle.nested_arrays_builder_values.specs.parts.Open.{Open}
use Rattle.nested_arrays_builders.specs.Begun.{fields_size}
use Rattle.nested_arrays_builders.specs.Parts.{Parts, listed, sized, of_fields, keyed, opened_each, type_size, types_size, parts_size, HoldsParts, IsKept}

pub list_size : (t : DataType) (item : Field) → type_layer t ≡ layer.List item → type_size t ≡ type_size item.data_type + 1
list_size t item is = ap column_size (fresh_list t item is [])

pub large_list_size : (t : DataType) (item : Field) → type_layer t ≡ layer.LargeList item → type_size t ≡ type_size item.data_type + 1
large_list_size t item is = ap column_size (fresh_large_list t item is [])

pub fixed_list_size : (t : DataType) (item : Field) (size : ℕ) → type_layer t ≡ layer.FixedSizeList item size
    → type_size t ≡ type_size item.data_type + 1
fixed_list_size t item size is = ap column_size (fresh_fixed_list t item size is [])

pub dictionary_size : (t : DataType) (key : IntegerType) (value : DataType) (is_ordered : Bool)
    → type_layer t ≡ layer.Dictionary key value is_ordered → type_size t ≡ type_size value + 1
dictionary_size t key value is_ordered is = ap column_size (fresh_dictionary t key value is_ordered is [])

each_size : (us : List Field) (xs : List Slot) (a : ℕ) → columns_size (in_columns (fresh_columns us (window (field_slots []) a (length us))))
    ≡ types_size (opened_each us (window (field_slots xs) a (length us)))
each_size [] xs a = refl
each_size (u ∷ us) xs a = ap (λ n. type_size u.data_type + n) (each_size us xs (a + 1))

struct_size : (t : DataType) (us : List Field) (xs : List Slot) → type_layer t ≡ layer.Struct us
    → type_size t ≡ types_size (opened_each us (slots_of_fields (length us) xs)) + 1
struct_size t us xs is = ap column_size (fresh_struct t us is []) ∙ ap (λ n. n + 1) (each_size us xs 0)

-- the types of the fields of a struct
own_size : (us : List Field) (a : ℕ) → columns_size (in_columns (fresh_columns us (window (field_slots []) a (length us)))) ≡ fields_size us
own_size [] a = refl
own_size (u ∷ us) a = ap (λ n. type_size u.data_type + n) (own_size us (a + 1))

pub struct_is_larger : (t : DataType) (us : List Field) → type_layer t ≡ layer.Struct us → type_size t ≡ fields_size us + 1
struct_is_larger t us is = ap column_size (fresh_struct t us is []) ∙ ap (λ n. n + 1) (own_size us 0)

layer_size : (t : DataType) (x : Layer) (parts : Parts) (xs : List Slot) → type_layer t ≡ x → HoldsParts x parts xs
    → type_size t ≡ parts_size parts + 1
layer_size t (layer.List item) (listed large spans child) xs is held =
    list_size t item is ∙ ap (λ (o : Open). type_size o.data_type + 1) (sym held.2)
layer_size t (layer.LargeList item) (listed large spans child) xs is held =
    large_list_size t item is ∙ ap (λ (o : Open). type_size o.data_type + 1) (sym held.2)
layer_size t (layer.FixedSizeList item size) (sized own child) xs is held =
    fixed_list_size t item size is ∙ ap (λ (o : Open). type_size o.data_type + 1) (sym held.1)
layer_size t (layer.Struct us) (of_fields children) xs is held =
    struct_size t us xs is ∙ ap (λ (os : List Open). types_size os + 1) (sym held)
layer_size t (layer.Dictionary own value is_ordered) (keyed key uses known child) xs is held =
    dictionary_size t own value is_ordered is ∙ ap (λ (o : Open). type_size o.data_type + 1) (sym held.3)
layer_size t _ _ xs is held = absurd held

pub parts_are_smaller : (t : DataType) (marks : List Bool) (parts : Parts) (xs : List Slot) → IsKept t marks parts xs
    → type_size t ≡ parts_size parts + 1
parts_are_smaller t marks parts xs kept = layer_size t (type_layer t) parts xs refl kept.held
