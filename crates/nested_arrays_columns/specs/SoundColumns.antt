-- Which columns are sound: the parts that an array of a type may have (Arrow columnar format, "Physical Memory Layout").
use Rattle.std.specs.Prelude.{ℕ, zero, suc, ◌+◌, ◌-◌, ◌*◌, ◌/◌, min, ℤ, pos, Bool, true, false, not, ◌&&◌, ◌||◌, ◌==◌, List, [], ◌∷◌}
use Rattle.std.specs.Prelude.{length, Option, Some, None, nat_le, nat_lt, slice_index, slice_index_or}
use Rattle.std.specs.Prelude.{int_le}
use Rattle.std.specs.List.{list_all}
use Rattle.std.specs.Str.{is_utf8}
use Rattle.columnar_memory_core.specs.declared.DataType.{DataType}
use Rattle.columnar_memory_core.specs.declared.DataType.TheOpen as layer
use Rattle.columnar_memory_core.specs.declared.DataType.TheViews.{out-DataType}
use Rattle.columnar_memory_core.specs.declared.Field.{Field}
use Rattle.columnar_memory_core.specs.declared.PhysicalType.{PhysicalType}
use Rattle.columnar_memory_core.specs.declared.PhysicalType.TheVariants as physical
use Rattle.columnar_memory_core.specs.declared.UnionMode.TheVariants as modes
use Rattle.columnar_memory_core.specs.Equality.{same_type}
use Rattle.columnar_memory_core.specs.Layouts.{physical_type}
use Rattle.nested_arrays_columns.specs.Kinds.{is_signed, in_kind, numbers_of_kind, same_kind, is_key, most_offset}
use Rattle.nested_arrays_columns.specs.StoredColumns.{Stored, bits, numbers, pairs, triples, texts, byte_strings, fixed_bytes, Column, Columns}
use Rattle.nested_arrays_columns.specs.StoredColumns.{nulls, flat, lists, fixed_lists, records, unions, dictionary, no_column, column_then}
use Rattle.nested_arrays_columns.specs.StoredColumns.{is_valid_at, string_at, stored_len, column_type, column_len, type_layer, place_of}
use Rattle.nested_arrays_columns.specs.StoredColumns.{child_number, union_place}

-- whether a test holds at each place below n
abbrev pub holds_below : ℕ → (ℕ → Bool) → Bool
holds_below zero test = true
holds_below (suc n) test = holds_below n test && test n

abbrev pub is_byte : ℕ → Bool
is_byte n = nat_lt n 256

-- a mask has a mark for each slot
abbrev pub mask_fits : Option (List Bool) → ℕ → Bool
mask_fits None n = true
mask_fits (Some marks) n = length marks == n

-- offsets do not fall
abbrev pub rises_at : List ℕ → ℕ → Bool
rises_at offsets i = nat_le (slice_index offsets i) (slice_index offsets (i + 1))

-- offsets: at least one, not falling, and none past a limit
abbrev pub are_offsets : List ℕ → ℕ → Bool
are_offsets offsets limit = nat_le 1 (length offsets) && holds_below (length offsets - 1) (rises_at offsets)
    && list_all (λ offset. nat_le offset limit) offsets

-- strings by offsets
abbrev pub are_strings : PhysicalType → List ℕ → List ℕ → Bool
are_strings layout offsets content = are_offsets offsets (min (most_offset layout) (length content)) && list_all is_byte content

-- each string is a text by itself
abbrev pub is_text_at : List ℕ → List ℕ → ℕ → Bool
is_text_at offsets content i = is_utf8 (string_at offsets content i)

abbrev pub are_pairs : List (ℤ × ℤ) → Bool
are_pairs values = list_all (λ value. is_signed 32 value.0 && is_signed 32 value.1) values

abbrev pub are_triples : List (ℤ × ℤ × ℤ) → Bool
are_triples values = list_all (λ value. is_signed 32 value.0 && is_signed 32 value.1 && is_signed 64 value.2) values

-- a whole number of pieces of a size
abbrev pub are_pieces : ℕ → ℕ → Bool
are_pieces size n = nat_le 1 size && (size * (n / size) == n)

-- whether stored values are those of a layout, each in its range
abbrev pub is_stored_as : PhysicalType → Stored → Bool
is_stored_as physical.Boolean (bits values) = true
is_stored_as (physical.Primitive kind) (numbers stored values) =
    same_kind kind stored && (numbers_of_kind stored == 1) && list_all (in_kind stored) values
is_stored_as (physical.Primitive kind) (pairs stored values) = same_kind kind stored && (numbers_of_kind stored == 2) && are_pairs values
is_stored_as (physical.Primitive kind) (triples stored values) = same_kind kind stored && (numbers_of_kind stored == 3) && are_triples values
is_stored_as physical.Utf8 (texts offsets content) = are_strings physical.Utf8 offsets content
    && holds_below (length offsets - 1) (is_text_at offsets content)
is_stored_as physical.LargeUtf8 (texts offsets content) = are_strings physical.LargeUtf8 offsets content
    && holds_below (length offsets - 1) (is_text_at offsets content)
is_stored_as physical.Binary (byte_strings offsets content) = are_strings physical.Binary offsets content
is_stored_as physical.LargeBinary (byte_strings offsets content) = are_strings physical.LargeBinary offsets content
is_stored_as physical.FixedSizeBinary (fixed_bytes size content) = are_pieces size (length content) && list_all is_byte content
is_stored_as _ _ = false

-- the stored size is the type's
abbrev pub has_size : layer.DataType-F DataType Field → Stored → Bool
has_size (layer.FixedSizeBinary size) (fixed_bytes stored content) = size == stored
has_size _ _ = true

-- ---- the types of children

abbrev pub is_null_type : layer.DataType-F DataType Field → Bool
is_null_type layer.Null = true
is_null_type _ = false

-- a struct of a key and a value
abbrev pub is_entry : layer.DataType-F DataType Field → Bool
is_entry (layer.Struct (key ∷ value ∷ [])) = true
is_entry _ = false

-- whether lists of a type have children of another; a map's child is a struct of two
abbrev pub has_item_type : layer.DataType-F DataType Field → DataType → Bool
has_item_type (layer.List item) child = same_type item.data_type child
has_item_type (layer.LargeList item) child = same_type item.data_type child
has_item_type (layer.Map entry is_sorted) child = same_type entry.data_type child && is_entry (out-DataType child)
has_item_type _ child = false

abbrev pub has_fixed_item_type : layer.DataType-F DataType Field → ℕ → DataType → Bool
has_fixed_item_type (layer.FixedSizeList item size) stored child = (size == stored) && same_type item.data_type child
has_fixed_item_type _ stored child = false

abbrev pub has_value_type : layer.DataType-F DataType Field → List ℤ → DataType → Bool
has_value_type (layer.Dictionary key value is_ordered) keys values = same_type value values && list_all (is_key key) keys
has_value_type _ keys values = false

-- whether columns have the types of fields, one each
abbrev pub have_types : List Field → Columns → Bool
have_types [] no_column = true
have_types (field ∷ fields) (column_then column columns) = same_type field.data_type (column_type column) && have_types fields columns
have_types _ _ = false

-- a struct has a field at least
abbrev pub has_field_types : layer.DataType-F DataType Field → Columns → Bool
has_field_types (layer.Struct (field ∷ fields)) children = have_types (field ∷ fields) children
has_field_types _ children = false

-- a union's ids, where its type has some, are as many as its children
abbrev pub has_an_id_each : Option (List ℤ) → ℕ → Bool
has_an_id_each None n = true
has_an_id_each (Some ids) n = length ids == n

-- a dense union has offsets, a sparse one none
abbrev pub has_child_types : layer.DataType-F DataType Field → Option (List ℤ) → Columns → Bool
has_child_types (layer.Union fields ids modes.Sparse) None children = has_an_id_each ids (length fields) && have_types fields children
has_child_types (layer.Union fields ids modes.Dense) (Some offsets) children = has_an_id_each ids (length fields) && have_types fields children
has_child_types _ offsets children = false

-- ---- lengths and places

abbrev pub column_lens : Columns → List ℕ
column_lens no_column = []
column_lens (column_then column columns) = column_len column ∷ column_lens columns

-- each column has so many slots
abbrev pub have_len : Columns → ℕ → Bool
have_len columns n = list_all (λ len. len == n) (column_lens columns)

-- a valid key is the place of a value
abbrev pub has_value_at : Option (List Bool) → List ℤ → ℕ → ℕ → Bool
has_value_at mask keys count i = let key = slice_index_or keys i (pos 0) in
    not (is_valid_at mask i) || (int_le (pos 0) key && nat_lt (place_of key) count)

-- a union's slot has a child, in which it has a place; an id has 8 bits
abbrev pub has_child_at : layer.DataType-F DataType Field → List ℤ → Option (List ℤ) → Columns → ℕ → Bool
has_child_at type_layer ids offsets children i = nat_lt (union_place offsets i)
    (slice_index (column_lens children) (child_number type_layer (slice_index_or ids i (pos 0))))

-- a dense union has an offset for each slot, of 32 bits and not negative; the children of a sparse one are as long as it
abbrev pub is_offset : ℤ → Bool
is_offset offset = int_le (pos 0) offset && is_signed 32 offset

abbrev pub has_places : List ℤ → Option (List ℤ) → Columns → Bool
has_places ids None children = have_len children (length ids)
has_places ids (Some offsets) children = (length offsets == length ids) && list_all is_offset offsets

-- Whether a column is sound at every depth: its type fits how it is stored, the mask and the children have the column's length, offsets
-- do not fall and stay in the child, a union's slots have their places, valid keys their values, and values are in their ranges.
abbrev mutual
  pub is_sound : Column → Bool
  is_sound (nulls data_type n) = is_null_type (type_layer data_type)
  is_sound (flat data_type mask stored) = is_stored_as (physical_type data_type) stored && has_size (type_layer data_type) stored
      && mask_fits mask (stored_len stored)
  is_sound (lists data_type mask offsets child) = has_item_type (type_layer data_type) (column_type child)
      && are_offsets offsets (min (most_offset (physical_type data_type)) (column_len child)) && mask_fits mask (length offsets - 1)
      && is_sound child
  is_sound (fixed_lists data_type mask size child) = has_fixed_item_type (type_layer data_type) size (column_type child)
      && are_pieces size (column_len child) && mask_fits mask (column_len child / size) && is_sound child
  is_sound (records data_type mask n children) = has_field_types (type_layer data_type) children && have_len children n && mask_fits mask n
      && are_sound children
  is_sound (unions data_type ids offsets children) = has_child_types (type_layer data_type) offsets children && list_all (is_signed 8) ids
      && has_places ids offsets children && holds_below (length ids) (has_child_at (type_layer data_type) ids offsets children) && are_sound children
  is_sound (dictionary data_type mask keys values) = has_value_type (type_layer data_type) keys (column_type values)
      && mask_fits mask (length keys) && holds_below (length keys) (has_value_at mask keys (column_len values)) && is_sound values

  pub are_sound : Columns → Bool
  are_sound no_column = true
  are_sound (column_then column columns) = is_sound column && are_sound columns
