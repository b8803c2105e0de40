-- Which schemas are written and read, and their one form. The limits are this library's own; Arrow leaves them open.
use Rattle.std.specs.Prelude.{◌≡◌, ℕ, ◌+◌, ◌^◌, All, max, ℤ, pos, negsuc, Bool, true, false, not, ◌&&◌, ◌==◌, List, [], ◌∷◌, length, map}
use Rattle.std.specs.Prelude.{sum_by, Option, Some, None, nat_le, nat_lt}
use Rattle.std.specs.Ordering.{int_eq}
use Rattle.std.specs.Map.{remove_entry}
use Rattle.std.specs.List.{list_all, list_any}
use Rattle.std.specs.Cmp.Lexicographic.{pointwise}
use Rattle.std.specs.Prelude.{nat_eq}
use Rattle.nested_arrays_columns.specs.columnar_memory.declared.DataType.{DataType}
use Rattle.nested_arrays_columns.specs.columnar_memory.declared.DataType.TheOpen as layer
use Rattle.nested_arrays_columns.specs.columnar_memory.declared.DataType.TheFolds.{fold-DataType}
use Rattle.nested_arrays_columns.specs.columnar_memory.declared.DataType.TheViews.{roll-DataType, roll-Field, out-DataType}
use Rattle.nested_arrays_columns.specs.columnar_memory.declared.Field.{Field}
use Rattle.nested_arrays_columns.specs.columnar_memory.declared.Schema.{Schema}
use Rattle.nested_arrays_columns.specs.columnar_memory.declared.TimeUnit.{TimeUnit}
use Rattle.nested_arrays_columns.specs.columnar_memory.declared.TimeUnit.TheVariants as units
use Rattle.nested_arrays_columns.specs.columnar_memory.Pairs.{with_pair}
use Rattle.nested_arrays_columns.specs.Tables.{Table, FitsRows}
use Rattle.ipc_format_grammar.specs.Schemas.{extension_name_key, extension_metadata_key}
use Rattle.ipc_format_grammar.specs.Limits.{most_levels, most_dictionaries}

-- what stands at the top of a type, as far as others ask
pub data Shape : Type 0 where
  plain : Shape
  dictionary : Shape
  extension : Shape
  struct_of_two : Shape

-- what is asked of a type: that it is allowed, how many levels of fields stand below it, how many dictionaries it has, and its shape
pub record Report : Type 0 where
  pub is_allowed : Bool
  pub levels : ℕ
  pub dictionaries : ℕ
  pub shape : Shape

abbrev pub is_plain : Shape → Bool
is_plain plain = true
is_plain struct_of_two = true
is_plain _ = false

abbrev pub is_dictionary : Shape → Bool
is_dictionary dictionary = true
is_dictionary _ = false

abbrev pub is_struct_of_two : Shape → Bool
is_struct_of_two struct_of_two = true
is_struct_of_two _ = false

-- a type without fields below it
abbrev pub leaf : Bool → Report
leaf is_allowed = record { is_allowed = is_allowed; levels = 0; dictionaries = 0; shape = plain }

-- a type over one field
abbrev pub over : Bool → Report → Report
over is_allowed child =
    record { is_allowed = is_allowed && child.is_allowed; levels = child.levels + 1; dictionaries = child.dictionaries; shape = plain }

-- the levels of the deepest of some fields
abbrev pub deepest : List Report → ℕ
deepest [] = 0
deepest (child ∷ children) = max (child.levels + 1) (deepest children)

-- a type over some fields
abbrev pub over_all : Bool → Shape → List Report → Report
over_all is_allowed shape children = record {
  is_allowed = is_allowed && list_all (λ (child : Report). child.is_allowed) children;
  levels = deepest children;
  dictionaries = sum_by (λ (child : Report). child.dictionaries) children;
  shape = shape;
}

-- a struct's shape by the number of its fields
abbrev pub shape_of_struct : List Report → Shape
shape_of_struct (key ∷ value ∷ []) = struct_of_two
shape_of_struct _ = plain

-- 32-bit times count seconds or milliseconds, 64-bit times microseconds or nanoseconds
abbrev pub is_short : TimeUnit → Bool
is_short units.Second = true
is_short units.Millisecond = true
is_short _ = false

-- a number that fits a positive signed number of 32 bits
abbrev pub fits_i32 : ℕ → Bool
fits_i32 n = nat_lt n (2 ^ 31)

-- a size from 1 to the greatest signed number of 32 bits
abbrev pub is_size : ℕ → Bool
is_size n = nat_le 1 n && fits_i32 n

-- an id of a union's child: 0 to 127
abbrev pub is_union_id : ℤ → Bool
is_union_id (pos n) = nat_lt n 128
is_union_id (negsuc n) = false

abbrev pub are_distinct : List ℤ → Bool
are_distinct [] = true
are_distinct (id ∷ ids) = not (list_any (int_eq id) ids) && are_distinct ids

-- a union's ids, where given, are as many as its children, distinct, and in range; where not, there are at most 128 children
abbrev pub are_union_ids : Option (List ℤ) → ℕ → Bool
are_union_ids None count = nat_le count 128
are_union_ids (Some ids) count = (length ids == count) && list_all is_union_id ids && are_distinct ids

-- one layer of a type, where each type below stands as its report
abbrev pub report_step : layer.DataType-F Report Report → Report
report_step layer.Float16 = leaf false
report_step layer.Float32 = leaf false
report_step layer.Float64 = leaf false
report_step (layer.Time32 unit) = leaf (is_short unit)
report_step (layer.Time64 unit) = leaf (not (is_short unit))
report_step (layer.Decimal precision scale) = leaf (fits_i32 precision && fits_i32 scale)
report_step (layer.Decimal256 precision scale) = leaf (fits_i32 precision && fits_i32 scale)
report_step (layer.FixedSizeBinary size) = leaf (is_size size)
report_step (layer.List item) = over true item
report_step (layer.LargeList item) = over true item
report_step (layer.FixedSizeList item size) = over (is_size size) item
report_step (layer.Map entry is_sorted) = over (is_struct_of_two entry.shape) entry
report_step (layer.Struct children) = over_all (nat_le 1 (length children)) (shape_of_struct children) children
report_step (layer.Union children ids mode) = over_all (nat_le 1 (length children) && are_union_ids ids (length children)) plain children
-- no dictionary stands directly in a dictionary
report_step (layer.Dictionary key value is_ordered) = record value {
  is_allowed = value.is_allowed && not (is_dictionary value.shape);
  dictionaries = value.dictionaries + 1;
  shape = dictionary;
}
-- no extension stands around a dictionary or an extension
report_step (layer.Extension name inner metadata) = record inner { is_allowed = inner.is_allowed && is_plain inner.shape; shape = extension }
report_step _ = leaf true

abbrev pub field_step : layer.Field-F Report Report → Report
field_step field = field.data_type

abbrev pub report_of : DataType → Report
report_of = fold-DataType Report Report report_step field_step

abbrev pub reports_of : List Field → List Report
reports_of fields = map (λ (field : Field). report_of field.data_type) fields

-- a schema that is written, and read: each type is allowed, fields nest at most 64 deep, and at most 65,536 have dictionaries
unfoldable pub is_writable : Schema → Bool
is_writable schema = let all = over_all true plain (reports_of schema.fields) in
    all.is_allowed && nat_le all.levels most_levels && nat_le all.dictionaries most_dictionaries

-- the pairs without one of a key
abbrev pub without_key : List ℕ → List (List ℕ × List ℕ) → List (List ℕ × List ℕ)
without_key key pairs = remove_entry (λ name. pointwise nat_eq key name) pairs

-- an extension's pairs put where they belong: its name, and its metadata if it has any
abbrev pub with_extension : List (List ℕ × List ℕ) → List ℕ → Option (List ℕ) → List (List ℕ × List ℕ)
with_extension pairs name None = with_pair pairs extension_name_key name
with_extension pairs name (Some metadata) = with_pair (with_pair pairs extension_name_key name) extension_metadata_key metadata

abbrev pub with_extension_of : List (List ℕ × List ℕ) → layer.DataType-F DataType Field → List (List ℕ × List ℕ)
with_extension_of pairs (layer.Extension name inner metadata) = with_extension pairs name metadata
with_extension_of pairs _ = pairs

-- a field's own extension type, or the one directly under its dictionary
abbrev pub with_extension_under : List (List ℕ × List ℕ) → layer.DataType-F DataType Field → List (List ℕ × List ℕ)
with_extension_under pairs (layer.Dictionary key value is_ordered) = with_extension_of pairs (out-DataType value)
with_extension_under pairs type_layer = with_extension_of pairs type_layer

-- a field's custom metadata with the keys of an extension as its type has it
abbrev pub normalised_pairs : DataType → List (List ℕ × List ℕ) → List (List ℕ × List ℕ)
normalised_pairs data_type pairs =
    with_extension_under (without_key extension_metadata_key (without_key extension_name_key pairs)) (out-DataType data_type)

abbrev pub normalised_step : layer.Field-F DataType Field → Field
normalised_step field = roll-Field (record field { metadata = normalised_pairs field.data_type field.metadata })

-- a type with each field below it normalised
abbrev pub normalised_type : DataType → DataType
normalised_type = fold-DataType DataType Field roll-DataType normalised_step

-- a field normalised at each depth
abbrev pub normalised_field : Field → Field
normalised_field field = let data_type = normalised_type field.data_type in
    record { name = field.name; data_type = data_type; is_nullable = field.is_nullable; metadata = normalised_pairs data_type field.metadata }

-- the one form of a schema: at each field at any depth the keys of an extension are those of its type
unfoldable pub normalised : Schema → Schema
normalised schema = record schema { fields = map normalised_field schema.fields }

-- A table: its schema has the one form, each row has a value a field, there is no row without fields, and the rows fit 64 bits.
pub record IsTable (table : Table) : Type 0 where
  pub normal : normalised table.schema ≡ table.schema
  pub widths : All (λ row. length row ≡ length table.schema.fields) table.rows
  pub none : table.schema.fields ≡ [] → table.rows ≡ []
  pub fits : FitsRows table
