-- The column of so many nulls of each type (Arrow columnar format, "Physical Memory Layout"): a null still has its place in each part, where
-- zeros stand.
use Rattle.std.specs.Prelude.{ℕ, ◌*◌, min, ℤ, pos, Bool, false, List, [], ◌∷◌, map, replicate, slice_index_or, Option, Some, None}
use Rattle.nested_arrays_iterators.specs.columnar_memory.Numbers.{zeros}
use Rattle.nested_arrays_iterators.specs.columnar_memory.Layouts.{physical_type}
use Rattle.nested_arrays_iterators.specs.columnar_memory.declared.DataType.{DataType}
use Rattle.nested_arrays_iterators.specs.columnar_memory.declared.DataType.TheFolds.{para-DataType}
use Rattle.nested_arrays_iterators.specs.columnar_memory.declared.DataType.TheOpen as layer
use Rattle.nested_arrays_iterators.specs.columnar_memory.declared.Field.{Field}
use Rattle.nested_arrays_iterators.specs.columnar_memory.declared.PhysicalType.{PhysicalType}
use Rattle.nested_arrays_iterators.specs.columnar_memory.declared.PhysicalType.TheVariants as physical
use Rattle.nested_arrays_iterators.specs.columnar_memory.declared.UnionMode.{UnionMode}
use Rattle.nested_arrays_iterators.specs.columnar_memory.declared.UnionMode.TheVariants as modes
use Rattle.nested_arrays_iterators.specs.columns.Slots.{window}
use Rattle.nested_arrays_iterators.specs.columns.StoredColumns.{Column, Stored, nulls, flat, lists, fixed_lists, records, unions, dictionary}
use Rattle.nested_arrays_iterators.specs.columns.StoredColumns.{bits, texts, byte_strings, fixed_bytes, in_columns}
use Rattle.nested_arrays_iterators.specs.flat.FlatColumns.{byte_width, stored_numbers}

-- the mask of so many nulls
abbrev pub no_marks : ℕ → Option (List Bool)
no_marks n = Some (replicate n false)

-- the offsets of so many lists or strings without an element
abbrev pub no_items : ℕ → List ℕ
no_items n = 0 ∷ replicate n 0

-- what stands under so many nulls without children, by how they lie in memory
abbrev pub null_values : PhysicalType → DataType → ℕ → Stored
null_values (physical.Primitive kind) data_type n = stored_numbers kind (replicate n (zeros kind))
null_values physical.Binary data_type n = byte_strings (no_items n) []
null_values physical.LargeBinary data_type n = byte_strings (no_items n) []
null_values physical.Utf8 data_type n = texts (no_items n) []
null_values physical.LargeUtf8 data_type n = texts (no_items n) []
null_values physical.FixedSizeBinary data_type n = fixed_bytes (byte_width data_type) (replicate (byte_width data_type * n) 0)
null_values _ data_type n = bits (replicate n false)

-- so many nulls without children
abbrev pub flat_nulls : PhysicalType → DataType → ℕ → Column
flat_nulls physical.Null data_type n = nulls data_type n
flat_nulls layout data_type n = flat data_type (no_marks n) (null_values layout data_type n)

-- the places of so many slots of a union in their child: each its own; a sparse union has none
abbrev pub null_places : UnionMode → ℕ → Option (List ℤ)
null_places modes.Sparse n = None
null_places modes.Dense n = Some (window pos 0 n)

-- the id of the first child of unions: 0 where their type lists no ids
abbrev pub first_id : Option (List ℤ) → ℤ
first_id None = pos 0
first_id (Some ids) = slice_index_or ids 0 (pos 0)

-- the column of so many nulls under the name of a type that stores its arrays in the same way
abbrev pub Maker : Type 0
Maker = DataType → ℕ → Column

-- so many nulls of a field's type
abbrev pub field_nulls : ℕ → Field × Maker → Column
field_nulls n field = field.1 field.0.data_type n

-- One layer of a type, where each type below stands beside its maker. Lists of any length have no items, a dictionary has a null as its
-- value if it has slots, and each slot of a union is of its first child.
abbrev pub null_step : layer.DataType-F (DataType × Maker) (Field × Maker) → Maker
null_step (layer.List item) whole n = lists whole (no_marks n) (no_items n) (field_nulls 0 item)
null_step (layer.LargeList item) whole n = lists whole (no_marks n) (no_items n) (field_nulls 0 item)
null_step (layer.Map entry is_sorted) whole n = lists whole (no_marks n) (no_items n) (field_nulls 0 entry)
null_step (layer.FixedSizeList item size) whole n = fixed_lists whole (no_marks n) size (field_nulls (size * n) item)
null_step (layer.Struct fields) whole n = records whole (no_marks n) n (in_columns (map (field_nulls n) fields))
null_step (layer.Union fields ids mode) whole n =
    unions whole (replicate n (first_id ids)) (null_places mode n) (in_columns (map (field_nulls n) fields))
null_step (layer.Dictionary key value is_ordered) whole n = dictionary whole (no_marks n) (replicate n (pos 0)) (value.1 value.0 (min n 1))
null_step (layer.Extension name inner metadata) whole n = inner.1 whole n
null_step _ whole n = flat_nulls (physical_type whole) whole n

abbrev pub null_field_step : layer.Field-F (DataType × Maker) (Field × Maker) → Maker
null_field_step field = field.data_type.1

-- the same of a whole type, whose extensions keep their name
abbrev pub nulls_as : DataType → Maker
nulls_as = para-DataType Maker Maker null_step null_field_step

-- the column of so many nulls of a type
abbrev pub null_column : DataType → ℕ → Column
null_column data_type n = nulls_as data_type data_type n

-- the columns of so many nulls of each field
abbrev pub null_columns : List Field → ℕ → List Column
null_columns fields n = map (λ (field : Field). null_column field.data_type n) fields
