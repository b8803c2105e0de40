-- Which types have builders.
use Rattle.std.specs.Prelude.{◌||◌, ◌==◌, ℕ, Bool, true, false, not, List, length}
use Rattle.std.specs.List.{list_all, list_any}
use Rattle.nested_arrays_builder_values.specs.parts.arrays.columnar_memory.declared.DataType.{DataType}
use Rattle.nested_arrays_builder_values.specs.parts.arrays.columnar_memory.declared.DataType.TheOpen as layer
use Rattle.nested_arrays_builder_values.specs.parts.arrays.columnar_memory.declared.DataType.TheFolds.{fold-DataType, para-DataType}
use Rattle.nested_arrays_builder_values.specs.parts.arrays.columnar_memory.declared.Field.{Field}
use Rattle.nested_arrays_builder_values.specs.parts.arrays.columnar_memory.declared.PhysicalType.{PhysicalType}
use Rattle.nested_arrays_builder_values.specs.parts.arrays.columnar_memory.declared.PhysicalType.TheVariants as physical
use Rattle.nested_arrays_builder_values.specs.parts.arrays.columnar_memory.Layouts.{physical_type}

-- One layer of a type, where each type below stands as its answer: whether floats stand in it.
abbrev pub floats_step : layer.DataType-F Bool Bool → Bool
floats_step layer.Float16 = true
floats_step layer.Float32 = true
floats_step layer.Float64 = true
floats_step (layer.List item) = item
floats_step (layer.LargeList item) = item
floats_step (layer.FixedSizeList item size) = item
floats_step (layer.Struct children) = list_any (λ child. child) children
floats_step (layer.Union children ids mode) = list_any (λ child. child) children
floats_step (layer.Map entry is_sorted) = entry
floats_step (layer.Dictionary key value is_ordered) = value
floats_step (layer.Extension name inner metadata) = inner
floats_step _ = false

-- whether floats stand in a type
abbrev pub has_floats : DataType → Bool
has_floats = fold-DataType Bool Bool floats_step (λ field. field.data_type)

-- whether arrays that lie in memory so are of dictionaries
abbrev pub is_keyed : PhysicalType → Bool
is_keyed (physical.Dictionary key) = true
is_keyed _ = false

-- One layer of a type, where each type below stands as itself and as its answer: whether something else that has no builder stands in it. This is
-- a size of zero, a struct without fields, a map, a union, a dictionary with an order, or one directly in a dictionary; extensions stand for
-- their inner types.
abbrev pub invalid_step : layer.DataType-F (DataType × Bool) (Field × Bool) → Bool
invalid_step (layer.FixedSizeBinary size) = size == 0
invalid_step (layer.List item) = item.1
invalid_step (layer.LargeList item) = item.1
invalid_step (layer.FixedSizeList item size) = (size == 0) || item.1
invalid_step (layer.Struct children) = (length children == 0) || list_any (λ (child : Field × Bool). child.1) children
invalid_step (layer.Union children ids mode) = true
invalid_step (layer.Map entry is_sorted) = true
invalid_step (layer.Dictionary key value is_ordered) = is_ordered || (is_keyed (physical_type value.0) || value.1)
invalid_step (layer.Extension name inner metadata) = inner.1
invalid_step _ = false

-- whether something that has no builder stands in a type, floats aside
abbrev pub is_invalid : DataType → Bool
is_invalid = para-DataType Bool Bool invalid_step (λ field. field.data_type.1)

-- whether a type has a builder
abbrev pub has_builder : DataType → Bool
has_builder t = not (has_floats t || is_invalid t)

-- the same of the types of some fields
abbrev pub have_floats : List Field → Bool
have_floats fields = list_any (λ (field : Field). has_floats field.data_type) fields

abbrev pub are_invalid : List Field → Bool
are_invalid fields = list_any (λ (field : Field). is_invalid field.data_type) fields

abbrev pub have_builders : List Field → Bool
have_builders fields = list_all (λ (field : Field). has_builder field.data_type) fields
