-- What lists of a width have for their items.
use Rattle.std.specs.Prelude.{◌≡◌, Bool, true, false, Option, Some, None, Result, MatchResult}
use Rattle.std.specs.Borrow.{Bor}
use Rattle.nested_arrays_access.specs.columnar_memory.Equality.{same_type}
use Rattle.nested_arrays_access.specs.columnar_memory.Error.{IsOutOfSpec}
use Rattle.nested_arrays_access.specs.columnar_memory.declared.DataType.{DataType}
use Rattle.nested_arrays_access.specs.columnar_memory.declared.DataType.TheOpen as layer
use Rattle.nested_arrays_access.specs.columnar_memory.declared.DataType.TheVariants as types
use Rattle.nested_arrays_access.specs.columnar_memory.declared.Error.{Error}
use Rattle.nested_arrays_access.specs.columnar_memory.declared.Field.{Field}
use Rattle.nested_arrays_access.specs.columnar_memory.declared.PhysicalType.{PhysicalType}
use Rattle.nested_arrays_access.specs.columnar_memory.declared.PhysicalType.TheVariants as physical
use Rattle.nested_arrays_access.specs.arrays.ItemTypes.{item_field}
use Rattle.nested_arrays_access.specs.columns.StoredColumns.{Column, lists}

-- the items of lists
abbrev pub items_in : Column → Column
items_in (lists data_type mask offsets child) = child
items_in column = column

-- how lists lie in memory, by whether their offsets are large
abbrev pub list_layout : Bool → PhysicalType
list_layout true = physical.LargeList
list_layout false = physical.List

-- whether a type is of lists with such offsets, whose items have another
abbrev pub has_list_item_type : Bool → layer.DataType-F DataType Field → DataType → Bool
has_list_item_type false (layer.List item) child = same_type item.data_type child
has_list_item_type true (layer.LargeList item) child = same_type item.data_type child
has_list_item_type _ _ child = false

-- the type of lists with such offsets, of items of a type
abbrev pub list_type : Bool → DataType → DataType
list_type false data_type = types.List (item_field data_type)
list_type true data_type = types.LargeList (item_field data_type)

-- the field of the items of lists with such offsets, or none where a type is not of such lists
abbrev pub items_field : Bool → layer.DataType-F DataType Field → Option Field
items_field false (layer.List item) = Some item
items_field true (layer.LargeList item) = Some item
items_field _ _ = None

-- that field, or a refusal where the type is not of such lists
abbrev pub IsItemsField : Bool → layer.DataType-F DataType Field → Result (Bor Field) Error → Type 0
IsItemsField is_large type r = MatchResult r (λ field. Some field.now ≡ items_field is_large type)
    (λ e. IsOutOfSpec e × (None ≡ items_field is_large type))
