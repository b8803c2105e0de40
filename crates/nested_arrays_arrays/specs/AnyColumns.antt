-- The column of an array of any type, and which width its offsets or its keys have.
use Rattle.std.specs.Prelude.{◌≡◌, true}
use Rattle.nested_arrays_parts.specs.columnar_memory.Layouts.{physical_type}
use Rattle.nested_arrays_parts.specs.columnar_memory.Spans.{offsets_of}
use Rattle.nested_arrays_parts.specs.columns.SoundColumns.{is_sound}
use Rattle.nested_arrays_parts.specs.columns.StoredColumns.{Column, lists}
use Rattle.nested_arrays_arrays.specs.declared.any.Node.{Node}
use Rattle.nested_arrays_arrays.specs.declared.any.Node.TheVariants as variant
use Rattle.nested_arrays_parts.specs.Keys.{AreKeysOf, keyed}
use Rattle.nested_arrays_parts.specs.Widths.{spans_in, layout_of}

abbrev pub column_of : Node → Column
column_of (variant.Flat array) = array
column_of (variant.List node) = lists node.data_type node.validity (offsets_of (spans_in node.offsets)) node.values.value
column_of (variant.FixedSizeList array) = array
column_of (variant.Struct array) = array
column_of (variant.Map array) = array
column_of (variant.Union array) = array
column_of (variant.Dictionary node) = keyed node.data_type node.keys node.values.value

-- the offsets of lists are as wide as their type says, and the keys of dictionaries of its kind
abbrev pub FitsWidth : Node → Type 0
FitsWidth (variant.List node) = physical_type node.data_type ≡ layout_of node.offsets
FitsWidth (variant.Dictionary node) = AreKeysOf (physical_type node.data_type) node.keys
FitsWidth _ = Unit {0}

-- an array of any type is sound at every depth
pub record IsWhole (node : Node) : Type 0 where
  pub sound : is_sound (column_of node) ≡ true
  pub fits : FitsWidth node
