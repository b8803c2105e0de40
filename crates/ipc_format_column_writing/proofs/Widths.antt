-- How wide the offsets of lists are, by their types.
use Rattle.std.proofs.Common.{◌≡◌, ◌∙◌, refl, sym}
use Rattle.std.specs.Int.{w32}
use Rattle.nested_arrays_core.specs.Widths.{layout_of}
use Rattle.nested_arrays_core.specs.declared.ListOffsets.{ListOffsets}
use Rattle.nested_arrays_core.specs.declared.ListOffsets.TheVariants as width
use Rattle.ipc_format_column_reading.specs.column_bytes.columnar_memory.Layouts.{physical_type}
use Rattle.ipc_format_column_reading.specs.column_bytes.columnar_memory.declared.DataType.{DataType}
use Rattle.ipc_format_column_reading.specs.column_bytes.columnar_memory.declared.PhysicalType.TheVariants as physical
use Rattle.ipc_format_column_reading.specs.column_bytes.columns.StoredColumns.{type_layer}
use Rattle.ipc_format_column_reading.specs.column_bytes.grammar.StoredEncoding.{offset_width}
use Rattle.ipc_format_column_reading.proofs.bytes_lemmas.LayerWidths.{layout_width, width_is}
use Rattle.ipc_format_column_writing.specs.Written.{list_width}

width_of_layout : (offsets : ListOffsets) → list_width offsets ≡ layout_width (layout_of offsets)
width_of_layout (width.Small offsets) = refl
width_of_layout (width.Large offsets) = refl

pub lists_width : (t : DataType) (offsets : ListOffsets) → physical_type t ≡ layout_of offsets → list_width offsets ≡ offset_width (type_layer t)
lists_width t offsets lies = width_of_layout offsets ∙ sym (width_is t (layout_of offsets) lies)

pub maps_width : (t : DataType) → physical_type t ≡ physical.Map → w32 ≡ offset_width (type_layer t)
maps_width t lies = sym (width_is t physical.Map lies)
