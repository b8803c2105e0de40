-- What maps have for their entries.
use Rattle.std.specs.Prelude.{Bool, false, ◌&&◌}
use Rattle.nested_arrays_parts.specs.columnar_memory.Equality.{same_type}
use Rattle.nested_arrays_parts.specs.columnar_memory.declared.DataType.{DataType}
use Rattle.nested_arrays_parts.specs.columnar_memory.declared.DataType.TheOpen as layer
use Rattle.nested_arrays_parts.specs.columnar_memory.declared.DataType.TheViews.{out-DataType}
use Rattle.nested_arrays_parts.specs.columnar_memory.declared.Field.{Field}
use Rattle.nested_arrays_parts.specs.columns.SoundColumns.{is_entry}

-- whether a type is a map whose entries have another
abbrev pub has_entry_type : layer.DataType-F DataType Field → DataType → Bool
has_entry_type (layer.Map entry is_sorted) child = same_type entry.data_type child && is_entry (out-DataType child)
has_entry_type _ child = false
