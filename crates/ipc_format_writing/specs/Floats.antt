-- Whether a type of floating-point numbers stands in a type, at any depth.
use Rattle.std.specs.Prelude.{Bool, true, false, map}
use Rattle.std.specs.List.{list_any}
use Rattle.ipc_format_messages.specs.columnar_memory.declared.DataType.{DataType}
use Rattle.ipc_format_messages.specs.columnar_memory.declared.DataType.TheOpen as layer
use Rattle.ipc_format_messages.specs.columnar_memory.declared.DataType.TheFolds.{fold-DataType, fold-Field}
use Rattle.ipc_format_messages.specs.columnar_memory.declared.Field.{Field}
use Rattle.ipc_format_messages.specs.columnar_memory.declared.Schema.{Schema}

-- one layer of a type, where each type below stands as whether a float is in it
abbrev pub float_step : layer.DataType-F Bool Bool → Bool
float_step layer.Float16 = true
float_step layer.Float32 = true
float_step layer.Float64 = true
float_step (layer.List item) = item
float_step (layer.LargeList item) = item
float_step (layer.FixedSizeList item size) = item
float_step (layer.Map entry is_sorted) = entry
float_step (layer.Struct fields) = list_any (λ here. here) fields
float_step (layer.Union fields ids mode) = list_any (λ here. here) fields
float_step (layer.Dictionary key value is_ordered) = value
float_step (layer.Extension name inner metadata) = inner
float_step _ = false

abbrev pub in_type : DataType → Bool
in_type = fold-DataType Bool Bool float_step (λ field. field.data_type)

abbrev pub in_field : Field → Bool
in_field = fold-Field Bool Bool float_step (λ field. field.data_type)

-- a field of floating-point numbers stands in a schema
abbrev pub has_float : Schema → Bool
has_float schema = list_any (λ here. here) (map in_field schema.fields)
