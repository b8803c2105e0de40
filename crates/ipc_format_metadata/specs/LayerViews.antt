-- The layers of types as the definitions have them.
use Rattle.ipc_format_grammar.specs.columnar_memory.declared.DataType.TheVariants as types
use Rattle.ipc_format_grammar.specs.Types as format
use Rattle.ipc_format_metadata.specs.declared.layers.Layer.{Layer}
use Rattle.ipc_format_metadata.specs.declared.layers.Layer.TheVariants as layers
use Rattle.ipc_format_metadata.specs.declared.layers.OverField.{OverField}
use Rattle.ipc_format_metadata.specs.declared.layers.OverField.TheVariants as one
use Rattle.ipc_format_metadata.specs.declared.layers.OverFields.{OverFields}
use Rattle.ipc_format_metadata.specs.declared.layers.OverFields.TheVariants as some
use Rattle.ipc_format_metadata.specs.declared.layers.UnionTable.{UnionTable}
use Rattle.ipc_format_grammar.specs.columnar_memory.declared.DataType.{DataType}
use Rattle.ipc_format_grammar.specs.columnar_memory.declared.Field.{Field}
use Rattle.std.specs.Prelude.{List}
use Rattle.ipc_format_metadata.specs.Parts as parts

abbrev pub union_view : UnionTable → format.UnionTable
union_view table = record { mode = table.mode; ids = table.ids }

-- the type over a field
abbrev pub over_field : OverField → Field → DataType
over_field one.List = types.List
over_field one.LargeList = types.LargeList
over_field (one.FixedSizeList size) = λ item. types.FixedSizeList item size
over_field (one.Map is_sorted) = λ entry. types.Map entry is_sorted

-- the type over some fields
abbrev pub over_fields : OverFields → List Field → DataType
over_fields some.Struct = types.Struct
over_fields (some.Union table) = λ fields. types.Union fields table.ids table.mode

abbrev pub layer_view : Layer → parts.Layer
layer_view (layers.Flat data_type) = parts.flat data_type
layer_view (layers.Over layer) = parts.over (over_field layer)
layer_view (layers.OverAll layer) = parts.over_all (over_fields layer)
