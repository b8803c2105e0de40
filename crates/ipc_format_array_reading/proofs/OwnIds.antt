-- The own id of a field, and the type of an array of keys.
use Rattle.std.proofs.Common.{◌≡◌, ◌∙◌, sym, ap}
use Rattle.std.specs.Prelude.{Bool, ℤ, Option}
use denote.Hole.Carrier
use Rattle.ipc_format_column_writing.specs.columnar_memory.Conversions.{type_of_primitive}
use Rattle.ipc_format_column_writing.specs.columnar_memory.Layouts.{physical_step, physical_type}
use Rattle.ipc_format_column_writing.specs.columnar_memory.declared.DataType.{DataType, map-DataType}
use Rattle.ipc_format_column_writing.specs.columnar_memory.declared.DataType.TheFolds.{fold-Field, fold-roll-DataType}
use Rattle.ipc_format_column_writing.specs.columnar_memory.declared.DataType.TheOpen as layer
use Rattle.ipc_format_column_writing.specs.columnar_memory.declared.DataType.TheViews.{roll-DataType}
use Rattle.ipc_format_column_writing.specs.columnar_memory.declared.Field.{Field}
use Rattle.ipc_format_column_writing.specs.columnar_memory.declared.IntervalUnit.TheVariants as intervals
use Rattle.ipc_format_column_writing.specs.columnar_memory.declared.PhysicalType.{PhysicalType}
use Rattle.ipc_format_column_writing.specs.columnar_memory.declared.PhysicalType.TheVariants as physical
use Rattle.ipc_format_column_writing.specs.columnar_memory.declared.PrimitiveType.{PrimitiveType}
use Rattle.ipc_format_column_writing.specs.columnar_memory.declared.PrimitiveType.TheVariants as kinds
use Rattle.ipc_format_column_writing.specs.grammar.Columns.{own_id}
use Rattle.ipc_format_column_writing.specs.grammar.Schemas.{Ids}
use Rattle.ipc_format_column_writing.specs.metadata.Views.{ids_step, ids_view}
use Rattle.ipc_format_column_writing.specs.metadata.declared.ipc_schema.IpcField.{IpcField}
use Rattle.ipc_format_column_writing.specs.metadata.declared.ipc_schema.IpcField.TheFolds.{fold-roll-IpcField}
use Rattle.ipc_format_column_writing.specs.metadata.declared.ipc_schema.IpcField.TheViews.{out-IpcField}
use Rattle.ipc_format_column_writing.specs.metadata.declared.ipc_schema.IpcField.TheViews.{roll-IpcField, roll-out-IpcField}

-- the own id beside a field
pub own_id_is : (field : IpcField) → own_id (ids_view field) ≡ (out-IpcField field).dictionary_id
unfolding roll-IpcField denote.Hole.Carrier.roll
own_id_is field = ap own_id (ap ids_view (sym (roll-out-IpcField field)) ∙ fold-roll-IpcField Ids ids_step (out-IpcField field))

-- how one layer of a type lies in memory
step : (x : layer.DataType-F DataType Field) → physical_type (roll-DataType x) ≡ physical_step (map-DataType DataType Field PhysicalType (Unit {0})
    physical_type (fold-Field PhysicalType (Unit {0}) physical_step (λ f. tt)) x)
step = fold-roll-DataType PhysicalType (Unit {0}) physical_step (λ f. tt)

-- the plainest type of a kind lies as the kind does
pub plainest_layout : (kind : PrimitiveType) → physical_type (type_of_primitive kind) ≡ physical.Primitive kind
unfolding roll-DataType denote.Hole.Carrier.roll
plainest_layout kinds.Int8 = step layer.Int8
plainest_layout kinds.Int16 = step layer.Int16
plainest_layout kinds.Int32 = step layer.Int32
plainest_layout kinds.Int64 = step layer.Int64
plainest_layout kinds.Int128 = step (layer.Decimal 32 32)
plainest_layout kinds.Int256 = step (layer.Decimal256 32 32)
plainest_layout kinds.UInt8 = step layer.UInt8
plainest_layout kinds.UInt16 = step layer.UInt16
plainest_layout kinds.UInt32 = step layer.UInt32
plainest_layout kinds.UInt64 = step layer.UInt64
plainest_layout kinds.Float16 = step layer.Float16
plainest_layout kinds.Float32 = step layer.Float32
plainest_layout kinds.Float64 = step layer.Float64
plainest_layout kinds.DaysMs = step (layer.Interval intervals.DayTime)
plainest_layout kinds.MonthDayNano = step (layer.Interval intervals.MonthDayNano)
