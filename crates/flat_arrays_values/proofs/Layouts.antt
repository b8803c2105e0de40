-- The layout of the plainest types.
use Rattle.std.proofs.Common.{◌≡◌}
use denote.Hole.Carrier
use Rattle.columnar_memory_core.specs.declared.PhysicalType.{PhysicalType}
use Rattle.columnar_memory_core.specs.declared.PhysicalType.TheVariants as layouts
use Rattle.columnar_memory_core.specs.declared.PrimitiveType.{PrimitiveType}
use Rattle.columnar_memory_core.specs.declared.PrimitiveType.TheVariants as kinds
use Rattle.columnar_memory_core.specs.declared.IntervalUnit.TheVariants as intervals
use Rattle.columnar_memory_core.specs.declared.DataType.{DataType, map-DataType}
use Rattle.columnar_memory_core.specs.declared.Field.{Field}
use Rattle.columnar_memory_core.specs.declared.DataType.TheVariants as types
use Rattle.columnar_memory_core.specs.declared.DataType.TheOpen as layer
use Rattle.columnar_memory_core.specs.declared.DataType.TheViews.{roll-DataType}
use Rattle.columnar_memory_core.specs.declared.DataType.TheFolds.{fold-Field, fold-roll-DataType}
use Rattle.columnar_memory_core.specs.Conversions.{type_of_primitive}
use Rattle.columnar_memory_core.specs.Layouts.{physical_step, physical_type}

-- how one layer of a type lies in memory
step : (x : layer.DataType-F DataType Field) → physical_type (roll-DataType x) ≡ physical_step (map-DataType DataType Field PhysicalType (Unit {0})
    physical_type (fold-Field PhysicalType (Unit {0}) physical_step (λ f. tt)) x)
step = fold-roll-DataType PhysicalType (Unit {0}) physical_step (λ f. tt)

pub plainest_layout : (kind : PrimitiveType) → physical_type (type_of_primitive kind) ≡ layouts.Primitive kind
unfolding roll-DataType denote.Hole.Carrier.roll
plainest_layout kinds.Int8 = step layer.Int8
plainest_layout kinds.Int16 = step layer.Int16
plainest_layout kinds.Int32 = step layer.Int32
plainest_layout kinds.Int64 = step layer.Int64
plainest_layout kinds.Int128 = step (layer.Decimal 32 32)
plainest_layout kinds.Int256 = step (layer.Decimal256 32 32)
plainest_layout kinds.UInt8 = step layer.UInt8
plainest_layout kinds.UInt16 = step layer.UInt16
plainest_layout kinds.UInt32 = step layer.UInt32
plainest_layout kinds.UInt64 = step layer.UInt64
plainest_layout kinds.Float16 = step layer.Float16
plainest_layout kinds.Float32 = step layer.Float32
plainest_layout kinds.Float64 = step layer.Float64
plainest_layout kinds.DaysMs = step (layer.Interval intervals.DayTime)
plainest_layout kinds.MonthDayNano = step (layer.Interval intervals.MonthDayNano)

-- booleans lie in memory as bits
pub boolean_layout : physical_type types.Boolean ≡ layouts.Boolean
unfolding roll-DataType denote.Hole.Carrier.roll
boolean_layout = step layer.Boolean

pub ruleset plainest = (plainest_layout, boolean_layout)
