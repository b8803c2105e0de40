-- A column of any type is read the same at places that stand alike.
use Rattle.std.proofs.Common.{List, [], ◌∷◌, map, length, subst}
use Rattle.std.specs.Int.{w32, w64}
use Rattle.std.specs.Str.{is_utf8}
use Rattle.std.specs.Prelude.{true}
use Rattle.ipc_format_array_reading.specs.columnar_memory.declared.DataType.{DataType, map-DataType}
use Rattle.ipc_format_array_reading.specs.columnar_memory.declared.DataType.TheOpen as layer
use Rattle.ipc_format_array_reading.specs.columnar_memory.declared.DataType.TheViews.{roll-DataType, roll-Field}
use Rattle.ipc_format_array_reading.specs.columnar_memory.declared.DataType.TheFolds.{para-Field, para-roll-DataType, para-roll-Field, ind-DataType}
use Rattle.ipc_format_array_reading.specs.columnar_memory.declared.Field.{Field, map-Field}
use Rattle.ipc_format_array_reading.specs.columnar_memory.declared.IntervalUnit.TheVariants as intervals
use Rattle.ipc_format_array_reading.specs.columnar_memory.declared.PrimitiveType.TheVariants as kinds
use Rattle.ipc_format_array_reading.specs.columns.Slots.{bytes, text}
use Rattle.ipc_format_array_reading.specs.grammar.Layouts.{before_V5, union_parts}
use Rattle.ipc_format_array_reading.specs.grammar.Columns.{Reader, read_step, read_field_step, slots_in}
use Rattle.ipc_format_array_reading.proofs.Claims.{TypeWith, FieldWith, LayerWith, bare_layer}
use Rattle.ipc_format_reading.proofs.AlikePlaces.{Agrees}
use Rattle.ipc_format_reading.proofs.AlikeColumns.{nulls_agree, truths_agree, numbers_agree, fixed_bytes_agree, bytes_agree, keys_agree}
use Rattle.ipc_format_reading.proofs.AlikeColumns.{lists_agree, fixed_lists_agree, AllAgree, structs_agree, unions_agree}

abbrev Layer : Type 0
Layer = layer.DataType-F DataType Field

abbrev read_field : Field → Reader
read_field = para-Field Reader Reader read_step read_field_step

abbrev TypeAgrees : DataType → Type 0
TypeAgrees t = Agrees (slots_in t)

abbrev FieldAgrees : Field → Type 0
FieldAgrees u = Agrees (read_field u)

-- a layer's claim is its type's
at_roll : (x : Layer)
    → Agrees (read_step (map-DataType DataType Field (DataType × Reader) (Field × Reader) (λ t. (t, slots_in t)) (λ u. (u, read_field u)) x))
    → TypeAgrees (roll-DataType x)
at_roll x h = rw (para-roll-DataType Reader Reader read_step read_field_step x) h

fields_agree : (ys : List (FieldWith FieldAgrees)) → AllAgree (map (λ u. (u, read_field u)) (map (λ e. e.0) ys))
fields_agree [] = tt
fields_agree (y ∷ ys) = (y.1, fields_agree ys)

type_step : (y : LayerWith TypeAgrees FieldAgrees) → TypeAgrees (roll-DataType (bare_layer TypeAgrees FieldAgrees y))
type_step layer.Null = at_roll layer.Null nulls_agree
type_step layer.Boolean = at_roll layer.Boolean truths_agree
type_step layer.Int8 = at_roll layer.Int8 (numbers_agree kinds.Int8)
type_step layer.Int16 = at_roll layer.Int16 (numbers_agree kinds.Int16)
type_step layer.Int32 = at_roll layer.Int32 (numbers_agree kinds.Int32)
type_step layer.Int64 = at_roll layer.Int64 (numbers_agree kinds.Int64)
type_step layer.UInt8 = at_roll layer.UInt8 (numbers_agree kinds.UInt8)
type_step layer.UInt16 = at_roll layer.UInt16 (numbers_agree kinds.UInt16)
type_step layer.UInt32 = at_roll layer.UInt32 (numbers_agree kinds.UInt32)
type_step layer.UInt64 = at_roll layer.UInt64 (numbers_agree kinds.UInt64)
type_step layer.Float16 = at_roll layer.Float16 (numbers_agree kinds.Float16)
type_step layer.Float32 = at_roll layer.Float32 (numbers_agree kinds.Float32)
type_step layer.Float64 = at_roll layer.Float64 (numbers_agree kinds.Float64)
type_step (layer.Timestamp unit timezone) = at_roll (layer.Timestamp unit timezone) (numbers_agree kinds.Int64)
type_step layer.Date32 = at_roll layer.Date32 (numbers_agree kinds.Int32)
type_step layer.Date64 = at_roll layer.Date64 (numbers_agree kinds.Int64)
type_step (layer.Time32 unit) = at_roll (layer.Time32 unit) (numbers_agree kinds.Int32)
type_step (layer.Time64 unit) = at_roll (layer.Time64 unit) (numbers_agree kinds.Int64)
type_step (layer.Duration unit) = at_roll (layer.Duration unit) (numbers_agree kinds.Int64)
type_step (layer.Interval intervals.YearMonth) = at_roll (layer.Interval intervals.YearMonth) (numbers_agree kinds.Int32)
type_step (layer.Interval intervals.DayTime) = at_roll (layer.Interval intervals.DayTime) (numbers_agree kinds.DaysMs)
type_step (layer.Interval intervals.MonthDayNano) = at_roll (layer.Interval intervals.MonthDayNano) (numbers_agree kinds.MonthDayNano)
type_step (layer.Decimal precision scale) = at_roll (layer.Decimal precision scale) (numbers_agree kinds.Int128)
type_step (layer.Decimal256 precision scale) = at_roll (layer.Decimal256 precision scale) (numbers_agree kinds.Int256)
type_step (layer.FixedSizeBinary size) = at_roll (layer.FixedSizeBinary size) (fixed_bytes_agree size)
type_step layer.Binary = at_roll layer.Binary (bytes_agree w32 (λ piece. true) bytes)
type_step layer.LargeBinary = at_roll layer.LargeBinary (bytes_agree w64 (λ piece. true) bytes)
type_step layer.Utf8 = at_roll layer.Utf8 (bytes_agree w32 is_utf8 text)
type_step layer.LargeUtf8 = at_roll layer.LargeUtf8 (bytes_agree w64 is_utf8 text)
type_step (layer.List item) = at_roll (layer.List item.0) (lists_agree w32 item.0 (read_field item.0) item.1)
type_step (layer.LargeList item) = at_roll (layer.LargeList item.0) (lists_agree w64 item.0 (read_field item.0) item.1)
type_step (layer.Map entry is_sorted) = at_roll (layer.Map entry.0 is_sorted) (lists_agree w32 entry.0 (read_field entry.0) entry.1)
type_step (layer.FixedSizeList item size) = at_roll (layer.FixedSizeList item.0 size) (fixed_lists_agree size item.0 (read_field item.0) item.1)
type_step (layer.Struct children) = at_roll (layer.Struct (map (λ e. e.0) children))
    (structs_agree (map (λ u. (u, read_field u)) (map (λ e. e.0) children)) (fields_agree children))
type_step (layer.Union children ids mode) = at_roll (layer.Union (map (λ e. e.0) children) ids mode)
    (λ at spot alike. unions_agree (map (λ u. (u, read_field u)) (map (λ e. e.0) children)) (fields_agree children) ids mode
    (length (before_V5 at.source.version)) (length (union_parts at.source.version mode)) at spot alike)
type_step (layer.Dictionary key value is_ordered) = at_roll (layer.Dictionary key value.0 is_ordered) (keys_agree key value.0)
type_step (layer.Extension name inner metadata) = at_roll (layer.Extension name inner.0 metadata) inner.1

field_step : (x : layer.Field-F DataType Field) → TypeAgrees x.data_type → FieldAgrees (roll-Field x)
field_step x h = rw (para-roll-Field Reader Reader read_step read_field_step x) h

pub types_agree : (t : DataType) → Agrees (slots_in t)
types_agree = ind-DataType TypeAgrees FieldAgrees (λ x y is. subst (λ (x : Layer). TypeAgrees (roll-DataType x)) is (type_step y))
    (λ x y is. subst (λ (x : layer.Field-F DataType Field). FieldAgrees (roll-Field x)) is
    (field_step (map-Field (TypeWith TypeAgrees) (FieldWith FieldAgrees) DataType Field (λ e. e.0) (λ e. e.0) y) y.data_type.1))
