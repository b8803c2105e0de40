-- A column of any type reads the same in another room with the same bytes in the windows that it takes.
use Rattle.std.proofs.Common.{List, [], ◌∷◌, map, length, refl, subst}
use Rattle.std.specs.Int.{w32, w64}
use Rattle.std.specs.Str.{is_utf8}
use Rattle.std.specs.Prelude.{true}
use Rattle.ipc_format_laws.specs.columnar_memory.declared.DataType.{DataType, map-DataType}
use Rattle.ipc_format_laws.specs.columnar_memory.declared.DataType.TheOpen as layer
use Rattle.ipc_format_laws.specs.columnar_memory.declared.DataType.TheViews.{roll-DataType, roll-Field}
use Rattle.ipc_format_laws.specs.columnar_memory.declared.DataType.TheFolds.{para-Field, para-roll-DataType, para-roll-Field, ind-DataType}
use Rattle.ipc_format_laws.specs.columnar_memory.declared.Field.{Field, map-Field}
use Rattle.ipc_format_laws.specs.columnar_memory.declared.IntervalUnit.TheVariants as intervals
use Rattle.ipc_format_laws.specs.columnar_memory.declared.PrimitiveType.TheVariants as kinds
use Rattle.ipc_format_laws.specs.columns.Slots.{bytes, text}
use Rattle.ipc_format_laws.specs.grammar.Layouts.{before_V5, union_parts}
use Rattle.ipc_format_laws.specs.grammar.Columns.{Reader, read_step, read_field_step, slots_in}
use Rattle.ipc_format_laws.specs.grammar.Windows.{Taker, take_step, take_field_step, windows_in}
use Rattle.ipc_format_laws.proofs.grammar_lemmas.Claims.{TypeWith, FieldWith, LayerWith, bare_layer}
use Rattle.ipc_format_reading_laws.proofs.IsolatedColumns.{Isolated, nulls_isolated, truths_isolated, numbers_isolated, fixed_bytes_isolated}
use Rattle.ipc_format_reading_laws.proofs.IsolatedColumns.{bytes_isolated, keys_isolated}
use Rattle.ipc_format_reading_laws.proofs.IsolatedChildren.{lists_isolated, fixed_lists_isolated, AllIsolated, structs_isolated, unions_isolated}

abbrev Layer : Type 0
Layer = layer.DataType-F DataType Field

abbrev FieldLayer : Type 0
FieldLayer = layer.Field-F DataType Field

abbrev read_field : Field → Reader
read_field = para-Field Reader Reader read_step read_field_step

abbrev take_field : Field → Taker
take_field = para-Field Taker Taker take_step take_field_step

abbrev TypeIsolated : DataType → Type 0
TypeIsolated t = Isolated (slots_in t) (windows_in t)

abbrev FieldIsolated : Field → Type 0
FieldIsolated u = Isolated (read_field u) (take_field u)

-- what reads a layer, and what says which bytes it takes
abbrev layer_reader : Layer → Reader
layer_reader x = read_step (map-DataType DataType Field (DataType × Reader) (Field × Reader) (λ t. (t, slots_in t)) (λ u. (u, read_field u)) x)

abbrev layer_taker : Layer → Taker
layer_taker x = take_step (map-DataType DataType Field (DataType × Taker) (Field × Taker) (λ t. (t, windows_in t)) (λ u. (u, take_field u)) x)

-- a layer's claim is its type's
at_roll : (x : Layer) → Isolated (layer_reader x) (layer_taker x) → TypeIsolated (roll-DataType x)
at_roll x h = rw (para-roll-DataType Reader Reader read_step read_field_step x, para-roll-DataType Taker Taker take_step take_field_step x) h

children_isolated : (ys : List (FieldWith FieldIsolated))
    → AllIsolated (map (λ u. (u, read_field u)) (map (λ e. e.0) ys)) (map (λ u. (u, take_field u)) (map (λ e. e.0) ys))
children_isolated [] = tt
children_isolated (y ∷ ys) = ((refl, y.1), children_isolated ys)

type_step : (y : LayerWith TypeIsolated FieldIsolated) → TypeIsolated (roll-DataType (bare_layer TypeIsolated FieldIsolated y))
type_step layer.Null = at_roll layer.Null nulls_isolated
type_step layer.Boolean = at_roll layer.Boolean truths_isolated
type_step layer.Int8 = at_roll layer.Int8 (numbers_isolated kinds.Int8)
type_step layer.Int16 = at_roll layer.Int16 (numbers_isolated kinds.Int16)
type_step layer.Int32 = at_roll layer.Int32 (numbers_isolated kinds.Int32)
type_step layer.Int64 = at_roll layer.Int64 (numbers_isolated kinds.Int64)
type_step layer.UInt8 = at_roll layer.UInt8 (numbers_isolated kinds.UInt8)
type_step layer.UInt16 = at_roll layer.UInt16 (numbers_isolated kinds.UInt16)
type_step layer.UInt32 = at_roll layer.UInt32 (numbers_isolated kinds.UInt32)
type_step layer.UInt64 = at_roll layer.UInt64 (numbers_isolated kinds.UInt64)
type_step layer.Float16 = at_roll layer.Float16 (numbers_isolated kinds.Float16)
type_step layer.Float32 = at_roll layer.Float32 (numbers_isolated kinds.Float32)
type_step layer.Float64 = at_roll layer.Float64 (numbers_isolated kinds.Float64)
type_step (layer.Timestamp unit timezone) = at_roll (layer.Timestamp unit timezone) (numbers_isolated kinds.Int64)
type_step layer.Date32 = at_roll layer.Date32 (numbers_isolated kinds.Int32)
type_step layer.Date64 = at_roll layer.Date64 (numbers_isolated kinds.Int64)
type_step (layer.Time32 unit) = at_roll (layer.Time32 unit) (numbers_isolated kinds.Int32)
type_step (layer.Time64 unit) = at_roll (layer.Time64 unit) (numbers_isolated kinds.Int64)
type_step (layer.Duration unit) = at_roll (layer.Duration unit) (numbers_isolated kinds.Int64)
type_step (layer.Interval intervals.YearMonth) = at_roll (layer.Interval intervals.YearMonth) (numbers_isolated kinds.Int32)
type_step (layer.Interval intervals.DayTime) = at_roll (layer.Interval intervals.DayTime) (numbers_isolated kinds.DaysMs)
type_step (layer.Interval intervals.MonthDayNano) = at_roll (layer.Interval intervals.MonthDayNano) (numbers_isolated kinds.MonthDayNano)
type_step (layer.Decimal precision scale) = at_roll (layer.Decimal precision scale) (numbers_isolated kinds.Int128)
type_step (layer.Decimal256 precision scale) = at_roll (layer.Decimal256 precision scale) (numbers_isolated kinds.Int256)
type_step (layer.FixedSizeBinary size) = at_roll (layer.FixedSizeBinary size) (fixed_bytes_isolated size)
type_step layer.Binary = at_roll layer.Binary (bytes_isolated w32 (λ piece. true) bytes)
type_step layer.LargeBinary = at_roll layer.LargeBinary (bytes_isolated w64 (λ piece. true) bytes)
type_step layer.Utf8 = at_roll layer.Utf8 (bytes_isolated w32 is_utf8 text)
type_step layer.LargeUtf8 = at_roll layer.LargeUtf8 (bytes_isolated w64 is_utf8 text)
type_step (layer.List item) = at_roll (layer.List item.0) (lists_isolated w32 item.0 (read_field item.0) (take_field item.0) item.1)
type_step (layer.LargeList item) = at_roll (layer.LargeList item.0) (lists_isolated w64 item.0 (read_field item.0) (take_field item.0) item.1)
type_step (layer.Map entry is_sorted) = at_roll (layer.Map entry.0 is_sorted)
    (lists_isolated w32 entry.0 (read_field entry.0) (take_field entry.0) entry.1)
type_step (layer.FixedSizeList item size) = at_roll (layer.FixedSizeList item.0 size)
    (fixed_lists_isolated size item.0 (read_field item.0) (take_field item.0) item.1)
type_step (layer.Struct children) = at_roll (layer.Struct (map (λ e. e.0) children))
    (structs_isolated (map (λ u. (u, read_field u)) (map (λ e. e.0) children)) (map (λ u. (u, take_field u)) (map (λ e. e.0) children))
    (children_isolated children))
type_step (layer.Union children numbers mode) = at_roll (layer.Union (map (λ e. e.0) children) numbers mode)
    (λ at standing now more room some same e. unions_isolated (map (λ u. (u, read_field u)) (map (λ e. e.0) children))
    (map (λ u. (u, take_field u)) (map (λ e. e.0) children)) (children_isolated children) numbers mode
    (length (before_V5 at.source.version)) (length (union_parts at.source.version mode)) at standing now more room some same e)
type_step (layer.Dictionary key value is_ordered) = at_roll (layer.Dictionary key value.0 is_ordered) (keys_isolated key value.0)
type_step (layer.Extension name inner metadata) = at_roll (layer.Extension name inner.0 metadata) inner.1

field_step : (x : FieldLayer) → TypeIsolated x.data_type → FieldIsolated (roll-Field x)
field_step x h = rw (para-roll-Field Reader Reader read_step read_field_step x, para-roll-Field Taker Taker take_step take_field_step x) h

pub types_isolated : (t : DataType) → Isolated (slots_in t) (windows_in t)
types_isolated = ind-DataType TypeIsolated FieldIsolated (λ x y is. subst (λ (x : Layer). TypeIsolated (roll-DataType x)) is (type_step y))
    (λ x y is. subst (λ (x : FieldLayer). FieldIsolated (roll-Field x)) is
    (field_step (map-Field (TypeWith TypeIsolated) (FieldWith FieldIsolated) DataType Field (λ e. e.0) (λ e. e.0) y) y.data_type.1))
