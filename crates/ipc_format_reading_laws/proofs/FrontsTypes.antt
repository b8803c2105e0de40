-- A column of any type is read the same from the fronts of what is left of its batch's nodes and buffers.
use Rattle.std.proofs.Common.{◌∙◌, List, [], ◌∷◌, map, length, sym, ap₂, subst, add-zero}
use Rattle.std.specs.Int.{w32, w64}
use Rattle.std.specs.Str.{is_utf8}
use Rattle.std.specs.Prelude.{true}
use Rattle.ipc_format_laws.specs.columnar_memory.declared.DataType.{DataType, map-DataType}
use Rattle.ipc_format_laws.specs.columnar_memory.declared.DataType.TheOpen as layer
use Rattle.ipc_format_laws.specs.columnar_memory.declared.DataType.TheViews.{roll-DataType, roll-Field}
use Rattle.ipc_format_laws.specs.columnar_memory.declared.DataType.TheFolds.{para-Field, para-roll-DataType, para-roll-Field, ind-DataType}
use Rattle.ipc_format_laws.specs.columnar_memory.declared.Field.{Field, map-Field}
use Rattle.ipc_format_laws.specs.columnar_memory.declared.IntervalUnit.TheVariants as intervals
use Rattle.ipc_format_laws.specs.columnar_memory.declared.PrimitiveType.TheVariants as kinds
use Rattle.ipc_format_laws.specs.columns.Slots.{bytes, text}
use Rattle.ipc_format_laws.specs.grammar.Layouts.{before_V5, union_parts}
use Rattle.ipc_format_laws.specs.grammar.Columns.{Reader, read_step, read_field_step, slots_in}
use Rattle.ipc_format_laws.proofs.grammar_lemmas.Claims.{TypeWith, FieldWith, LayerWith, bare_layer}
use Rattle.ipc_format_reading_laws.specs.Fronts.{ColumnsReadAtFronts}
use Rattle.ipc_format_reading_laws.proofs.FrontsPlaces.{Moves}
use Rattle.ipc_format_reading_laws.proofs.FrontsColumns.{nulls_move, truths_move, numbers_move, fixed_bytes_move, bytes_move, keys_move, lists_move}
use Rattle.ipc_format_reading_laws.proofs.FrontsColumns.{fixed_lists_move, AllMove, structs_move, unions_move}

abbrev Layer : Type 0
Layer = layer.DataType-F DataType Field

abbrev read_field : Field → Reader
read_field = para-Field Reader Reader read_step read_field_step

abbrev TypeMoves : DataType → Type 0
TypeMoves t = Moves (slots_in t)

abbrev FieldMoves : Field → Type 0
FieldMoves u = Moves (read_field u)

-- a layer's claim is its type's
at_roll : (x : Layer)
    → Moves (read_step (map-DataType DataType Field (DataType × Reader) (Field × Reader) (λ t. (t, slots_in t)) (λ u. (u, read_field u)) x))
    → TypeMoves (roll-DataType x)
at_roll x h = rw (para-roll-DataType Reader Reader read_step read_field_step x) h

fields_move : (ys : List (FieldWith FieldMoves)) → AllMove (map (λ u. (u, read_field u)) (map (λ e. e.0) ys))
fields_move [] = tt
fields_move (y ∷ ys) = (y.1, fields_move ys)

type_step : (y : LayerWith TypeMoves FieldMoves) → TypeMoves (roll-DataType (bare_layer TypeMoves FieldMoves y))
type_step layer.Null = at_roll layer.Null nulls_move
type_step layer.Boolean = at_roll layer.Boolean truths_move
type_step layer.Int8 = at_roll layer.Int8 (numbers_move kinds.Int8)
type_step layer.Int16 = at_roll layer.Int16 (numbers_move kinds.Int16)
type_step layer.Int32 = at_roll layer.Int32 (numbers_move kinds.Int32)
type_step layer.Int64 = at_roll layer.Int64 (numbers_move kinds.Int64)
type_step layer.UInt8 = at_roll layer.UInt8 (numbers_move kinds.UInt8)
type_step layer.UInt16 = at_roll layer.UInt16 (numbers_move kinds.UInt16)
type_step layer.UInt32 = at_roll layer.UInt32 (numbers_move kinds.UInt32)
type_step layer.UInt64 = at_roll layer.UInt64 (numbers_move kinds.UInt64)
type_step layer.Float16 = at_roll layer.Float16 (numbers_move kinds.Float16)
type_step layer.Float32 = at_roll layer.Float32 (numbers_move kinds.Float32)
type_step layer.Float64 = at_roll layer.Float64 (numbers_move kinds.Float64)
type_step (layer.Timestamp unit timezone) = at_roll (layer.Timestamp unit timezone) (numbers_move kinds.Int64)
type_step layer.Date32 = at_roll layer.Date32 (numbers_move kinds.Int32)
type_step layer.Date64 = at_roll layer.Date64 (numbers_move kinds.Int64)
type_step (layer.Time32 unit) = at_roll (layer.Time32 unit) (numbers_move kinds.Int32)
type_step (layer.Time64 unit) = at_roll (layer.Time64 unit) (numbers_move kinds.Int64)
type_step (layer.Duration unit) = at_roll (layer.Duration unit) (numbers_move kinds.Int64)
type_step (layer.Interval intervals.YearMonth) = at_roll (layer.Interval intervals.YearMonth) (numbers_move kinds.Int32)
type_step (layer.Interval intervals.DayTime) = at_roll (layer.Interval intervals.DayTime) (numbers_move kinds.DaysMs)
type_step (layer.Interval intervals.MonthDayNano) = at_roll (layer.Interval intervals.MonthDayNano) (numbers_move kinds.MonthDayNano)
type_step (layer.Decimal precision scale) = at_roll (layer.Decimal precision scale) (numbers_move kinds.Int128)
type_step (layer.Decimal256 precision scale) = at_roll (layer.Decimal256 precision scale) (numbers_move kinds.Int256)
type_step (layer.FixedSizeBinary size) = at_roll (layer.FixedSizeBinary size) (fixed_bytes_move size)
type_step layer.Binary = at_roll layer.Binary (bytes_move w32 (λ piece. true) bytes)
type_step layer.LargeBinary = at_roll layer.LargeBinary (bytes_move w64 (λ piece. true) bytes)
type_step layer.Utf8 = at_roll layer.Utf8 (bytes_move w32 is_utf8 text)
type_step layer.LargeUtf8 = at_roll layer.LargeUtf8 (bytes_move w64 is_utf8 text)
type_step (layer.List item) = at_roll (layer.List item.0) (lists_move w32 item.0 (read_field item.0) item.1)
type_step (layer.LargeList item) = at_roll (layer.LargeList item.0) (lists_move w64 item.0 (read_field item.0) item.1)
type_step (layer.Map entry is_sorted) = at_roll (layer.Map entry.0 is_sorted) (lists_move w32 entry.0 (read_field entry.0) entry.1)
type_step (layer.FixedSizeList item size) = at_roll (layer.FixedSizeList item.0 size) (fixed_lists_move size item.0 (read_field item.0) item.1)
type_step (layer.Struct children) = at_roll (layer.Struct (map (λ e. e.0) children))
    (structs_move (map (λ u. (u, read_field u)) (map (λ e. e.0) children)) (fields_move children))
type_step (layer.Union children ids mode) = at_roll (layer.Union (map (λ e. e.0) children) ids mode)
    (λ i j at. unions_move (map (λ u. (u, read_field u)) (map (λ e. e.0) children)) (fields_move children) ids mode
    (length (before_V5 at.source.version)) (length (union_parts at.source.version mode)) i j at)
type_step (layer.Dictionary key value is_ordered) = at_roll (layer.Dictionary key value.0 is_ordered) (keys_move key value.0)
type_step (layer.Extension name inner metadata) = at_roll (layer.Extension name inner.0 metadata) inner.1

field_step : (x : layer.Field-F DataType Field) → TypeMoves x.data_type → FieldMoves (roll-Field x)
field_step x h = rw (para-roll-Field Reader Reader read_step read_field_step x) h

types_move : (t : DataType) → Moves (slots_in t)
types_move = ind-DataType TypeMoves FieldMoves (λ x y is. subst (λ (x : Layer). TypeMoves (roll-DataType x)) is (type_step y))
    (λ x y is. subst (λ (x : layer.Field-F DataType Field). FieldMoves (roll-Field x)) is
    (field_step (map-Field (TypeWith TypeMoves) (FieldWith FieldMoves) DataType Field (λ e. e.0) (λ e. e.0) y) y.data_type.1))

pub columns_read_at_fronts : ColumnsReadAtFronts
columns_read_at_fronts t at =
    ap₂ (λ n m. slots_in t (record at { node = n; buffer = m })) (sym (add-zero at.node)) (sym (add-zero at.buffer))
    ∙ types_move t at.node at.buffer (record at { node = 0; buffer = 0 })
