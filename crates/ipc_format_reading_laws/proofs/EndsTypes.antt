-- The windows that reading takes of a column of any type stand before an end where the batch's buffers do.
use Rattle.std.proofs.Common.{ℕ, List, [], ◌∷◌, map, length, refl, subst}
use Rattle.std.specs.Int.{w32, w64}
use Rattle.std.specs.Str.{is_utf8}
use Rattle.std.specs.Prelude.{true}
use Rattle.ipc_format_laws.specs.columnar_memory.declared.DataType.{DataType, map-DataType}
use Rattle.ipc_format_laws.specs.columnar_memory.declared.DataType.TheOpen as layer
use Rattle.ipc_format_laws.specs.columnar_memory.declared.DataType.TheViews.{roll-DataType, roll-Field}
use Rattle.ipc_format_laws.specs.columnar_memory.declared.DataType.TheFolds.{para-Field, para-roll-DataType, para-roll-Field, ind-DataType}
use Rattle.ipc_format_laws.specs.columnar_memory.declared.Field.{Field, map-Field}
use Rattle.ipc_format_laws.specs.columnar_memory.declared.IntervalUnit.TheVariants as intervals
use Rattle.ipc_format_laws.specs.columnar_memory.declared.PrimitiveType.TheVariants as kinds
use Rattle.ipc_format_laws.specs.columns.Slots.{bytes, text}
use Rattle.ipc_format_laws.specs.grammar.Layouts.{before_V5, union_parts}
use Rattle.ipc_format_laws.specs.grammar.Columns.{Reader, read_step, read_field_step, slots_in}
use Rattle.ipc_format_laws.specs.grammar.Windows.{Taker, take_step, take_field_step, windows_in}
use Rattle.ipc_format_laws.proofs.grammar_lemmas.Claims.{TypeWith, FieldWith, LayerWith, bare_layer}
use Rattle.ipc_format_reading_laws.proofs.EndsChildren.{lists_end, fixed_lists_end, AllEnd, structs_end, unions_end}
use Rattle.ipc_format_reading_laws.proofs.EndsColumns.{Ends, nulls_end, truths_end, numbers_end, fixed_bytes_end, bytes_end, keys_end}

abbrev Layer : Type 0
Layer = layer.DataType-F DataType Field

abbrev FieldLayer : Type 0
FieldLayer = layer.Field-F DataType Field

abbrev read_field : Field → Reader
read_field = para-Field Reader Reader read_step read_field_step

abbrev take_field : Field → Taker
take_field = para-Field Taker Taker take_step take_field_step

module _ (end : ℕ) where
  abbrev TypeEnds : DataType → Type 0
  TypeEnds t = Ends end (slots_in t) (windows_in t)

  abbrev FieldEnds : Field → Type 0
  FieldEnds u = Ends end (read_field u) (take_field u)

  -- what reads a layer, and what says which bytes it takes
  abbrev layer_reader : Layer → Reader
  layer_reader x = read_step (map-DataType DataType Field (DataType × Reader) (Field × Reader) (λ t. (t, slots_in t)) (λ u. (u, read_field u)) x)

  abbrev layer_taker : Layer → Taker
  layer_taker x = take_step (map-DataType DataType Field (DataType × Taker) (Field × Taker) (λ t. (t, windows_in t)) (λ u. (u, take_field u)) x)

  -- a layer's claim is its type's
  at_roll : (x : Layer) → Ends end (layer_reader x) (layer_taker x) → TypeEnds (roll-DataType x)
  at_roll x h = rw (para-roll-DataType Reader Reader read_step read_field_step x, para-roll-DataType Taker Taker take_step take_field_step x) h

  children_end : (ys : List (FieldWith FieldEnds))
      → AllEnd end (map (λ u. (u, read_field u)) (map (λ e. e.0) ys)) (map (λ u. (u, take_field u)) (map (λ e. e.0) ys))
  children_end [] = tt
  children_end (y ∷ ys) = ((refl, y.1), children_end ys)

  type_step : (y : LayerWith TypeEnds FieldEnds) → TypeEnds (roll-DataType (bare_layer TypeEnds FieldEnds y))
  type_step layer.Null = at_roll layer.Null (nulls_end end)
  type_step layer.Boolean = at_roll layer.Boolean (truths_end end)
  type_step layer.Int8 = at_roll layer.Int8 (numbers_end end kinds.Int8)
  type_step layer.Int16 = at_roll layer.Int16 (numbers_end end kinds.Int16)
  type_step layer.Int32 = at_roll layer.Int32 (numbers_end end kinds.Int32)
  type_step layer.Int64 = at_roll layer.Int64 (numbers_end end kinds.Int64)
  type_step layer.UInt8 = at_roll layer.UInt8 (numbers_end end kinds.UInt8)
  type_step layer.UInt16 = at_roll layer.UInt16 (numbers_end end kinds.UInt16)
  type_step layer.UInt32 = at_roll layer.UInt32 (numbers_end end kinds.UInt32)
  type_step layer.UInt64 = at_roll layer.UInt64 (numbers_end end kinds.UInt64)
  type_step layer.Float16 = at_roll layer.Float16 (numbers_end end kinds.Float16)
  type_step layer.Float32 = at_roll layer.Float32 (numbers_end end kinds.Float32)
  type_step layer.Float64 = at_roll layer.Float64 (numbers_end end kinds.Float64)
  type_step (layer.Timestamp unit timezone) = at_roll (layer.Timestamp unit timezone) (numbers_end end kinds.Int64)
  type_step layer.Date32 = at_roll layer.Date32 (numbers_end end kinds.Int32)
  type_step layer.Date64 = at_roll layer.Date64 (numbers_end end kinds.Int64)
  type_step (layer.Time32 unit) = at_roll (layer.Time32 unit) (numbers_end end kinds.Int32)
  type_step (layer.Time64 unit) = at_roll (layer.Time64 unit) (numbers_end end kinds.Int64)
  type_step (layer.Duration unit) = at_roll (layer.Duration unit) (numbers_end end kinds.Int64)
  type_step (layer.Interval intervals.YearMonth) = at_roll (layer.Interval intervals.YearMonth) (numbers_end end kinds.Int32)
  type_step (layer.Interval intervals.DayTime) = at_roll (layer.Interval intervals.DayTime) (numbers_end end kinds.DaysMs)
  type_step (layer.Interval intervals.MonthDayNano) = at_roll (layer.Interval intervals.MonthDayNano) (numbers_end end kinds.MonthDayNano)
  type_step (layer.Decimal precision scale) = at_roll (layer.Decimal precision scale) (numbers_end end kinds.Int128)
  type_step (layer.Decimal256 precision scale) = at_roll (layer.Decimal256 precision scale) (numbers_end end kinds.Int256)
  type_step (layer.FixedSizeBinary size) = at_roll (layer.FixedSizeBinary size) (fixed_bytes_end end size)
  type_step layer.Binary = at_roll layer.Binary (bytes_end end w32 (λ piece. true) bytes)
  type_step layer.LargeBinary = at_roll layer.LargeBinary (bytes_end end w64 (λ piece. true) bytes)
  type_step layer.Utf8 = at_roll layer.Utf8 (bytes_end end w32 is_utf8 text)
  type_step layer.LargeUtf8 = at_roll layer.LargeUtf8 (bytes_end end w64 is_utf8 text)
  type_step (layer.List item) = at_roll (layer.List item.0) (lists_end end w32 item.0 (read_field item.0) (take_field item.0) item.1)
  type_step (layer.LargeList item) = at_roll (layer.LargeList item.0) (lists_end end w64 item.0 (read_field item.0) (take_field item.0) item.1)
  type_step (layer.Map entry is_sorted) = at_roll (layer.Map entry.0 is_sorted)
      (lists_end end w32 entry.0 (read_field entry.0) (take_field entry.0) entry.1)
  type_step (layer.FixedSizeList item size) = at_roll (layer.FixedSizeList item.0 size)
      (fixed_lists_end end size item.0 (read_field item.0) (take_field item.0) item.1)
  type_step (layer.Struct children) = at_roll (layer.Struct (map (λ e. e.0) children))
      (structs_end end (map (λ u. (u, read_field u)) (map (λ e. e.0) children)) (map (λ u. (u, take_field u)) (map (λ e. e.0) children))
      (children_end children))
  type_step (layer.Union children numbers mode) = at_roll (layer.Union (map (λ e. e.0) children) numbers mode)
      (λ at standing ends some e. unions_end end (map (λ u. (u, read_field u)) (map (λ e. e.0) children))
      (map (λ u. (u, take_field u)) (map (λ e. e.0) children)) (children_end children) numbers mode
      (length (before_V5 at.source.version)) (length (union_parts at.source.version mode)) at standing ends some e)
  type_step (layer.Dictionary key value is_ordered) = at_roll (layer.Dictionary key value.0 is_ordered) (keys_end end key value.0)
  type_step (layer.Extension name inner metadata) = at_roll (layer.Extension name inner.0 metadata) inner.1

  field_step : (x : FieldLayer) → TypeEnds x.data_type → FieldEnds (roll-Field x)
  field_step x h = rw (para-roll-Field Reader Reader read_step read_field_step x, para-roll-Field Taker Taker take_step take_field_step x) h

  pub types_end : (t : DataType) → Ends end (slots_in t) (windows_in t)
  types_end = ind-DataType TypeEnds FieldEnds (λ x y is. subst (λ (x : Layer). TypeEnds (roll-DataType x)) is (type_step y))
      (λ x y is. subst (λ (x : FieldLayer). FieldEnds (roll-Field x)) is
      (field_step (map-Field (TypeWith TypeEnds) (FieldWith FieldEnds) DataType Field (λ e. e.0) (λ e. e.0) y) y.data_type.1))
