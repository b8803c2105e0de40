-- How a type whose arrays lie flat in memory is read, by its layout.
use Rattle.std.proofs.Common.{◌≡◌, map, refl, subst}
use Rattle.std.specs.Int.{w32, w64}
use Rattle.ipc_format_column_bytes.specs.streams.columnar_memory.Layouts.{physical_type, physical_step}
use Rattle.ipc_format_column_bytes.specs.streams.columnar_memory.declared.DataType.{DataType, map-DataType}
use Rattle.ipc_format_column_bytes.specs.streams.columnar_memory.declared.DataType.TheOpen as layer
use Rattle.ipc_format_column_bytes.specs.streams.columnar_memory.declared.DataType.TheViews.{roll-DataType}
use Rattle.ipc_format_column_bytes.specs.streams.columnar_memory.declared.DataType.TheFolds.{fold-Field, para-Field, fold-roll-DataType, para-roll-DataType}
use Rattle.ipc_format_column_bytes.specs.streams.columnar_memory.declared.DataType.TheFolds.{ind-DataType}
use Rattle.ipc_format_column_bytes.specs.streams.columnar_memory.declared.Field.{Field}
use Rattle.ipc_format_column_bytes.specs.streams.columnar_memory.declared.IntervalUnit.TheVariants as intervals
use Rattle.ipc_format_column_bytes.specs.streams.columnar_memory.declared.PhysicalType.{PhysicalType}
use Rattle.ipc_format_column_bytes.specs.streams.columnar_memory.declared.PhysicalType.TheVariants as physical
use Rattle.ipc_format_column_bytes.specs.streams.columnar_memory.declared.PrimitiveType.{PrimitiveType}
use Rattle.ipc_format_column_bytes.specs.streams.grammar.Columns.{Place, Reader, read_step, read_field_step, slots_in, truth_slots, number_slots}
use Rattle.ipc_format_column_bytes.specs.streams.grammar.Columns.{binary_slots, text_slots}

-- a type of a layout is read so
abbrev IsReadAs : PhysicalType → Reader → Type 0
IsReadAs physical.Boolean reader = (at : Place) → reader at ≡ truth_slots at
IsReadAs (physical.Primitive kind) reader = (at : Place) → reader at ≡ number_slots kind at
IsReadAs physical.Binary reader = (at : Place) → reader at ≡ binary_slots w32 at
IsReadAs physical.LargeBinary reader = (at : Place) → reader at ≡ binary_slots w64 at
IsReadAs physical.Utf8 reader = (at : Place) → reader at ≡ text_slots w32 at
IsReadAs physical.LargeUtf8 reader = (at : Place) → reader at ≡ text_slots w64 at
IsReadAs _ reader = Unit {0}

abbrev TypeHolds : DataType → Type 0
TypeHolds t = IsReadAs (physical_type t) (slots_in t)

abbrev Layer : Type 0
Layer = layer.DataType-F DataType Field

abbrev layout_field : Field → Unit {0}
layout_field = fold-Field PhysicalType (Unit {0}) physical_step (λ f. tt)

abbrev read_field : Field → Reader
read_field = para-Field Reader Reader read_step read_field_step

-- a layer's claim is its type's
at_roll : (x : Layer)
    → IsReadAs (physical_step (map-DataType DataType Field PhysicalType (Unit {0}) physical_type layout_field x))
    (read_step (map-DataType DataType Field (DataType × Reader) (Field × Reader) (λ t. (t, slots_in t)) (λ u. (u, read_field u)) x))
    → TypeHolds (roll-DataType x)
at_roll x h = rw (
  fold-roll-DataType PhysicalType (Unit {0}) physical_step (λ f. tt) x,
  para-roll-DataType Reader Reader read_step read_field_step x,
) h

abbrev D : Type 0
D = (t : DataType) × TypeHolds t

abbrev F : Type 0
F = (u : Field) × Unit {0}

type_step : (y : layer.DataType-F D F) → TypeHolds (roll-DataType (map-DataType D F DataType Field (λ e. e.0) (λ e. e.0) y))
type_step layer.Null = at_roll layer.Null tt
type_step layer.Boolean = at_roll layer.Boolean (λ at. refl)
type_step layer.Int8 = at_roll layer.Int8 (λ at. refl)
type_step layer.Int16 = at_roll layer.Int16 (λ at. refl)
type_step layer.Int32 = at_roll layer.Int32 (λ at. refl)
type_step layer.Int64 = at_roll layer.Int64 (λ at. refl)
type_step layer.UInt8 = at_roll layer.UInt8 (λ at. refl)
type_step layer.UInt16 = at_roll layer.UInt16 (λ at. refl)
type_step layer.UInt32 = at_roll layer.UInt32 (λ at. refl)
type_step layer.UInt64 = at_roll layer.UInt64 (λ at. refl)
type_step layer.Float16 = at_roll layer.Float16 (λ at. refl)
type_step layer.Float32 = at_roll layer.Float32 (λ at. refl)
type_step layer.Float64 = at_roll layer.Float64 (λ at. refl)
type_step (layer.Timestamp unit timezone) = at_roll (layer.Timestamp unit timezone) (λ at. refl)
type_step layer.Date32 = at_roll layer.Date32 (λ at. refl)
type_step layer.Date64 = at_roll layer.Date64 (λ at. refl)
type_step (layer.Time32 unit) = at_roll (layer.Time32 unit) (λ at. refl)
type_step (layer.Time64 unit) = at_roll (layer.Time64 unit) (λ at. refl)
type_step (layer.Duration unit) = at_roll (layer.Duration unit) (λ at. refl)
type_step (layer.Interval intervals.YearMonth) = at_roll (layer.Interval intervals.YearMonth) (λ at. refl)
type_step (layer.Interval intervals.DayTime) = at_roll (layer.Interval intervals.DayTime) (λ at. refl)
type_step (layer.Interval intervals.MonthDayNano) = at_roll (layer.Interval intervals.MonthDayNano) (λ at. refl)
type_step (layer.Decimal precision scale) = at_roll (layer.Decimal precision scale) (λ at. refl)
type_step (layer.Decimal256 precision scale) = at_roll (layer.Decimal256 precision scale) (λ at. refl)
type_step layer.Binary = at_roll layer.Binary (λ at. refl)
type_step layer.LargeBinary = at_roll layer.LargeBinary (λ at. refl)
type_step layer.Utf8 = at_roll layer.Utf8 (λ at. refl)
type_step layer.LargeUtf8 = at_roll layer.LargeUtf8 (λ at. refl)
type_step (layer.FixedSizeBinary size) = at_roll (layer.FixedSizeBinary size) tt
type_step (layer.List item) = at_roll (layer.List item.0) tt
type_step (layer.LargeList item) = at_roll (layer.LargeList item.0) tt
type_step (layer.FixedSizeList item size) = at_roll (layer.FixedSizeList item.0 size) tt
type_step (layer.Map entry is_sorted) = at_roll (layer.Map entry.0 is_sorted) tt
type_step (layer.Struct children) = at_roll (layer.Struct (map (λ e. e.0) children)) tt
type_step (layer.Union children ids mode) = at_roll (layer.Union (map (λ e. e.0) children) ids mode) tt
type_step (layer.Dictionary key value is_ordered) = at_roll (layer.Dictionary key value.0 is_ordered) tt
type_step (layer.Extension name inner metadata) = at_roll (layer.Extension name inner.0 metadata) inner.1

type_holds : (t : DataType) → TypeHolds t
type_holds = ind-DataType TypeHolds (λ u. Unit {0}) (λ x y is. subst (λ (x : Layer). TypeHolds (roll-DataType x)) is (type_step y))
    (λ x y is. tt)

-- a type of numbers of a kind
pub numbers_read : (t : DataType) (kind : PrimitiveType) → physical_type t ≡ physical.Primitive kind → (at : Place)
    → slots_in t at ≡ number_slots kind at
numbers_read t kind is = subst (λ (layout : PhysicalType). IsReadAs layout (slots_in t)) is (type_holds t)

pub truths_read : (t : DataType) → physical_type t ≡ physical.Boolean → (at : Place) → slots_in t at ≡ truth_slots at
truths_read t is = subst (λ (layout : PhysicalType). IsReadAs layout (slots_in t)) is (type_holds t)

pub binaries_read : (t : DataType) → physical_type t ≡ physical.Binary → (at : Place) → slots_in t at ≡ binary_slots w32 at
binaries_read t is = subst (λ (layout : PhysicalType). IsReadAs layout (slots_in t)) is (type_holds t)

pub large_binaries_read : (t : DataType) → physical_type t ≡ physical.LargeBinary → (at : Place) → slots_in t at ≡ binary_slots w64 at
large_binaries_read t is = subst (λ (layout : PhysicalType). IsReadAs layout (slots_in t)) is (type_holds t)

pub texts_read : (t : DataType) → physical_type t ≡ physical.Utf8 → (at : Place) → slots_in t at ≡ text_slots w32 at
texts_read t is = subst (λ (layout : PhysicalType). IsReadAs layout (slots_in t)) is (type_holds t)

pub large_texts_read : (t : DataType) → physical_type t ≡ physical.LargeUtf8 → (at : Place) → slots_in t at ≡ text_slots w64 at
large_texts_read t is = subst (λ (layout : PhysicalType). IsReadAs layout (slots_in t)) is (type_holds t)
