-- What is read by a type, its normal form reads, where what a union picks names the normal form of its child's type.
use Rattle.std.proofs.Common.{◌≡◌, ◌∙◌, List, [], ◌∷◌, length, map, refl, sym, ap, subst}
use Rattle.std.specs.Prelude.{true}
use Rattle.std.specs.Int.{w32, w64}
use Rattle.std.specs.Str.{is_utf8}
use denote.Hole.Carrier
use Rattle.ipc_format_laws.specs.columnar_memory.declared.DataType.{DataType, map-DataType}
use Rattle.ipc_format_laws.specs.columnar_memory.declared.DataType.TheOpen as layer
use Rattle.ipc_format_laws.specs.columnar_memory.declared.DataType.TheViews.{roll-DataType, roll-Field}
use Rattle.ipc_format_laws.specs.columnar_memory.declared.DataType.TheFolds.{para-Field, fold-roll-DataType, fold-roll-Field, para-roll-DataType, para-roll-Field}
use Rattle.ipc_format_laws.specs.columnar_memory.declared.DataType.TheFolds.{ind-DataType}
use Rattle.ipc_format_laws.specs.columnar_memory.declared.Field.{Field, map-Field}
use Rattle.ipc_format_laws.specs.columnar_memory.declared.IntervalUnit.TheVariants as intervals
use Rattle.ipc_format_laws.specs.columnar_memory.declared.PrimitiveType.TheVariants as kinds
use Rattle.ipc_format_laws.specs.columns.Slots.{bytes, text}
use Rattle.ipc_format_laws.specs.grammar.Layouts.{before_V5, union_parts}
use Rattle.ipc_format_laws.specs.grammar.Writable.{normalised_type, normalised_step, normalised_pairs}
use Rattle.ipc_format_laws.specs.grammar.Columns.{Reader, read_step, read_field_step, slots_in}
use Rattle.ipc_format_laws.proofs.grammar_lemmas.Claims.{TypeWith, FieldWith, LayerWith, bare_layer}
use Rattle.ipc_format_laws.proofs.grammar_lemmas.NormalReports.{normal_field}
use Rattle.ipc_format_reading_laws.specs.NormalSlots.{among_normal, NormalTypesRead}
use Rattle.ipc_format_reading_laws.proofs.NormalColumns.{ReadsNormal, nulls_normal, truths_normal, numbers_normal, fixed_bytes_normal, bytes_normal}
use Rattle.ipc_format_reading_laws.proofs.NormalColumns.{keys_normal}
use Rattle.ipc_format_reading_laws.proofs.NormalChildren.{NormalChild, AllNormal, lists_normal, fixed_lists_normal, structs_normal, unions_normal}

abbrev Layer : Type 0
Layer = layer.DataType-F DataType Field

abbrev FieldLayer : Type 0
FieldLayer = layer.Field-F DataType Field

abbrev read_field : Field → Reader
read_field = para-Field Reader Reader read_step read_field_step

-- a field with what reads it, and its normal form
abbrev child : Field → Field × Reader
child u = (u, read_field u)

abbrev normal_child : Field → Field × Reader
normal_child u = (normal_field u, read_field (normal_field u))

abbrev TypeReads : DataType → Type 0
TypeReads t = ReadsNormal (slots_in t) (slots_in (normalised_type t))

abbrev FieldReads : Field → Type 0
FieldReads u = NormalChild (child u) (normal_child u)

-- what reads a layer
abbrev layer_reader : Layer → Reader
layer_reader x = read_step (map-DataType DataType Field (DataType × Reader) (Field × Reader) (λ t. (t, slots_in t)) (λ u. (u, read_field u)) x)

abbrev normal_layer : Layer → Layer
normal_layer x = map-DataType DataType Field DataType Field normalised_type normal_field x

-- a layer's claim is its type's
at_roll : (x : Layer) → ReadsNormal (layer_reader x) (layer_reader (normal_layer x)) → TypeReads (roll-DataType x)
at_roll x h at some e =
    let reader : slots_in (roll-DataType x) ≡ layer_reader x = para-roll-DataType Reader Reader read_step read_field_step x in
    let normal : slots_in (normalised_type (roll-DataType x)) ≡ layer_reader (normal_layer x) =
    ap slots_in (fold-roll-DataType DataType Field roll-DataType normalised_step x)
    ∙ para-roll-DataType Reader Reader read_step read_field_step (normal_layer x) in
    ap (λ (r : Reader). r (among_normal at)) normal ∙ h at some (sym (ap (λ (r : Reader). r at) reader) ∙ e)

children_read : (ys : List (FieldWith FieldReads))
    → AllNormal (map (λ u. (u, read_field u)) (map (λ e. e.0) ys)) (map (λ u. (u, read_field u)) (map normal_field (map (λ e. e.0) ys)))
children_read [] = tt
children_read (y ∷ ys) = (y.1, children_read ys)

type_step : (y : LayerWith TypeReads FieldReads) → TypeReads (roll-DataType (bare_layer TypeReads FieldReads y))
type_step layer.Null = at_roll layer.Null nulls_normal
type_step layer.Boolean = at_roll layer.Boolean truths_normal
type_step layer.Int8 = at_roll layer.Int8 (numbers_normal kinds.Int8)
type_step layer.Int16 = at_roll layer.Int16 (numbers_normal kinds.Int16)
type_step layer.Int32 = at_roll layer.Int32 (numbers_normal kinds.Int32)
type_step layer.Int64 = at_roll layer.Int64 (numbers_normal kinds.Int64)
type_step layer.UInt8 = at_roll layer.UInt8 (numbers_normal kinds.UInt8)
type_step layer.UInt16 = at_roll layer.UInt16 (numbers_normal kinds.UInt16)
type_step layer.UInt32 = at_roll layer.UInt32 (numbers_normal kinds.UInt32)
type_step layer.UInt64 = at_roll layer.UInt64 (numbers_normal kinds.UInt64)
type_step layer.Float16 = at_roll layer.Float16 (numbers_normal kinds.Float16)
type_step layer.Float32 = at_roll layer.Float32 (numbers_normal kinds.Float32)
type_step layer.Float64 = at_roll layer.Float64 (numbers_normal kinds.Float64)
type_step (layer.Timestamp unit timezone) = at_roll (layer.Timestamp unit timezone) (numbers_normal kinds.Int64)
type_step layer.Date32 = at_roll layer.Date32 (numbers_normal kinds.Int32)
type_step layer.Date64 = at_roll layer.Date64 (numbers_normal kinds.Int64)
type_step (layer.Time32 unit) = at_roll (layer.Time32 unit) (numbers_normal kinds.Int32)
type_step (layer.Time64 unit) = at_roll (layer.Time64 unit) (numbers_normal kinds.Int64)
type_step (layer.Duration unit) = at_roll (layer.Duration unit) (numbers_normal kinds.Int64)
type_step (layer.Interval intervals.YearMonth) = at_roll (layer.Interval intervals.YearMonth) (numbers_normal kinds.Int32)
type_step (layer.Interval intervals.DayTime) = at_roll (layer.Interval intervals.DayTime) (numbers_normal kinds.DaysMs)
type_step (layer.Interval intervals.MonthDayNano) = at_roll (layer.Interval intervals.MonthDayNano) (numbers_normal kinds.MonthDayNano)
type_step (layer.Decimal precision scale) = at_roll (layer.Decimal precision scale) (numbers_normal kinds.Int128)
type_step (layer.Decimal256 precision scale) = at_roll (layer.Decimal256 precision scale) (numbers_normal kinds.Int256)
type_step (layer.FixedSizeBinary size) = at_roll (layer.FixedSizeBinary size) (fixed_bytes_normal size)
type_step layer.Binary = at_roll layer.Binary (bytes_normal w32 (λ piece. true) bytes (λ piece. refl))
type_step layer.LargeBinary = at_roll layer.LargeBinary (bytes_normal w64 (λ piece. true) bytes (λ piece. refl))
type_step layer.Utf8 = at_roll layer.Utf8 (bytes_normal w32 is_utf8 text (λ piece. refl))
type_step layer.LargeUtf8 = at_roll layer.LargeUtf8 (bytes_normal w64 is_utf8 text (λ piece. refl))
type_step (layer.List item) = at_roll (layer.List item.0) (lists_normal w32 (child item.0) (normal_child item.0) item.1)
type_step (layer.LargeList item) = at_roll (layer.LargeList item.0) (lists_normal w64 (child item.0) (normal_child item.0) item.1)
type_step (layer.Map entry is_sorted) = at_roll (layer.Map entry.0 is_sorted) (lists_normal w32 (child entry.0) (normal_child entry.0) entry.1)
type_step (layer.FixedSizeList item size) = at_roll (layer.FixedSizeList item.0 size)
    (fixed_lists_normal size (child item.0) (normal_child item.0) item.1)
type_step (layer.Struct children) = at_roll (layer.Struct (map (λ e. e.0) children)) (structs_normal _ _ (children_read children))
type_step (layer.Union children numbers mode) = at_roll (layer.Union (map (λ e. e.0) children) numbers mode)
    (λ at some e. unions_normal (map (λ u. (u, read_field u)) (map (λ e. e.0) children))
    (map (λ u. (u, read_field u)) (map normal_field (map (λ e. e.0) children))) (children_read children) numbers mode
    (length (before_V5 at.source.version)) (length (union_parts at.source.version mode)) at some e)
type_step (layer.Dictionary key value is_ordered) = at_roll (layer.Dictionary key value.0 is_ordered) (keys_normal key value.0)
type_step (layer.Extension name inner metadata) = at_roll (layer.Extension name inner.0 metadata) inner.1

-- ---- fields

normal_is : (x : FieldLayer) → normal_field (roll-Field x)
    ≡ roll-Field (record x { data_type = normalised_type x.data_type; metadata = normalised_pairs (normalised_type x.data_type) x.metadata })
normal_is x = fold-roll-Field DataType Field roll-DataType normalised_step x

type_is : (x : FieldLayer) → (normal_field (roll-Field x)).data_type ≡ normalised_type (roll-Field x).data_type
unfolding roll-DataType denote.Hole.Carrier.roll
type_is x = ap (λ (u : Field). u.data_type) (normal_is x)

reader_is : (x : FieldLayer) → read_field (roll-Field x) ≡ slots_in x.data_type
reader_is x = para-roll-Field Reader Reader read_step read_field_step x

field_step : (x : FieldLayer) → TypeReads x.data_type → FieldReads (roll-Field x)
field_step x h = record {
  type_is = type_is x;
  reads = λ at some e.
      ap (λ (r : Reader). r (among_normal at)) (ap read_field (normal_is x)
      ∙ reader_is (record x { data_type = normalised_type x.data_type; metadata = normalised_pairs (normalised_type x.data_type) x.metadata }))
      ∙ h at some (sym (ap (λ (r : Reader). r at) (reader_is x)) ∙ e);
}

pub normal_types_read : NormalTypesRead
normal_types_read = ind-DataType TypeReads FieldReads (λ x y is. subst (λ (x : Layer). TypeReads (roll-DataType x)) is (type_step y))
    (λ x y is. subst (λ (x : FieldLayer). FieldReads (roll-Field x)) is
    (field_step (map-Field (TypeWith TypeReads) (FieldWith FieldReads) DataType Field (λ e. e.0) (λ e. e.0) y) y.data_type.1))
