-- A column of any type that reads has all its nodes and buffers from its place on.
use Rattle.std.proofs.Common.{◌≡◌, false, ◌∙◌, ℕ, ◌+◌, ◌-◌, ◌≤◌, List, [], ◌∷◌, map, length, sym, ap, subst, arith}
use Rattle.std.specs.Int.{Width, w32, w64}
use Rattle.std.specs.Str.{is_utf8}
use Rattle.std.specs.Prelude.{true}
use Rattle.std.proofs.lemmas.List.{length-drop}
use Rattle.ipc_format_laws.specs.columnar_memory.declared.DataType.{DataType, map-DataType}
use Rattle.ipc_format_laws.specs.columnar_memory.declared.DataType.TheOpen as layer
use Rattle.ipc_format_laws.specs.columnar_memory.declared.DataType.TheViews.{roll-DataType, roll-Field}
use Rattle.ipc_format_laws.specs.columnar_memory.declared.DataType.TheFolds.{fold-Field, fold-roll-DataType, fold-roll-Field, ind-DataType}
use Rattle.ipc_format_laws.specs.columnar_memory.declared.Field.{Field, map-Field}
use Rattle.ipc_format_laws.specs.columnar_memory.declared.IntervalUnit.TheVariants as intervals
use Rattle.ipc_format_laws.specs.columnar_memory.declared.PrimitiveType.TheVariants as kinds
use Rattle.ipc_format_laws.specs.columns.Slots.{bytes, text}
use Rattle.ipc_format_laws.specs.columns.StoredColumns.{type_layer}
use Rattle.ipc_format_laws.proofs.columns_lemmas.TypeLayers.{Layer, is_extension}
use Rattle.ipc_format_laws.specs.grammar.Layouts.{total, node_count, buffer_step, buffer_count}
use Rattle.ipc_format_laws.specs.grammar.Messages.{Version}
use Rattle.ipc_format_laws.specs.grammar.Columns.{Place, list_slots, fixed_list_slots, slots_in}
use Rattle.ipc_format_laws.proofs.grammar_lemmas.Claims.{TypeWith, FieldWith, LayerWith, bare_layer}
use Rattle.ipc_format_reading_laws.specs.Fronts.{ColumnsHaveParts}
use Rattle.ipc_format_reading_laws.proofs.StoredLayers.{rolled_type, of_each, read_layer, rolled_reads, layer_nodes, rolled_nodes}
use Rattle.ipc_format_reading_laws.proofs.StoredLayers.{type_nodes, layer_plain}
use Rattle.ipc_format_reading_laws.proofs.FrontsParts.{Stand, Needs, TypeNeeds, nulls_need, truths_need, numbers_need, fixed_bytes_need, bytes_need}
use Rattle.ipc_format_reading_laws.proofs.FrontsParts.{keys_need, lists_need, fixed_lists_need, AllNeed, nodes_of, buffers_of, structs_need}
use Rattle.ipc_format_reading_laws.proofs.FrontsParts.{unions_need}

-- ---- counting

abbrev field_buffers : Version → Field → ℕ
field_buffers version = fold-Field ℕ ℕ (buffer_step version) (λ field. field.data_type)

field_buffers_is : (version : Version) (u : Field) → field_buffers version u ≡ buffer_count version u.data_type
field_buffers_is version = of_each (λ u. field_buffers version u ≡ buffer_count version u.data_type)
    (λ x. fold-roll-Field ℕ ℕ (buffer_step version) (λ field. field.data_type) x ∙ ap (buffer_count version) (sym (rolled_type x)))

-- the buffers of the columns of a layer
abbrev layer_buffers : Version → Layer → ℕ
layer_buffers version x =
    buffer_step version (map-DataType DataType Field ℕ ℕ (buffer_count version) (λ u. buffer_count version u.data_type) x)

rolled_buffers : (version : Version) (x : Layer) → buffer_count version (roll-DataType x) ≡ layer_buffers version x
rolled_buffers version x =
    fold-roll-DataType ℕ ℕ (buffer_step version) (λ field. field.data_type) x
    ∙ (λ j. buffer_step version (map-DataType DataType Field ℕ ℕ (buffer_count version) (λ u. field_buffers_is version u j) x))

-- ---- every type

abbrev FieldNeeds : Field → Type 0
FieldNeeds u = TypeNeeds u.data_type

-- a layer's claim is its type's
at_roll : (x : Layer) → Needs (read_layer x) (layer_nodes x) (λ version. layer_buffers version x) → TypeNeeds (roll-DataType x)
at_roll x h at some e =
    let here = h at some (sym (ap (λ reader. reader at) (rolled_reads x)) ∙ e) in
    record {
      nodes = subst (λ (n : ℕ). n ≤ length at.source.nodes - at.node) (sym (rolled_nodes x)) here.nodes;
      buffers = subst (λ (n : ℕ). n ≤ length at.source.buffers - at.buffer) (sym (rolled_buffers at.source.version x)) here.buffers;
    }

fields_need : (ys : List (FieldWith FieldNeeds)) → AllNeed (map (λ e. e.0) ys)
fields_need [] = tt
fields_need (y ∷ ys) = (y.1, fields_need ys)

-- an extension has what the type that it is over has
nothing_more : (n m : ℕ) (at : Place) → Stand n m at → Stand (0 + total (n ∷ [])) (0 + total (m ∷ [])) at
nothing_more n m at here = record { nodes = omega (arith, here.nodes); buffers = omega (arith, here.buffers) }

-- lists of a field
items_need : (w : Width) (u : Field) → FieldNeeds u
    → Needs (list_slots w (u, slots_in u.data_type)) (1 + nodes_of (u ∷ [])) (λ version. 2 + buffers_of version (u ∷ []))
items_need w u needs = lists_need w u (slots_in u.data_type) (node_count u.data_type) (λ version. buffer_count version u.data_type) needs

fixed_items_need : (size : ℕ) (u : Field) → FieldNeeds u
    → Needs (fixed_list_slots size (u, slots_in u.data_type)) (1 + nodes_of (u ∷ [])) (λ version. 1 + buffers_of version (u ∷ []))
fixed_items_need size u needs =
    fixed_lists_need size u (slots_in u.data_type) (node_count u.data_type) (λ version. buffer_count version u.data_type) needs

type_step : (y : LayerWith TypeNeeds FieldNeeds) → TypeNeeds (roll-DataType (bare_layer TypeNeeds FieldNeeds y))
type_step layer.Null = at_roll layer.Null nulls_need
type_step layer.Boolean = at_roll layer.Boolean truths_need
type_step layer.Int8 = at_roll layer.Int8 (numbers_need kinds.Int8)
type_step layer.Int16 = at_roll layer.Int16 (numbers_need kinds.Int16)
type_step layer.Int32 = at_roll layer.Int32 (numbers_need kinds.Int32)
type_step layer.Int64 = at_roll layer.Int64 (numbers_need kinds.Int64)
type_step layer.UInt8 = at_roll layer.UInt8 (numbers_need kinds.UInt8)
type_step layer.UInt16 = at_roll layer.UInt16 (numbers_need kinds.UInt16)
type_step layer.UInt32 = at_roll layer.UInt32 (numbers_need kinds.UInt32)
type_step layer.UInt64 = at_roll layer.UInt64 (numbers_need kinds.UInt64)
type_step layer.Float16 = at_roll layer.Float16 (numbers_need kinds.Float16)
type_step layer.Float32 = at_roll layer.Float32 (numbers_need kinds.Float32)
type_step layer.Float64 = at_roll layer.Float64 (numbers_need kinds.Float64)
type_step (layer.Timestamp unit timezone) = at_roll (layer.Timestamp unit timezone) (numbers_need kinds.Int64)
type_step layer.Date32 = at_roll layer.Date32 (numbers_need kinds.Int32)
type_step layer.Date64 = at_roll layer.Date64 (numbers_need kinds.Int64)
type_step (layer.Time32 unit) = at_roll (layer.Time32 unit) (numbers_need kinds.Int32)
type_step (layer.Time64 unit) = at_roll (layer.Time64 unit) (numbers_need kinds.Int64)
type_step (layer.Duration unit) = at_roll (layer.Duration unit) (numbers_need kinds.Int64)
type_step (layer.Interval intervals.YearMonth) = at_roll (layer.Interval intervals.YearMonth) (numbers_need kinds.Int32)
type_step (layer.Interval intervals.DayTime) = at_roll (layer.Interval intervals.DayTime) (numbers_need kinds.DaysMs)
type_step (layer.Interval intervals.MonthDayNano) = at_roll (layer.Interval intervals.MonthDayNano) (numbers_need kinds.MonthDayNano)
type_step (layer.Decimal precision scale) = at_roll (layer.Decimal precision scale) (numbers_need kinds.Int128)
type_step (layer.Decimal256 precision scale) = at_roll (layer.Decimal256 precision scale) (numbers_need kinds.Int256)
type_step (layer.FixedSizeBinary size) = at_roll (layer.FixedSizeBinary size) (fixed_bytes_need size)
type_step layer.Binary = at_roll layer.Binary (bytes_need w32 (λ piece. true) bytes)
type_step layer.LargeBinary = at_roll layer.LargeBinary (bytes_need w64 (λ piece. true) bytes)
type_step layer.Utf8 = at_roll layer.Utf8 (bytes_need w32 is_utf8 text)
type_step layer.LargeUtf8 = at_roll layer.LargeUtf8 (bytes_need w64 is_utf8 text)
type_step (layer.List item) = at_roll (layer.List item.0)
    (items_need w32 item.0 item.1)
type_step (layer.LargeList item) = at_roll (layer.LargeList item.0)
    (items_need w64 item.0 item.1)
type_step (layer.Map entry is_sorted) = at_roll (layer.Map entry.0 is_sorted)
    (items_need w32 entry.0 entry.1)
type_step (layer.FixedSizeList item size) = at_roll (layer.FixedSizeList item.0 size)
    (fixed_items_need size item.0 item.1)
type_step (layer.Struct children) = at_roll (layer.Struct (map (λ e. e.0) children))
    (structs_need (map (λ e. e.0) children) (fields_need children))
type_step (layer.Union children ids mode) = at_roll (layer.Union (map (λ e. e.0) children) ids mode)
    (unions_need (map (λ e. e.0) children) (fields_need children) ids mode)
type_step (layer.Dictionary key value is_ordered) = at_roll (layer.Dictionary key value.0 is_ordered) (keys_need key value.0)
type_step (layer.Extension name inner metadata) = at_roll (layer.Extension name inner.0 metadata) (λ at some e.
    let here = inner.1 at some e in
    nothing_more (node_count inner.0) (buffer_count at.source.version inner.0) at here)

field_step : (x : layer.Field-F DataType Field) → TypeNeeds x.data_type → FieldNeeds (roll-Field x)
field_step x h = subst TypeNeeds (sym (rolled_type x)) h

types_need : (t : DataType) → TypeNeeds t
types_need = ind-DataType TypeNeeds FieldNeeds (λ x y is. subst (λ (x : Layer). TypeNeeds (roll-DataType x)) is (type_step y))
    (λ x y is. subst (λ (x : layer.Field-F DataType Field). FieldNeeds (roll-Field x)) is
    (field_step (map-Field (TypeWith TypeNeeds) (FieldWith FieldNeeds) DataType Field (λ e. e.0) (λ e. e.0) y) y.data_type.1))

-- every type has a node
has_node : (x : Layer) → is_extension x ≡ false → 1 ≤ layer_nodes x
has_node (layer.Extension name inner metadata) plain = absurd cc
has_node x plain = omega arith

nodes_inside : (all from n : ℕ) → 1 ≤ n → n ≤ all - from → from + n ≤ all
nodes_inside all from n some here = omega arith

pub columns_have_parts : ColumnsHaveParts
columns_have_parts t at some e =
    let here = types_need t at some e in
    record {
      nodes = nodes_inside (length at.source.nodes) at.node (node_count t)
          (subst (λ (n : ℕ). 1 ≤ n) (sym (type_nodes t)) (has_node (type_layer t) (layer_plain t))) here.nodes;
      buffers = subst (λ (n : ℕ). buffer_count at.source.version t ≤ n) (sym (length-drop at.buffer at.source.buffers)) here.buffers;
    }
