-- The nodes and buffers of a column as they are written from its slots: zeros under nulls, offsets from 0, and the values of a dictionary in
-- the order of first use (Arrow columnar format, "Physical Memory Layout"; Arrow IPC, "RecordBatch message").
use Rattle.std.specs.Prelude.{ℕ, suc, Bool, true, false, List, [], ◌∷◌, ◌++◌, length, map, Option, Some, None}
use Rattle.std.specs.List.{flat_map, list_any}
use Rattle.std.specs.Int.{Width, w32, w64, to_le_bytes}
use Rattle.nested_arrays_columns.specs.columnar_memory.declared.DataType.{DataType}
use Rattle.nested_arrays_columns.specs.columnar_memory.declared.DataType.TheOpen as layer
use Rattle.nested_arrays_columns.specs.columnar_memory.declared.DataType.TheFolds.{fold-DataType}
use Rattle.nested_arrays_columns.specs.columnar_memory.declared.IntegerType.{IntegerType}
use Rattle.nested_arrays_columns.specs.columnar_memory.declared.PrimitiveType.{PrimitiveType}
use Rattle.nested_arrays_columns.specs.Slots.{Slot}
use Rattle.nested_arrays_columns.specs.Children.{items_of, joined_items, joined_fixed_items, field_slots, dictionary_values}
pub use Rattle.nested_arrays_columns.specs.FreshColumns.{key_among}
use Rattle.ipc_format_grammar.specs.Layouts.{kind_of}
use Rattle.ipc_format_grammar.specs.Buffers.{validity_bytes, bitmap_of, null_count, is_true, kind_bytes, key_width, content_of}
use Rattle.ipc_format_grammar.specs.Buffers.{fixed_content_of, offset_bytes}

-- a column as it is written: its nodes, each a number of slots and of nulls, and its buffers, both in pre-order
pub record Encoded : Type 0 where
  pub nodes : List (ℕ × ℕ)
  pub buffers : List (List ℕ)

-- columns, one after another
abbrev pub joined_columns : List Encoded → Encoded
joined_columns columns = record {
  nodes = flat_map (λ (column : Encoded). column.nodes) columns;
  buffers = flat_map (λ (column : Encoded). column.buffers) columns;
}

-- a column of its own node and buffers, and of the columns below it
abbrev pub column_over : ℕ × ℕ → List (List ℕ) → List Encoded → Encoded
column_over node buffers below = record { nodes = node ∷ (joined_columns below).nodes; buffers = buffers ++ (joined_columns below).buffers }

abbrev pub node_of : List Slot → ℕ × ℕ
node_of slots = (length slots, null_count slots)

-- what encodes a column of a type
abbrev pub Encoder : Type 0
Encoder = List Slot → Encoded

-- a column without columns below it: a validity bitmap, and these buffers
abbrev pub flat_column : List (List ℕ) → Encoder
flat_column buffers slots = column_over (node_of slots) (validity_bytes slots ∷ buffers) []

-- slots of one size each
abbrev pub values_column : (Slot → List ℕ) → Encoder
values_column value slots = flat_column (flat_map value slots ∷ []) slots

-- texts or bytes: offsets, and the bytes
abbrev pub bytes_column : Width → Encoder
bytes_column w slots =
    flat_column (offset_bytes w (map (λ slot. length (content_of slot)) slots) ∷ flat_map content_of slots ∷ []) slots

-- lists: offsets, and the items of all lists below
abbrev pub list_column : Width → Encoder → Encoder
list_column w item slots =
    column_over (node_of slots) (validity_bytes slots ∷ offset_bytes w (map (λ slot. length (items_of slot)) slots) ∷ [])
    (item (joined_items slots) ∷ [])

-- the columns of the fields of records, from field k on
abbrev pub field_columns : List Encoder → List Slot → ℕ → List Encoded
field_columns [] slots k = []
field_columns (field ∷ fields) slots k = field (field_slots slots k) ∷ field_columns fields slots (suc k)

abbrev pub dictionary_column : IntegerType → Encoder
dictionary_column key slots = values_column (λ slot. to_le_bytes (key_width key) (key_among (dictionary_values slots) slot)) slots

abbrev pub number_column : Option PrimitiveType → Encoder
number_column None slots = flat_column [] slots
number_column (Some kind) slots = values_column (kind_bytes kind) slots

-- One layer of a type, where each type below stands as what encodes it. A dictionary's values stand in a message of their own. A union's
-- slots do not say where its children's stand, so that from slots it has no node and no buffer.
abbrev pub encode_step : layer.DataType-F Encoder Encoder → Encoder
encode_step layer.Null slots = column_over (node_of slots) [] []
encode_step layer.Boolean slots = flat_column (bitmap_of is_true slots ∷ []) slots
encode_step layer.Binary slots = bytes_column w32 slots
encode_step layer.Utf8 slots = bytes_column w32 slots
encode_step layer.LargeBinary slots = bytes_column w64 slots
encode_step layer.LargeUtf8 slots = bytes_column w64 slots
encode_step (layer.FixedSizeBinary size) slots = values_column (fixed_content_of size) slots
encode_step (layer.List item) slots = list_column w32 item slots
encode_step (layer.Map entry is_sorted) slots = list_column w32 entry slots
encode_step (layer.LargeList item) slots = list_column w64 item slots
encode_step (layer.FixedSizeList item size) slots =
    column_over (node_of slots) (validity_bytes slots ∷ []) (item (joined_fixed_items size slots) ∷ [])
encode_step (layer.Struct children) slots = column_over (node_of slots) (validity_bytes slots ∷ []) (field_columns children slots 0)
encode_step (layer.Union children type_ids mode) slots = joined_columns []
encode_step (layer.Dictionary key value is_ordered) slots = dictionary_column key slots
encode_step (layer.Extension name inner metadata) slots = inner slots
encode_step type_layer slots = number_column (kind_of type_layer) slots

-- a column of a type from its slots
abbrev pub encode : DataType → Encoder
encode = fold-DataType Encoder Encoder encode_step (λ field. field.data_type)

-- ---- what is written from slots

-- whether an answer is true
abbrev pub any_of : List Bool → Bool
any_of answers = list_any (λ b. b) answers

-- one layer of a type, where each type below stands as whether a union stands in it
abbrev pub union_step : layer.DataType-F Bool Bool → Bool
union_step (layer.List item) = item
union_step (layer.LargeList item) = item
union_step (layer.FixedSizeList item size) = item
union_step (layer.Map entry is_sorted) = entry
union_step (layer.Struct children) = any_of children
union_step (layer.Union children type_ids mode) = true
union_step (layer.Dictionary key value is_ordered) = value
union_step (layer.Extension name inner metadata) = inner
union_step _ = false

-- whether a union stands in a type, at any depth: its columns are written from what arrays store alone
abbrev pub has_union : DataType → Bool
has_union = fold-DataType Bool Bool union_step (λ field. field.data_type)
