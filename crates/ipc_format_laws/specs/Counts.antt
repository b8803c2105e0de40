-- How many nodes and buffers a column has that is written from its slots.
use Rattle.std.specs.Prelude.{◌≡◌, ℕ, suc, ◌+◌, Bool, true, false, List, length, Some, slice_get}
use Rattle.std.specs.List.{list_all}
use Rattle.ipc_format_grammar.specs.columnar_memory.declared.DataType.{DataType}
use Rattle.ipc_format_grammar.specs.columnar_memory.declared.DataType.TheOpen as layer
use Rattle.ipc_format_grammar.specs.columnar_memory.declared.DataType.TheFolds.{fold-DataType}
use Rattle.ipc_format_grammar.specs.columnar_memory.declared.Field.{Field}
use Rattle.ipc_format_grammar.specs.columns.Slots.{Slot}
use Rattle.ipc_format_grammar.specs.Messages.{Version, V5}
use Rattle.ipc_format_grammar.specs.Layouts.{below, node_count, buffer_count, node_number, buffer_number}
use Rattle.ipc_format_grammar.specs.Encoding.{Encoded, encode, joined_columns}
use Rattle.ipc_format_grammar.specs.WrittenStreams.{columns_of_slots}
use Rattle.ipc_format_laws.specs.NormalForm.{all_of}

-- one layer of a type, where each type below stands as whether it has no union; a dictionary's values do not stand in its batch
abbrev pub has_no_union_step : layer.DataType-F Bool Bool → Bool
has_no_union_step (layer.Union fields type_ids mode) = false
has_no_union_step type_layer = all_of (below type_layer)

-- a type whose columns in a batch are of no union
abbrev pub has_no_union : DataType → Bool
has_no_union = fold-DataType Bool Bool has_no_union_step (λ field. field.data_type)

abbrev pub HasCounts : Encoded → ℕ → ℕ → Type 0
HasCounts column nodes buffers = (length column.nodes ≡ nodes) × (length column.buffers ≡ buffers)

-- a written column has as many nodes and buffers as its type's layout says
abbrev pub ColumnCounts : Type 0
ColumnCounts = (t : DataType) (slots : List Slot) → has_no_union t ≡ true → HasCounts (encode t slots) (node_count t) (buffer_count V5 t)

-- the columns of a batch have as many nodes and buffers as stand before the end of its fields
abbrev pub BatchCounts : Type 0
BatchCounts = (fields : List Field) (columns : List (List Slot)) → list_all (λ (field : Field). has_no_union field.data_type) fields ≡ true
    → length columns ≡ length fields → HasCounts (joined_columns (columns_of_slots fields columns)) (node_number fields (length fields))
    (buffer_number V5 fields (length fields))

-- past one more field stand its nodes and its buffers more
abbrev pub NextNumbers : Type 0
NextNumbers = (version : Version) (fields : List Field) (k : ℕ) (field : Field) → slice_get fields k ≡ Some field
    → (node_number fields (suc k) ≡ node_number fields k + node_count field.data_type)
    × (buffer_number version fields (suc k) ≡ buffer_number version fields k + buffer_count version field.data_type)
