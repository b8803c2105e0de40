-- The nodes and buffers of a batch as queues, from whose fronts each column takes its own (Arrow IPC, "RecordBatch message").
use Rattle.std.specs.Prelude.{◌≡◌, ◌⊎◌, ℕ, ◌<◌, ◌≤◌, Bool, true, false, List, length, drop, Result, Ok, Err}
use Rattle.ipc_format_column_bytes.specs.streams.columnar_memory.declared.DataType.{DataType}
use Rattle.ipc_format_column_bytes.specs.streams.columnar_memory.declared.DataType.TheFolds.{fold-Field}
use Rattle.ipc_format_column_bytes.specs.streams.columnar_memory.declared.Field.{Field}
use Rattle.ipc_format_column_bytes.specs.streams.columnar_memory.declared.PhysicalType.{PhysicalType}
use Rattle.ipc_format_column_bytes.specs.streams.columnar_memory.declared.PhysicalType.TheVariants as physical
use Rattle.ipc_format_column_bytes.specs.streams.columnar_memory.declared.Error.{Error}
use Rattle.ipc_format_column_bytes.specs.streams.columnar_memory.Error.{IsOutOfSpec}
use Rattle.ipc_format_column_bytes.specs.streams.grammar.Layouts.{node_step, buffer_step, node_count, buffer_count}
use Rattle.ipc_format_column_bytes.specs.streams.grammar.Messages.{Version}

-- a queue holds an end of what it held
abbrev pub IsEnd : {A : Type 0} → List A → List A → Type 0
IsEnd old new = (n : ℕ) × (new ≡ drop n old)

-- So many nodes are taken off the front, exactly where there are so many. Else the queue holds an end of what it held.
abbrev pub SkipsNodes : {A X : Type 0} → ℕ → List A → List A → Result X Error → Type 0
SkipsNodes n old new (Ok done) = (n ≤ length old) × (new ≡ drop n old)
SkipsNodes n old new (Err error) = IsOutOfSpec error × (length old < n) × IsEnd old new

-- So many nodes and so many buffers are taken off the fronts, exactly where there are so many of each. Else each queue holds an end of what
-- it held.
abbrev pub Skips : {A B X : Type 0} → ℕ → ℕ → List A → List A → List B → List B → Result X Error → Type 0
Skips n b nodes nodes_after buffers buffers_after (Ok done) =
    (n ≤ length nodes) × (nodes_after ≡ drop n nodes) × (b ≤ length buffers) × (buffers_after ≡ drop b buffers)
Skips n b nodes nodes_after buffers buffers_after (Err error) =
    IsOutOfSpec error × ((length nodes < n) ⊎ (length buffers < b)) × IsEnd nodes nodes_after × IsEnd buffers buffers_after

-- The nodes and buffers of a column of a type, where the type is of the kind that is passed over. Another one is refused, and nothing is taken.
abbrev pub SkipsKind : {A B X : Type 0} → Bool → DataType → Version → List A → List A → List B → List B → Result X Error → Type 0
SkipsKind true data_type version nodes nodes_after buffers buffers_after result =
    Skips (node_count data_type) (buffer_count version data_type) nodes nodes_after buffers buffers_after result
SkipsKind false data_type version nodes nodes_after buffers buffers_after (Ok done) = ⊥
SkipsKind false data_type version nodes nodes_after buffers buffers_after (Err error) =
    IsOutOfSpec error × (nodes_after ≡ nodes) × (buffers_after ≡ buffers)

-- ---- kinds of columns, by how their arrays lie in memory

-- lists, by whether their offsets are large
abbrev pub is_list : Bool → PhysicalType → Bool
is_list false physical.List = true
is_list true physical.LargeList = true
is_list is_large layout = false

abbrev pub is_fixed_size_list : PhysicalType → Bool
is_fixed_size_list physical.FixedSizeList = true
is_fixed_size_list layout = false

abbrev pub is_map : PhysicalType → Bool
is_map physical.Map = true
is_map layout = false

abbrev pub is_struct : PhysicalType → Bool
is_struct physical.Struct = true
is_struct layout = false

abbrev pub is_union : PhysicalType → Bool
is_union physical.Union = true
is_union layout = false

-- ---- the columns of fields

abbrev pub field_nodes_of : Field → ℕ
field_nodes_of = fold-Field ℕ ℕ node_step (λ field. field.data_type)

abbrev pub field_buffers_of : Version → Field → ℕ
field_buffers_of version = fold-Field ℕ ℕ (buffer_step version) (λ field. field.data_type)

-- ---- what is read

-- So many come off the front of a queue; where a call is refused, it holds an end of what it held.
abbrev pub TakesOff : {A X : Type 0} → ℕ → List A → List A → Result X Error → Type 0
TakesOff n old new (Ok found) = (n ≤ length old) × (new ≡ drop n old)
TakesOff n old new (Err error) = IsEnd old new
