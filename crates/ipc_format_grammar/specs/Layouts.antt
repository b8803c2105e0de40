-- How each type lies in a batch: its own buffers in order, its nodes, and the types below it (Arrow columnar format, "Buffer Listing for
-- Each Layout"; Arrow IPC, "RecordBatch message"). Counting, reading, passing over and writing go by this one table.
use Rattle.std.specs.Prelude.{ℕ, ◌+◌, List, [], ◌∷◌, ◌++◌, length, take, sum_by, Option, Some, None}
use Rattle.std.specs.Int.{Width, w32, w64}
use Rattle.nested_arrays_columns.specs.columnar_memory.declared.DataType.{DataType}
use Rattle.nested_arrays_columns.specs.columnar_memory.declared.DataType.TheOpen as layer
use Rattle.nested_arrays_columns.specs.columnar_memory.declared.DataType.TheFolds.{fold-DataType}
use Rattle.nested_arrays_columns.specs.columnar_memory.declared.Field.{Field}
use Rattle.nested_arrays_columns.specs.columnar_memory.declared.IntegerType.{IntegerType}
use Rattle.nested_arrays_columns.specs.columnar_memory.declared.PrimitiveType.{PrimitiveType}
use Rattle.nested_arrays_columns.specs.columnar_memory.declared.UnionMode.{UnionMode}
use Rattle.nested_arrays_columns.specs.columnar_memory.declared.UnionMode.TheVariants as modes
pub use Rattle.nested_arrays_columns.specs.Kinds.{kind_of}
use Rattle.ipc_format_grammar.specs.Messages.{Version, V5}

-- what a buffer holds
pub data Part : Type 0 where
  -- a bit a slot, set where the slot isn't null
  validity : Part
  -- the validity bitmap of a union before V5, which is passed over
  unused_validity : Part
  -- a bit a slot, set where its truth value is true
  truths : Part
  -- a number of a kind a slot
  numbers : PrimitiveType → Part
  -- so many bytes a slot
  fixed_bytes : ℕ → Part
  -- offsets of a width: where the first slot's bytes or items begin, and where each slot's end
  offsets : Width → Part
  -- the bytes of all slots, one after another
  bytes : Part
  -- a slot's place among the dictionary's values
  keys : IntegerType → Part
  -- the id of a slot's child
  ids : Part
  -- a slot's place in its child
  places : Part

-- the buffers of numbers of a kind
abbrev pub number_parts : Option PrimitiveType → List Part
number_parts None = []
number_parts (Some kind) = validity ∷ numbers kind ∷ []

-- before V5 a union has a first buffer more
abbrev pub before_V5 : Version → List Part
before_V5 V5 = []
before_V5 _ = unused_validity ∷ []

abbrev pub mode_parts : UnionMode → List Part
mode_parts modes.Sparse = ids ∷ []
mode_parts modes.Dense = ids ∷ places ∷ []

abbrev pub union_parts : Version → UnionMode → List Part
union_parts version mode = before_V5 version ++ mode_parts mode

-- a type's own buffers, in order
abbrev pub parts : {A B : Type 0} → Version → layer.DataType-F A B → List Part
parts version layer.Null = []
parts version layer.Boolean = validity ∷ truths ∷ []
parts version layer.Binary = validity ∷ offsets w32 ∷ bytes ∷ []
parts version layer.Utf8 = validity ∷ offsets w32 ∷ bytes ∷ []
parts version layer.LargeBinary = validity ∷ offsets w64 ∷ bytes ∷ []
parts version layer.LargeUtf8 = validity ∷ offsets w64 ∷ bytes ∷ []
parts version (layer.FixedSizeBinary size) = validity ∷ fixed_bytes size ∷ []
parts version (layer.List item) = validity ∷ offsets w32 ∷ []
parts version (layer.Map entry is_sorted) = validity ∷ offsets w32 ∷ []
parts version (layer.LargeList item) = validity ∷ offsets w64 ∷ []
parts version (layer.FixedSizeList item size) = validity ∷ []
parts version (layer.Struct fields) = validity ∷ []
parts version (layer.Union fields type_ids mode) = union_parts version mode
parts version (layer.Dictionary key value is_ordered) = validity ∷ keys key ∷ []
parts version (layer.Extension name inner metadata) = []
parts version type_layer = number_parts (kind_of type_layer)

-- the columns below a type in its batch; a dictionary's values stand in a message of their own
abbrev pub below : {A : Type 0} → layer.DataType-F A A → List A
below (layer.List item) = item ∷ []
below (layer.LargeList item) = item ∷ []
below (layer.FixedSizeList item size) = item ∷ []
below (layer.Map entry is_sorted) = entry ∷ []
below (layer.Struct fields) = fields
below (layer.Union fields type_ids mode) = fields
below (layer.Extension name inner metadata) = inner ∷ []
below _ = []

-- a type's own nodes: an extension lies as the type that it is over
abbrev pub own_nodes : {A B : Type 0} → layer.DataType-F A B → ℕ
own_nodes (layer.Extension name inner metadata) = 0
own_nodes _ = 1

abbrev pub total : List ℕ → ℕ
total counts = sum_by (λ n. n) counts

-- the nodes of a column: its own, and those of the columns below it
abbrev pub node_step : layer.DataType-F ℕ ℕ → ℕ
node_step type_layer = own_nodes type_layer + total (below type_layer)

abbrev pub node_count : DataType → ℕ
node_count = fold-DataType ℕ ℕ node_step (λ field. field.data_type)

-- the buffers of a column: its own, and those of the columns below it
abbrev pub buffer_step : Version → layer.DataType-F ℕ ℕ → ℕ
buffer_step version type_layer = length (parts version type_layer) + total (below type_layer)

abbrev pub buffer_count : Version → DataType → ℕ
buffer_count version = fold-DataType ℕ ℕ (buffer_step version) (λ field. field.data_type)

-- how many nodes and buffers stand before column k of some fields: they stand in pre-order
abbrev pub node_number : List Field → ℕ → ℕ
node_number fields k = sum_by (λ (field : Field). node_count field.data_type) (take k fields)

abbrev pub buffer_number : Version → List Field → ℕ → ℕ
buffer_number version fields k = sum_by (λ (field : Field). buffer_count version field.data_type) (take k fields)
