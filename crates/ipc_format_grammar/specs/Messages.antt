-- Messages and record batches in their metadata (Arrow IPC, "Encapsulated message format", "RecordBatch message", "Dictionary Messages";
-- Message.fbs). Each word gives nothing where the bytes break a rule of the format; what has to be there and is absent breaks one.
use Rattle.std.specs.Prelude.{ℕ, zero, suc, ◌+◌, ◌*◌, ℤ, pos, negsuc, Bool, List, [], ◌∷◌, Option, Some, None}
use Rattle.std.specs.Prelude.{◌==◌, nat_lt, is_some, if◌then◌else◌}
use Rattle.std.specs.Ordering.{int_eq}
use Rattle.std.specs.Int.{w8, w16, w64}
use Rattle.ipc_format_flatbuffers.specs.Reading.{◌>>=◌}
use Rattle.ipc_format_flatbuffers.specs.FlatBuffers.{TablePlace, Vector, number_field, signed_field, truth_field, signed_at, table_field}
use Rattle.ipc_format_flatbuffers.specs.FlatBuffers.{vector_field, root_of}
use Rattle.ipc_format_grammar.specs.SlotNumbers as slots
use Rattle.ipc_format_grammar.specs.TagNumbers as tags

-- a version of Arrow's metadata
pub data Version : Type 0 where
  V1 : Version
  V2 : Version
  V3 : Version
  V4 : Version
  V5 : Version

-- the versions by their numbers
abbrev pub version_of : ℤ → Option Version
version_of number =
    if int_eq number (pos tags.version_1) then Some V1 else if int_eq number (pos tags.version_2) then Some V2 else
    if int_eq number (pos tags.version_3) then Some V3 else if int_eq number (pos tags.version_4) then Some V4 else
    if int_eq number (pos tags.version_5) then Some V5 else None

-- what a message carries, by the table of its header
pub data Header : Type 0 where
  schema : TablePlace → Header
  dictionary_batch : TablePlace → Header
  record_batch : TablePlace → Header

-- the kinds of header by their tags; any other is refused
abbrev pub header_of : ℕ → TablePlace → Option Header
header_of number table =
    if number == tags.schema_tag then Some (schema table) else if number == tags.dictionary_tag then Some (dictionary_batch table) else
    if number == tags.record_tag then Some (record_batch table) else None

-- a message's header, and how many bytes its body has
pub record Message : Type 0 where
  pub header : Header
  pub body_length : ℤ

-- how many bytes the body has; a schema has none, and what its message states is not looked at
abbrev pub body_length_of : List ℕ → TablePlace → Header → Option ℤ
body_length_of bytes root (schema table) = Some (pos 0)
body_length_of bytes root (dictionary_batch table) = signed_field w64 bytes root slots.message_body_length (pos 0)
body_length_of bytes root (record_batch table) = signed_field w64 bytes root slots.message_body_length (pos 0)

-- the message of some metadata
unfoldable pub message_in : List ℕ → Option Message
message_in bytes = do
  root ← root_of bytes
  tag ← number_field w8 bytes root slots.message_header_type 0
  found ← table_field bytes root slots.message_header
  table ← found
  header ← header_of tag table
  body_length ← body_length_of bytes root header
  Some (record { header = header; body_length = body_length })

-- the version that some metadata states
unfoldable pub version_in : List ℕ → Option Version
version_in bytes = do
  root ← root_of bytes
  number ← signed_field w16 bytes root slots.message_version (pos 0)
  version_of number

-- where the nodes and buffers of a batch stand, and whether its buffers are compressed
pub record RecordBatch : Type 0 where
  pub nodes : Vector
  pub buffers : Vector
  pub is_compressed : Bool

-- a record batch; both vectors must be there, each with structs of 16 bytes
unfoldable pub record_batch_in : List ℕ → TablePlace → Option RecordBatch
record_batch_in bytes table = do
  found_nodes ← vector_field bytes table slots.record_batch_nodes slots.pair_size
  nodes ← found_nodes
  found_buffers ← vector_field bytes table slots.record_batch_buffers slots.pair_size
  buffers ← found_buffers
  compression ← table_field bytes table slots.record_batch_compression
  Some (record { nodes = nodes; buffers = buffers; is_compressed = is_some compression })

-- a dictionary's id, its values as a record batch, and whether they are added to earlier ones
pub record DictionaryBatch : Type 0 where
  pub id : ℤ
  pub values : TablePlace
  pub is_delta : Bool

unfoldable pub dictionary_batch_in : List ℕ → TablePlace → Option DictionaryBatch
dictionary_batch_in bytes table = do
  id ← signed_field w64 bytes table slots.dictionary_batch_id (pos 0)
  found ← table_field bytes table slots.dictionary_batch_data
  values ← found
  is_delta ← truth_field bytes table slots.dictionary_batch_is_delta
  Some (record { id = id; values = values; is_delta = is_delta })

-- two signed numbers of eight bytes, one behind the other
pub record Pair : Type 0 where
  pub first : ℤ
  pub second : ℤ

unfoldable pub pair_at : List ℕ → ℕ → Option Pair
pair_at bytes place = do
  first ← signed_at w64 bytes place
  second ← signed_at w64 bytes (place + 8)
  Some (record { first = first; second = second })

-- element k of a vector of such structs
unfoldable pub struct_at : List ℕ → Vector → ℕ → Option Pair
struct_at bytes vector k = if nat_lt k vector.count then pair_at bytes (vector.place + slots.pair_size * k) else None

-- n such structs from a place on, each made into something
abbrev pub structs_from : {A : Type 0} → (Pair → A) → List ℕ → ℕ → ℕ → Option (List A)
structs_from make bytes place zero = Some []
structs_from make bytes place (suc n) = do
  pair ← pair_at bytes place
  others ← structs_from make bytes (place + slots.pair_size) n
  Some (make pair ∷ others)

-- the same of all structs of a vector
unfoldable pub structs_in : {A : Type 0} → (Pair → A) → List ℕ → Vector → Option (List A)
structs_in make bytes vector = structs_from make bytes vector.place vector.count

-- what a batch says of a column: how many slots it has, and how many of them are null
pub record FieldNode : Type 0 where
  pub length : ℤ
  pub null_count : ℤ

abbrev pub as_node : Pair → FieldNode
as_node pair = record { length = pair.first; null_count = pair.second }

-- what a batch says of a buffer: where it begins, and how many bytes it states
pub record Buffer : Type 0 where
  pub offset : ℤ
  pub length : ℤ

abbrev pub as_buffer : Pair → Buffer
as_buffer pair = record { offset = pair.first; length = pair.second }

-- a number that isn't negative
abbrev pub natural : ℤ → Option ℕ
natural (pos n) = Some n
natural (negsuc n) = None

-- how many bytes n buffers state together; none of them may be negative
abbrev pub lengths_from : List ℕ → ℕ → ℕ → Option ℕ
lengths_from bytes place zero = Some 0
lengths_from bytes place (suc n) = do
  buffer ← pair_at bytes place
  length ← natural buffer.second
  others ← lengths_from bytes (place + slots.pair_size) n
  Some (length + others)

-- the same of all buffers of a vector
unfoldable pub lengths_sum : List ℕ → Vector → Option ℕ
lengths_sum bytes buffers = lengths_from bytes buffers.place buffers.count
