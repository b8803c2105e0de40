-- What the slots of messages, batches and footers give, each by itself (Message.fbs, File.fbs). An absent slot that has no value of its own
-- gives `Some None`.
use Rattle.std.specs.Prelude.{ℕ, ◌+◌, ◌*◌, ℤ, pos, Bool, List, Option, Some, None, nat_lt, if◌then◌else◌}
use Rattle.std.specs.Option.{option_map}
use Rattle.std.specs.Int.{w8, w16, w32, w64}
use Rattle.ipc_format_metadata.specs.flatbuffers.Reading.{◌>>=◌}
use Rattle.ipc_format_metadata.specs.flatbuffers.FlatBuffers.{TablePlace, Vector, signed_at, number_field, signed_field, truth_field, table_field}
use Rattle.ipc_format_metadata.specs.flatbuffers.FlatBuffers.{vector_field, root_of}
use Rattle.ipc_format_metadata.specs.grammar.Messages as format
use Rattle.ipc_format_metadata.specs.grammar.Messages.{Version, version_of}
use Rattle.ipc_format_metadata.specs.grammar.SlotNumbers as slots

-- a table of a message, with the message's bytes
pub record TableIn : Type 0 where
  pub bytes : List ℕ
  pub table : TablePlace

-- a vector of a message, with the message's bytes
pub record VectorIn : Type 0 where
  pub bytes : List ℕ
  pub vector : Vector

-- a message's header, with the message's bytes
pub record HeaderIn : Type 0 where
  pub bytes : List ℕ
  pub header : format.Header

-- ---- slots of every kind

abbrev pub root_in : List ℕ → Option TableIn
root_in bytes = do
  root ← root_of bytes
  Some (record { bytes = bytes; table = root })

abbrev pub table_in : TableIn → ℕ → Option (Option TableIn)
table_in from slot = do
  found ← table_field from.bytes from.table slot
  Some (option_map (λ (table : TablePlace). record { bytes = from.bytes; table = table }) found)

-- a vector whose elements have a width
abbrev pub vector_in : TableIn → ℕ → ℕ → Option (Option VectorIn)
vector_in from slot width = do
  found ← vector_field from.bytes from.table slot width
  Some (option_map (λ (vector : Vector). record { bytes = from.bytes; vector = vector }) found)

-- a signed number of eight bytes, 0 where it is absent
abbrev pub long_in : TableIn → ℕ → Option ℤ
long_in from slot = signed_field w64 from.bytes from.table slot (pos 0)

abbrev pub version_in : TableIn → ℕ → Option Version
version_in from slot = do
  number ← signed_field w16 from.bytes from.table slot (pos 0)
  version_of number

-- ---- Message

abbrev pub message_version : TableIn → Option Version
message_version message = version_in message slots.message_version

-- the header of a kind, by its table
abbrev pub header_of : ℕ → TableIn → Option HeaderIn
header_of kind from = do
  header ← format.header_of kind from.table
  Some (record { bytes = from.bytes; header = header })

abbrev pub header_if : ℕ → Option TableIn → Option (Option HeaderIn)
header_if kind None = Some None
header_if kind (Some table) = do
  header ← header_of kind table
  Some (Some header)

abbrev pub message_header : TableIn → Option (Option HeaderIn)
message_header message = do
  kind ← number_field w8 message.bytes message.table slots.message_header_type 0
  table ← table_in message slots.message_header
  header_if kind table

abbrev pub message_body_length : TableIn → Option ℤ
message_body_length message = long_in message slots.message_body_length

-- ---- RecordBatch

abbrev pub batch_length : TableIn → Option ℤ
batch_length batch = long_in batch slots.record_batch_length

abbrev pub batch_nodes : TableIn → Option (Option VectorIn)
batch_nodes batch = vector_in batch slots.record_batch_nodes slots.pair_size

abbrev pub batch_buffers : TableIn → Option (Option VectorIn)
batch_buffers batch = vector_in batch slots.record_batch_buffers slots.pair_size

abbrev pub batch_compression : TableIn → Option (Option TableIn)
batch_compression batch = table_in batch slots.record_batch_compression

-- ---- DictionaryBatch

abbrev pub dictionary_id : TableIn → Option ℤ
dictionary_id batch = long_in batch slots.dictionary_batch_id

abbrev pub dictionary_data : TableIn → Option (Option TableIn)
dictionary_data batch = table_in batch slots.dictionary_batch_data

abbrev pub dictionary_is_delta : TableIn → Option Bool
dictionary_is_delta batch = truth_field batch.bytes batch.table slots.dictionary_batch_is_delta

-- ---- Footer

abbrev pub footer_version : TableIn → Option Version
footer_version footer = version_in footer slots.footer_version

abbrev pub footer_schema : TableIn → Option (Option TableIn)
footer_schema footer = table_in footer slots.footer_schema

abbrev pub footer_dictionaries : TableIn → Option (Option VectorIn)
footer_dictionaries footer = vector_in footer slots.footer_dictionaries slots.block_size

abbrev pub footer_record_batches : TableIn → Option (Option VectorIn)
footer_record_batches footer = vector_in footer slots.footer_record_batches slots.block_size

-- a block as it is stated: an offset, the length of the metadata, four bytes of padding, and the length of the body
pub record BlockIn : Type 0 where
  pub offset : ℤ
  pub metadata_length : ℤ
  pub body_length : ℤ

abbrev pub stated_block : List ℕ → ℕ → Option BlockIn
stated_block bytes place = do
  offset ← signed_at w64 bytes place
  metadata_length ← signed_at w32 bytes (place + 8)
  body_length ← signed_at w64 bytes (place + 16)
  Some (record { offset = offset; metadata_length = metadata_length; body_length = body_length })

-- block k of a vector of them
unfoldable pub block_at : List ℕ → Vector → ℕ → Option BlockIn
block_at bytes vector k = if nat_lt k vector.count then stated_block bytes (vector.place + slots.block_size * k) else None
