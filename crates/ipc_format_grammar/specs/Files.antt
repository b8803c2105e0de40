-- Files: their marks, their footer and its blocks (Arrow IPC, "IPC File Format"; File.fbs).
use Rattle.std.specs.Prelude.{ℕ, zero, suc, ◌+◌, ◌-◌, ℤ, Bool, true, false, List, [], ◌∷◌, ◌++◌, length, codes, Option, Some, None, nat_le, nat_eq}
use Rattle.std.specs.Cmp.Lexicographic.{pointwise}
use Rattle.std.specs.Int.{w8, w32, w64}
use Rattle.ipc_format_flatbuffers.specs.Reading.{◌>>=◌, guard, window_at}
use Rattle.ipc_format_flatbuffers.specs.FlatBuffers.{TablePlace, Vector, signed_at, number_field, table_field, vector_field, root_of}
use Rattle.ipc_format_grammar.specs.Messages as message
use Rattle.ipc_format_grammar.specs.Messages.{natural, version_in, header_of}
use Rattle.ipc_format_grammar.specs.Framing.{Frame, truncated, end_mark, metadata_then, frame_at}
use Rattle.ipc_format_grammar.specs.Limits.{most_dictionaries}
use Rattle.ipc_format_grammar.specs.Dictionaries.{Entry}
use Rattle.ipc_format_grammar.specs.SlotNumbers as slots

-- what stands at both ends of a file
abbrev pub file_mark : List ℕ
file_mark = codes "ARROW1"

abbrev pub is_mark : List ℕ → Option (List ℕ) → Bool
is_mark mark None = false
is_mark mark (Some found) = pointwise nat_eq mark found

-- whether a mark stands at a place
abbrev pub stands_at : List ℕ → List ℕ → ℕ → Bool
stands_at mark bytes place = is_mark mark (window_at bytes place (length mark))

-- where a message stands: its place in the file, how many bytes stand before its body, and how many its body has
pub record Block : Type 0 where
  pub offset : ℕ
  pub metadata_length : ℕ
  pub body_length : ℤ

-- a block of 24 bytes: its offset, the length of its metadata, four bytes of padding, and the length of its body
unfoldable pub block_at : List ℕ → ℕ → Option Block
block_at bytes place = do
  stated_offset ← signed_at w64 bytes place
  offset ← natural stated_offset
  stated_length ← signed_at w32 bytes (place + 8)
  metadata_length ← natural stated_length
  body_length ← signed_at w64 bytes (place + 16)
  Some (record { offset = offset; metadata_length = metadata_length; body_length = body_length })

-- n blocks from a place on
abbrev pub blocks_from : List ℕ → ℕ → ℕ → Option (List Block)
blocks_from bytes place zero = Some []
blocks_from bytes place (suc n) = do
  block ← block_at bytes place
  others ← blocks_from bytes (place + slots.block_size) n
  Some (block ∷ others)

abbrev pub blocks_of : List ℕ → Vector → Option (List Block)
blocks_of bytes vector = blocks_from bytes vector.place vector.count

-- blocks that may be absent
abbrev pub blocks_if : List ℕ → Option Vector → Option (List Block)
blocks_if bytes None = Some []
blocks_if bytes (Some vector) = blocks_of bytes vector

-- a file's footer: its bytes, the schema's table there, and the blocks of dictionaries and of record batches
pub record Footer : Type 0 where
  pub bytes : List ℕ
  pub schema : TablePlace
  pub dictionaries : List Block
  pub record_batches : List Block

-- The footer's bytes: they stand before their length and the mark at the end, behind the mark at the beginning.
unfoldable pub footer_bytes_in : List ℕ → Option (List ℕ)
footer_bytes_in bytes = do
  _ ← guard (nat_le 10 (length bytes))
  _ ← guard (stands_at file_mark bytes 0)
  _ ← guard (stands_at file_mark bytes (length bytes - 6))
  stated ← signed_at w32 bytes (length bytes - 10)
  size ← natural stated
  _ ← guard (nat_le (size + 10) (length bytes))
  window_at bytes (length bytes - 10 - size) size

-- the footer's bytes and its schema's table, whatever else stands in the footer
unfoldable pub footer_schema : List ℕ → Option (List ℕ × TablePlace)
footer_schema bytes = do
  footer ← footer_bytes_in bytes
  root ← root_of footer
  found ← table_field footer root slots.footer_schema
  schema ← found
  Some (footer, schema)

-- The footer's list of record batches has to be there, that of dictionaries not.
unfoldable pub footer_in : List ℕ → Option Footer
footer_in bytes = do
  found ← footer_schema bytes
  root ← root_of found.0
  found_dictionaries ← vector_field found.0 root slots.footer_dictionaries slots.block_size
  dictionaries ← blocks_if found.0 found_dictionaries
  found_batches ← vector_field found.0 root slots.footer_record_batches slots.block_size
  vector ← found_batches
  record_batches ← blocks_of found.0 vector
  Some (record { bytes = found.0; schema = found.1; dictionaries = dictionaries; record_batches = record_batches })

-- the metadata of a message, where there is one
abbrev pub metadata_of : Frame → Option (List ℕ)
metadata_of truncated = None
metadata_of end_mark = None
metadata_of (metadata_then metadata place) = Some metadata

-- a message's header; the length of its body is not looked at
unfoldable pub header_in : List ℕ → Option message.Header
header_in bytes = do
  root ← root_of bytes
  tag ← number_field w8 bytes root slots.message_header_type 0
  found ← table_field bytes root slots.message_header
  table ← found
  header_of tag table

abbrev pub is_dictionary : message.Header → Bool
is_dictionary (message.dictionary_batch table) = true
is_dictionary _ = false

abbrev pub is_record_batch : message.Header → Bool
is_record_batch (message.record_batch table) = true
is_record_batch _ = false

-- the message at a block, of its list's kind; its buffers' offsets count from where the block says that its body begins
unfoldable pub entry_at : (message.Header → Bool) → List ℕ → Block → Option Entry
entry_at is_of_kind bytes block = do
  frame ← frame_at bytes block.offset
  metadata ← metadata_of frame
  header ← header_in metadata
  _ ← guard (is_of_kind header)
  version ← version_in metadata
  Some (record { metadata = metadata; header = header; version = version; room = bytes; origin = block.offset + block.metadata_length })

abbrev pub entries_at : (message.Header → Bool) → List ℕ → List Block → Option (List Entry)
entries_at is_of_kind bytes [] = Some []
entries_at is_of_kind bytes (block ∷ blocks) = do
  entry ← entry_at is_of_kind bytes block
  others ← entries_at is_of_kind bytes blocks
  Some (entry ∷ others)

-- The messages of a file: its dictionaries, and then its record batches. Without a record batch no message is read.
abbrev pub file_entries : List ℕ → List Block → List Block → Option (List Entry)
file_entries bytes dictionaries [] = Some []
file_entries bytes dictionaries (block ∷ blocks) = do
  _ ← guard (nat_le (length dictionaries) most_dictionaries)
  values ← entries_at is_dictionary bytes dictionaries
  batches ← entries_at is_record_batch bytes (block ∷ blocks)
  Some (values ++ batches)
