-- Why bytes are refused: what stands in them, whatever else is broken.
use Rattle.std.specs.Prelude.{◌≡◌, ◌⊎◌, ◌≤◌, ℕ, zero, suc, ◌^◌, Bool, true, false, List, [], ◌∷◌, length, map, take}
use Rattle.std.specs.Prelude.{codes, Option, Some, None, IsSome, IsSomeAnd, nat_lt, slice_get}
use Rattle.std.specs.Int.{w8}
use Rattle.ipc_format_flatbuffers.specs.Reading.{◌>>=◌, guard}
use Rattle.ipc_format_flatbuffers.specs.FlatBuffers.{TablePlace, number_field, truth_field, table_field, vector_field, element_at}
use Rattle.ipc_format_grammar.specs.Messages as message
use Rattle.ipc_format_grammar.specs.Messages.{version_in}
use Rattle.ipc_format_grammar.specs.SchemaGrammar.{schema_in}
use Rattle.nested_arrays_columns.specs.Slots.{Slot}
use Rattle.nested_arrays_columns.specs.Tables.{rows_of_batches}
use Rattle.ipc_format_grammar.specs.Framing.{Framed, Next, nothing_whole, by_next, next_at, first_of}
use Rattle.ipc_format_grammar.specs.Files.{Footer, Block, footer_in, footer_schema, file_entries, stands_at, metadata_of, header_in}
use Rattle.ipc_format_grammar.specs.Framing.{frame_at}
use Rattle.ipc_format_grammar.specs.Tables.{Form, stream, file, Contents, schema_of, stream_entry, layout_of, batches_of}
use Rattle.ipc_format_grammar.specs.SlotNumbers as slots
use Rattle.ipc_format_grammar.specs.TagNumbers as tags

-- ---- a float field (Schema.fbs, FloatingPoint)

-- table k of the vector that a slot refers to
abbrev pub child_at : List ℕ → TablePlace → ℕ → ℕ → Option TablePlace
child_at bytes table slot k = do
  found ← vector_field bytes table slot slots.reference_size
  vector ← found
  _ ← guard (nat_lt k vector.count)
  element_at bytes vector k

-- the Field table at a path below another: at each step the place of a child
abbrev pub field_at_path : List ℕ → TablePlace → List ℕ → Option TablePlace
field_at_path bytes field [] = Some field
field_at_path bytes field (k ∷ path) = do
  child ← child_at bytes field slots.field_children k
  field_at_path bytes child path

-- the Field table at a path of a schema
abbrev pub field_of_schema : List ℕ → TablePlace → ℕ → List ℕ → Option TablePlace
field_of_schema bytes schema k path = do
  field ← child_at bytes schema slots.schema_fields k
  field_at_path bytes field path

abbrev pub IsFloat : List ℕ → TablePlace → Type 0
IsFloat bytes field = number_field w8 bytes field slots.field_type_type 0 ≡ Some tags.floating_point

-- a float field stands in a schema, at some path
abbrev pub HasFloatField : List ℕ → TablePlace → Type 0
HasFloatField bytes schema = (k : ℕ) × (path : List ℕ) × IsSomeAnd (field_of_schema bytes schema k path) (IsFloat bytes)

-- the metadata with the schema, and the schema's table
abbrev pub schema_in_message : Framed → message.Header → Option (List ℕ × TablePlace)
schema_in_message framed (message.schema table) = Some (framed.metadata, table)
schema_in_message framed _ = None

abbrev pub schema_table : Form → List ℕ → Option (List ℕ × TablePlace)
schema_table stream bytes = do
  first ← first_of bytes
  schema_in_message first.0 first.0.header
schema_table file bytes = footer_schema bytes

-- a float field stands in the bytes
abbrev pub HasFloat : Form → List ℕ → Type 0
HasFloat form bytes = IsSomeAnd (schema_table form bytes) (λ found. HasFloatField found.0 found.1)

-- ---- a batch that is compressed, and a dictionary that adds to an earlier one (Message.fbs)

-- what stands behind n more messages of a stream, from a place on
abbrev pub next_after : ℕ → List ℕ → ℕ → Option Next
next_after zero bytes place = next_at bytes place
next_after (suc n) bytes place = do
  next ← next_at bytes place
  by_next None None (λ framed after. next_after n bytes after) next

-- what stands behind a stream's schema and n more messages
abbrev pub behind_messages : ℕ → List ℕ → Option Next
behind_messages n bytes = do
  first ← first_of bytes
  next_after n bytes first.1

-- the message that stands at a place, if one does
abbrev pub message_there : Next → Option (List ℕ × message.Header)
message_there next = by_next None None (λ framed after. Some (framed.metadata, framed.header)) next

-- the message at a block of a file
abbrev pub message_of_block : List ℕ → Block → Option (List ℕ × message.Header)
message_of_block bytes block = do
  frame ← frame_at bytes block.offset
  metadata ← metadata_of frame
  header ← header_in metadata
  Some (metadata, header)

-- the blocks of a file
abbrev pub blocks : Footer → Bool → List Block
blocks footer true = footer.dictionaries
blocks footer false = footer.record_batches

-- message k, in a file of the dictionaries or of the record batches
abbrev pub message_at : Form → List ℕ → Bool → ℕ → Option (List ℕ × message.Header)
message_at stream bytes among_dictionaries k = do
  next ← behind_messages k bytes
  message_there next
message_at file bytes among_dictionaries k = do
  footer ← footer_in bytes
  block ← slice_get (blocks footer among_dictionaries) k
  message_of_block bytes block

-- the table of a message's record batch, which for a dictionary holds its values
abbrev pub batch_table : List ℕ → message.Header → Option TablePlace
batch_table metadata (message.schema table) = None
batch_table metadata (message.record_batch table) = Some table
batch_table metadata (message.dictionary_batch table) = do
  found ← table_field metadata table slots.dictionary_batch_data
  found

abbrev pub compression_in : List ℕ × message.Header → Option TablePlace
compression_in found = do
  batch ← batch_table found.0 found.1
  compression ← table_field found.0 batch slots.record_batch_compression
  compression

abbrev pub is_delta : List ℕ → message.Header → Option Bool
is_delta metadata (message.dictionary_batch table) = truth_field metadata table slots.dictionary_batch_is_delta
is_delta metadata _ = None

-- a batch of the bytes is compressed
abbrev pub HasCompression : Form → List ℕ → Type 0
HasCompression form bytes = (among_dictionaries : Bool) × (k : ℕ) ×
    IsSomeAnd (message_at form bytes among_dictionaries k) (λ found. IsSome (compression_in found))

-- a dictionary of the bytes adds to an earlier one
abbrev pub HasDelta : Form → List ℕ → Type 0
HasDelta form bytes = (k : ℕ) × IsSomeAnd (message_at form bytes true k) (λ found. is_delta found.0 found.1 ≡ Some true)

-- ---- too many rows

-- the first n messages of a stream from a place on, whatever stands behind them
abbrev pub first_messages : ℕ → List ℕ → ℕ → Option (List Framed)
first_messages zero bytes place = Some []
first_messages (suc n) bytes place = do
  next ← next_at bytes place
  by_next None None (λ framed after. (do
    others ← first_messages n bytes after
    Some (framed ∷ others))) next

-- the schema of bytes and, of a stream the first n messages behind it, of a file all dictionaries and the first n record batches
abbrev pub first_contents : Form → ℕ → List ℕ → Option Contents
first_contents stream n bytes = do
  first ← first_of bytes
  version ← version_in first.0.metadata
  found ← schema_of first.0 first.0.header
  later ← first_messages n bytes first.1
  Some (record { schema = found; entries = map (stream_entry version) later })
first_contents file n bytes = do
  footer ← footer_in bytes
  found ← schema_in footer.bytes footer.schema
  entries ← file_entries bytes footer.dictionaries (take n footer.record_batches)
  Some (record { schema = found; entries = entries })

-- the batches of these messages
unfoldable pub first_batches : Form → ℕ → List ℕ → Option (List (List (List Slot)))
first_batches form n bytes = do
  contents ← first_contents form n bytes
  batches_of (layout_of contents.schema) [] contents.entries

-- the first batches of the bytes have more rows than a 64-bit number counts, whatever stands behind them
abbrev pub HasTooManyRows : Form → List ℕ → Type 0
HasTooManyRows form bytes = (n : ℕ) × IsSomeAnd (first_batches form n bytes) (λ batches. 2 ^ 64 ≤ length (rows_of_batches batches))

-- ---- a stream that ends early

-- a stream's messages read up to where it ends within the first four bytes of another one
abbrev pub IsUnfinished : List ℕ → Type 0
IsUnfinished bytes = (n : ℕ) × (behind_messages n bytes ≡ Some nothing_whole) × IsSome (first_batches stream n bytes)

-- ---- older files

-- the mark of a Feather file before Arrow's file format
abbrev pub feather_mark : List ℕ
feather_mark = codes "FEA1"

-- a stream has none
abbrev pub has_feather_mark : Form → List ℕ → Bool
has_feather_mark stream bytes = false
has_feather_mark file bytes = stands_at feather_mark bytes 0

abbrev pub HasFeatherMark : Form → List ℕ → Type 0
HasFeatherMark form bytes = has_feather_mark form bytes ≡ true

-- what isn't implemented stands in bytes: the mark of Feather, a float field, a compressed batch, or a dictionary that adds to an earlier one
abbrev pub HasUnimplemented : Form → List ℕ → Type 0
HasUnimplemented form bytes = HasFeatherMark form bytes ⊎ (HasFloat form bytes ⊎ (HasCompression form bytes ⊎ HasDelta form bytes))
