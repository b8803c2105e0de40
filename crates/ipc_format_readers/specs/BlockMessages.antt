-- What is read of the messages at a file's blocks (Arrow IPC, "IPC File Format", "RecordBatch message", "Dictionary Messages").
use Rattle.std.specs.Prelude.{◌≡◌, ◌⊎◌, ℕ, ℤ, pos, zero, suc, negsuc, ◌+◌, true, List, [], ◌∷◌, map, All, slice_get}
use Rattle.std.specs.Prelude.{Option, Some, None, IsSome, IsSomeAnd, Result, Ok, Err}
use Rattle.std.specs.BTreeMap.{BTreeMap}
use Rattle.std.specs.declared.alloc.Global.{Global}
use Rattle.std.specs.declared.vec.Vec.{Vec}
use Rattle.ipc_format_chunk_writing.specs.BatchReads.{entry_in}
use Rattle.ipc_format_chunk_writing.specs.Chunks.{AreAsLong}
use Rattle.ipc_format_chunk_writing.specs.ReadArrays.{standing_in}
use Rattle.ipc_format_chunk_writing.specs.Standing.{StandAlike}
use Rattle.ipc_format_chunk_writing.specs.columnar_memory.declared.DataType.{DataType}
use Rattle.ipc_format_chunk_writing.specs.columnar_memory.declared.Error.{Error}
use Rattle.ipc_format_chunk_writing.specs.columnar_memory.declared.Field.{Field}
use Rattle.ipc_format_chunk_writing.specs.columns.Slots.{Slot}
use Rattle.ipc_format_chunk_writing.specs.columns.StoredColumns.{Column, column_type, slots}
use Rattle.ipc_format_chunk_writing.specs.flatbuffers.Reading.{◌>>=◌, window_at}
use Rattle.ipc_format_chunk_writing.specs.flatbuffers.Views.{table_of}
use Rattle.ipc_format_chunk_writing.specs.grammar.Columns.{Dictionary}
use Rattle.ipc_format_chunk_writing.specs.grammar.Dictionaries.{Entry, Layout, dictionary_in}
use Rattle.ipc_format_chunk_writing.specs.grammar.Files.{Block, entry_at, is_dictionary, is_record_batch, metadata_of}
use Rattle.ipc_format_chunk_writing.specs.grammar.Framing.{frame_at}
use Rattle.ipc_format_chunk_writing.specs.grammar.Messages as message
use Rattle.ipc_format_chunk_writing.specs.grammar.Refusals.{compression_in, is_delta, message_of_block}
use Rattle.ipc_format_chunk_writing.specs.grammar.Tables.{batch_in}
use Rattle.ipc_format_chunk_writing.specs.messages.MessageViews.{version_view}
use Rattle.ipc_format_chunk_writing.specs.messages.declared.batches.DictionaryBatchRef.{DictionaryBatchRef}
use Rattle.ipc_format_chunk_writing.specs.messages.declared.batches.RecordBatchRef.{RecordBatchRef}
use Rattle.ipc_format_chunk_writing.specs.messages.declared.values.MetadataVersion.{MetadataVersion}
use Rattle.ipc_format_chunk_writing.specs.metadata.Reading.{Refuses}
use Rattle.ipc_format_chunk_writing.specs.metadata.Views.{ids_views}
use Rattle.ipc_format_chunk_writing.specs.metadata.declared.ipc_schema.IpcSchema.{IpcSchema}

-- ---- columns of fields

-- how columns of some fields lie, by what stands beside a schema
abbrev pub layout_by : List Field → IpcSchema → Layout
layout_by fields ipc_schema = record { fields = fields; below = ids_views ipc_schema.fields; is_little_endian = ipc_schema.is_little_endian }

abbrev pub type_of : Field → DataType
type_of field = field.data_type

-- columns of some fields: each has the type of its field, and all are of one length
abbrev pub AreOfFields : List Field → List Column → Type 0
AreOfFields fields columns = (map column_type columns ≡ map type_of fields) × AreAsLong (λ column. column) columns

-- the slots of batches
abbrev pub slots_of_batches : List (List Column) → List (List (List Slot))
slots_of_batches batches = map (map slots) batches

-- ---- messages

-- the metadata of a stated length from a place on
abbrev pub stated_metadata : List ℕ → ℤ → ℕ → Option (List ℕ)
stated_metadata bytes (pos zero) place = None
stated_metadata bytes (pos (suc n)) place = window_at bytes place (suc n)
stated_metadata bytes (negsuc n) place = None

-- the metadata of the message at a place
abbrev pub metadata_at : List ℕ → ℕ → Option (List ℕ)
metadata_at bytes place = do
  frame ← frame_at bytes place
  metadata_of frame

-- the message of a dictionary at a block, as it was found
abbrev pub dictionary_entry : List ℕ → Block → DictionaryBatchRef × MetadataVersion → Entry
dictionary_entry bytes block found = entry_in found.0.table.bytes.now (message.dictionary_batch (table_of found.0.table.place))
    (version_view found.1) (block.offset + block.metadata_length) bytes

-- and that of a record batch
abbrev pub batch_entry : List ℕ → Block → RecordBatchRef × MetadataVersion → Entry
batch_entry bytes block found = entry_in found.0.table.bytes.now (message.record_batch (table_of found.0.table.place))
    (version_view found.1) (block.offset + block.metadata_length) bytes

-- the dictionary of a message
abbrev pub dictionary_by : Layout → List Dictionary → Entry → message.Header → Option Dictionary
dictionary_by layout standing entry (message.dictionary_batch table) = dictionary_in layout standing entry table
dictionary_by layout standing entry _ = None

-- the columns of a message
abbrev pub columns_by : Layout → List Dictionary → Entry → message.Header → Option (List (List Slot))
columns_by layout standing entry (message.record_batch table) = batch_in layout standing entry table
columns_by layout standing entry _ = None

-- ---- what stands at a block

-- the dictionary at a block of a file, under those that stand
abbrev pub dictionary_at : Layout → List ℕ → List Dictionary → Block → Option Dictionary
dictionary_at layout bytes standing block = do
  entry ← entry_at is_dictionary bytes block
  dictionary_by layout standing entry entry.header

-- the columns of the record batch at a block
abbrev pub batch_at : Layout → List ℕ → List Dictionary → Block → Option (List (List Slot))
batch_at layout bytes standing block = do
  entry ← entry_at is_record_batch bytes block
  columns_by layout standing entry entry.header

-- the message at a block is compressed
abbrev pub IsCompressedAt : List ℕ → Block → Type 0
IsCompressedAt bytes block = IsSomeAnd (message_of_block bytes block) (λ found. IsSome (compression_in found))

-- the message at a block is compressed, or adds to an earlier dictionary
abbrev pub IsUnreadAt : List ℕ → Block → Type 0
IsUnreadAt bytes block =
    IsSomeAnd (message_of_block bytes block) (λ found. IsSome (compression_in found) ⊎ (is_delta found.0 found.1 ≡ Some true))

-- What is read of a dictionary's message: the dictionary that the format gives stands from here on, as the latest one.
abbrev pub TakesDictionary : {A : Type 0} → List Dictionary → List Dictionary → Type 0 → Option Dictionary → Result A Error → Type 0
TakesDictionary standing standing_after Unread given (Ok done) =
    (dictionary : Dictionary) × (given ≡ Some dictionary) × StandAlike standing_after (dictionary ∷ standing)
TakesDictionary standing standing_after Unread given (Err error) = Refuses Unread error given

-- ---- what stands at some blocks

-- The dictionaries that stand behind those at some blocks, each of which is read under those before it.
abbrev pub standing_after : Layout → List ℕ → List Dictionary → List Block → Option (List Dictionary)
standing_after layout bytes standing [] = Some standing
standing_after layout bytes standing (block ∷ blocks) = do
  dictionary ← dictionary_at layout bytes standing block
  standing_after layout bytes (dictionary ∷ standing) blocks

-- the record batches at some blocks, all under the same dictionaries
abbrev pub batches_at : Layout → List ℕ → List Dictionary → List Block → Option (List (List (List Slot)))
batches_at layout bytes standing [] = Some []
batches_at layout bytes standing (block ∷ blocks) = do
  columns ← batch_at layout bytes standing block
  others ← batches_at layout bytes standing blocks
  Some (columns ∷ others)

-- the message at one of some blocks is compressed, or adds to an earlier dictionary
abbrev pub HasUnread : List ℕ → List Block → Type 0
HasUnread bytes blocks = (k : ℕ) × IsSomeAnd (slice_get blocks k) (IsUnreadAt bytes)

-- one of them is compressed
abbrev pub HasCompressed : List ℕ → List Block → Type 0
HasCompressed bytes blocks = (k : ℕ) × IsSomeAnd (slice_get blocks k) (IsCompressedAt bytes)

-- dictionaries stand like those that the format gives at some blocks; or it gives none
abbrev pub MakesDictionaries : Layout → List ℕ → List Block → Result (BTreeMap ℤ Column) Error → Type 0
MakesDictionaries layout bytes blocks (Ok dictionaries) =
    (standing : List Dictionary) × (standing_after layout bytes [] blocks ≡ Some standing) × StandAlike (standing_in dictionaries) standing
MakesDictionaries layout bytes blocks (Err error) = Refuses (HasUnread bytes blocks) error (standing_after layout bytes [] blocks)

-- what is read of batches of some fields: those that the format gives; or it gives none
abbrev pub ReadsColumns : List Field → Type 0 → Option (List (List (List Slot))) → Result (Vec (List Column) Global) Error → Type 0
ReadsColumns fields Unread given (Ok read) = (given ≡ Some (slots_of_batches read.items)) × All (AreOfFields fields) read.items
ReadsColumns fields Unread given (Err error) = Refuses Unread error given

-- the same of the batches at some blocks, under the dictionaries that stand
abbrev pub ReadsBatches : List Field → Layout → List ℕ → List Dictionary → List Block → Result (Vec (List Column) Global) Error → Type 0
ReadsBatches fields layout bytes standing blocks result =
    ReadsColumns fields (HasCompressed bytes blocks) (batches_at layout bytes standing blocks) result
