-- What is taken of a message that stands in a room, and what its metadata carry (Arrow IPC, "Encapsulated message format").
use Rattle.std.specs.Prelude.{ℕ, ℤ, pos, negsuc, zero, suc, false, Bool, List, ◌∷◌, Option, Some, None, IsSomeAnd, Result}
use Rattle.ipc_format_chunk_writing.specs.Rooms.{ReadsAs, Told}
use Rattle.ipc_format_chunk_writing.specs.Standing.{StandAlike}
use Rattle.ipc_format_chunk_writing.specs.columnar_memory.declared.Error.{Error}
use Rattle.ipc_format_chunk_writing.specs.flatbuffers.Reading.{◌>>=◌, guard}
use Rattle.ipc_format_chunk_writing.specs.flatbuffers.Views.{table_of}
use Rattle.ipc_format_chunk_writing.specs.grammar.Columns.{Dictionary}
use Rattle.ipc_format_chunk_writing.specs.grammar.Dictionaries.{Layout}
use Rattle.ipc_format_chunk_writing.specs.grammar.Files.{Block, header_in}
use Rattle.ipc_format_chunk_writing.specs.grammar.Messages as message
use Rattle.ipc_format_chunk_writing.specs.grammar.Messages.{Version, version_in}
use Rattle.ipc_format_chunk_writing.specs.messages.MessageViews.{version_view}
use Rattle.ipc_format_chunk_writing.specs.messages.declared.batches.DictionaryBatchRef.{DictionaryBatchRef}
use Rattle.ipc_format_chunk_writing.specs.messages.declared.batches.RecordBatchRef.{RecordBatchRef}
use Rattle.ipc_format_chunk_writing.specs.messages.declared.values.MetadataVersion.{MetadataVersion}
use Rattle.ipc_format_readers.specs.BlockMessages.{IsUnreadAt, dictionary_at, metadata_at, stated_metadata}
use Rattle.ipc_format_readers.specs.FileReads.{ReadsOf}

-- how many bytes the metadata have behind a stated length
abbrev pub stated_size : ℤ → Option ℕ
stated_size (pos zero) = None
stated_size (pos (suc n)) = Some (suc n)
stated_size (negsuc n) = None

-- the metadata of a stated length from a place on are taken; or there are none
abbrev pub TakesStated : {A : Type 0} → Told → Told → ℤ → ℕ → List ℕ → Result A Error → Type 0
TakesStated old new stated place metadata result =
    ReadsAs false old new (λ done. metadata) (λ bytes. stated_metadata bytes stated place) result

-- the metadata of the message at a place are taken; or none stands there
abbrev pub TakesMetadataAt : {A : Type 0} → Told → Told → ℕ → List ℕ → Result A Error → Type 0
TakesMetadataAt old new place metadata result = ReadsAs false old new (λ done. metadata) (λ bytes. metadata_at bytes place) result

-- the header of a message of a kind, and its version
abbrev pub message_in : (message.Header → Bool) → List ℕ → Option (message.Header × Version)
message_in is_of_kind metadata = do
  header ← header_in metadata
  _ ← guard (is_of_kind header)
  version ← version_in metadata
  Some (header, version)

abbrev pub found_dictionary : DictionaryBatchRef × MetadataVersion → message.Header × Version
found_dictionary found = (message.dictionary_batch (table_of found.0.table.place), version_view found.1)

abbrev pub found_batch : RecordBatchRef × MetadataVersion → message.Header × Version
found_batch found = (message.record_batch (table_of found.0.table.place), version_view found.1)

-- The dictionary of the message at a block stands from here on, as the latest one; or the format gives none there.
abbrev pub TakesDictionaryAt : {A : Type 0} → Layout → Block → List Dictionary → List Dictionary → Told → Told → Result A Error → Type 0
TakesDictionaryAt layout block standing standing_after old new result =
    ReadsOf old new
    (λ done bytes. IsSomeAnd (dictionary_at layout bytes standing block) (λ dictionary. StandAlike standing_after (dictionary ∷ standing)))
    (λ bytes. IsUnreadAt bytes block) (λ bytes. dictionary_at layout bytes standing block) result
