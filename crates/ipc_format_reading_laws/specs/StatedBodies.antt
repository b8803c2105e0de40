-- Where the messages of a file stand and where the buffers end that they state (Arrow IPC, "IPC File Format", "RecordBatch message").
use Rattle.std.specs.Prelude.{◌≡◌, ℕ, ◌+◌, ◌≤◌, List, [], ◌∷◌, take, slice_get, Some}
use Rattle.ipc_format_laws.specs.flatbuffers.FlatBuffers.{TablePlace}
use Rattle.ipc_format_laws.specs.grammar.Messages as message
use Rattle.ipc_format_laws.specs.grammar.Messages.{Buffer, RecordBatch, DictionaryBatch, as_buffer, natural, record_batch_in, dictionary_batch_in}
use Rattle.ipc_format_laws.specs.grammar.Messages.{structs_in}
use Rattle.ipc_format_laws.specs.grammar.Dictionaries.{Entry}
use Rattle.ipc_format_laws.specs.grammar.Framing.{metadata_then, frame_at}
use Rattle.ipc_format_laws.specs.grammar.Files as read
use Rattle.ipc_format_laws.specs.grammar.Files.{Footer, footer_in, entries_at, is_dictionary, is_record_batch}

-- each of some buffers, whose offsets count from an origin, ends before an end
abbrev pub BuffersEnd : ℕ → ℕ → List Buffer → Type 0
BuffersEnd end origin buffers = (k : ℕ) (buffer : Buffer) (offset stated : ℕ) → slice_get buffers k ≡ Some buffer
    → natural buffer.offset ≡ Some offset → natural buffer.length ≡ Some stated → origin + offset + stated ≤ end

-- the same of the buffers of a record batch
abbrev pub BatchEnds : ℕ → ℕ → List ℕ → TablePlace → Type 0
BatchEnds end origin metadata table = (batch : RecordBatch) (buffers : List Buffer) → record_batch_in metadata table ≡ Some batch
    → structs_in as_buffer metadata batch.buffers ≡ Some buffers → BuffersEnd end origin buffers

-- the same of a message, by its header
abbrev pub HeaderEnds : ℕ → ℕ → List ℕ → message.Header → Type 0
HeaderEnds end origin metadata (message.schema table) = Unit {0}
HeaderEnds end origin metadata (message.dictionary_batch table) = (batch : DictionaryBatch) → dictionary_batch_in metadata table ≡ Some batch
    → BatchEnds end origin metadata batch.values
HeaderEnds end origin metadata (message.record_batch table) = BatchEnds end origin metadata table

-- the metadata of a block's message and the buffers that it states stand before an end
pub record EntryEnds (end : ℕ) (bytes : List ℕ) (block : read.Block) (entry : Entry) : Type 0 where
  pub metadata : List ℕ
  pub next : ℕ
  pub frame : frame_at (take end bytes) block.offset ≡ Some (metadata_then metadata next)
  pub buffers : HeaderEnds end entry.origin entry.metadata entry.header

-- the same of messages, one for one with their blocks
abbrev pub EntriesEnd : ℕ → List ℕ → List read.Block → List Entry → Type 0
EntriesEnd end bytes [] [] = Unit {0}
EntriesEnd end bytes (block ∷ blocks) (entry ∷ entries) = EntryEnds end bytes block entry × EntriesEnd end bytes blocks entries
EntriesEnd end bytes _ _ = ⊥

-- The same of all messages of a file. Metadata alone tells it: no content of a buffer is looked at.
pub record MessagesEnd (end : ℕ) (bytes : List ℕ) : Type 0 where
  pub footer : Footer
  pub has_footer : footer_in bytes ≡ Some footer
  pub values : List Entry
  pub has_values : entries_at is_dictionary bytes footer.dictionaries ≡ Some values
  pub values_end : EntriesEnd end bytes footer.dictionaries values
  pub columns : List Entry
  pub has_columns : entries_at is_record_batch bytes footer.record_batches ≡ Some columns
  pub columns_end : EntriesEnd end bytes footer.record_batches columns
