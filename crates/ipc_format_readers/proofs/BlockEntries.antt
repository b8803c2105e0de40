-- The message at a block, by its metadata and by what these carry.
use Rattle.std.proofs.Common.{◌≡◌, ◌∙◌, ℕ, ◌+◌, Bool, List, sym, ap}
use Rattle.std.specs.Option.{option_map}
use Rattle.std.specs.Prelude.{Option, Some, None, IfSome}
use Rattle.ipc_format_chunk_writing.specs.BatchReads.{entry_in}
use Rattle.ipc_format_chunk_writing.specs.flatbuffers.Reading.{◌>>=◌, guard}
use Rattle.ipc_format_chunk_writing.specs.grammar.Dictionaries.{Entry}
use Rattle.ipc_format_chunk_writing.specs.grammar.Files.{Block, entry_at, header_in, is_dictionary, is_record_batch, metadata_of}
use Rattle.ipc_format_chunk_writing.specs.grammar.Framing.{Frame, frame_at}
use Rattle.ipc_format_chunk_writing.specs.grammar.Messages.{Header, Version, version_in}
use Rattle.ipc_format_chunk_writing.specs.messages.declared.batches.DictionaryBatchRef.{DictionaryBatchRef}
use Rattle.ipc_format_chunk_writing.specs.messages.declared.batches.RecordBatchRef.{RecordBatchRef}
use Rattle.ipc_format_chunk_writing.specs.messages.declared.values.MetadataVersion.{MetadataVersion}
use Rattle.ipc_format_readers.proofs.Binding.{bind_assoc, bind_same}
use Rattle.ipc_format_readers.specs.BlockMessages.{batch_entry, dictionary_entry, metadata_at}
use Rattle.ipc_format_readers.specs.MessagesTaken.{found_batch, found_dictionary, message_in}

-- a message by its metadata and by its header
abbrev pub entry_of : List ℕ → Block → List ℕ → Header × Version → Entry
entry_of bytes block metadata found = entry_in metadata found.0 found.1 (block.offset + block.metadata_length) bytes

abbrev made : List ℕ → Block → List ℕ → Header × Version → Option Entry
made bytes block metadata found = Some (entry_of bytes block metadata found)

-- the message of some metadata
abbrev entry_with : (Header → Bool) → List ℕ → Block → List ℕ → Option Entry
entry_with is_of_kind bytes block metadata = message_in is_of_kind metadata >>= made bytes block metadata

entry_by : (is_of_kind : Header → Bool) (bytes : List ℕ) (block : Block)
    → entry_at is_of_kind bytes block ≡ (metadata_at bytes block.offset >>= entry_with is_of_kind bytes block)
unfolding entry_at
entry_by is_of_kind bytes block =
    sym (bind_assoc {A = Frame} (frame_at bytes block.offset) metadata_of (entry_with is_of_kind bytes block)
    ∙ bind_same {A = Frame} (frame_at bytes block.offset) _ _ (λ frame.
    bind_same {A = List ℕ} (metadata_of frame) _ _ (λ metadata.
    bind_assoc {A = Header} (header_in metadata) _ (made bytes block metadata)
    ∙ bind_same {A = Header} (header_in metadata) _ _ (λ header.
    bind_assoc {A = Bool} (guard (is_of_kind header)) _ (made bytes block metadata)
    ∙ bind_same {A = Bool} (guard (is_of_kind header)) _ _ (λ is.
    bind_assoc {A = Version} (version_in metadata) (λ version. Some (header, version)) (made bytes block metadata))))))

pub entry_found : (is_of_kind : Header → Bool) (bytes : List ℕ) (block : Block) (metadata : List ℕ) (found : Header × Version)
    → metadata_at bytes block.offset ≡ Some metadata → message_in is_of_kind metadata ≡ Some found
    → entry_at is_of_kind bytes block ≡ Some (entry_of bytes block metadata found)
entry_found is_of_kind bytes block metadata found there is =
    entry_by is_of_kind bytes block
    ∙ ap (λ (m : Option (List ℕ)). m >>= entry_with is_of_kind bytes block) there
    ∙ ap (λ (f : Option (Header × Version)). f >>= made bytes block metadata) is

pub no_metadata : (is_of_kind : Header → Bool) (bytes : List ℕ) (block : Block) → metadata_at bytes block.offset ≡ None
    → entry_at is_of_kind bytes block ≡ None
no_metadata is_of_kind bytes block none =
    entry_by is_of_kind bytes block ∙ ap (λ (m : Option (List ℕ)). m >>= entry_with is_of_kind bytes block) none

pub no_message : (is_of_kind : Header → Bool) (bytes : List ℕ) (block : Block) (metadata : List ℕ)
    → metadata_at bytes block.offset ≡ Some metadata → message_in is_of_kind metadata ≡ None → entry_at is_of_kind bytes block ≡ None
no_message is_of_kind bytes block metadata there none =
    entry_by is_of_kind bytes block
    ∙ ap (λ (m : Option (List ℕ)). m >>= entry_with is_of_kind bytes block) there
    ∙ ap (λ (f : Option (Header × Version)). f >>= made bytes block metadata) none

-- ---- as the code has it

pub dictionary_stands : (bytes metadata : List ℕ) (block : Block) (result : Option (DictionaryBatchRef × MetadataVersion))
    → metadata_at bytes block.offset ≡ Some metadata → option_map found_dictionary result ≡ message_in is_dictionary metadata
    → IfSome result (λ found. found.0.table.bytes.now ≡ metadata)
    → option_map (dictionary_entry bytes block) result ≡ entry_at is_dictionary bytes block
dictionary_stands bytes metadata block None there value stands = sym (no_message is_dictionary bytes block metadata there (sym value))
dictionary_stands bytes metadata block (Some found) there value stands =
    ap (λ (m : List ℕ). Some (entry_of bytes block m (found_dictionary found))) stands
    ∙ sym (entry_found is_dictionary bytes block metadata (found_dictionary found) there (sym value))

pub batch_stands : (bytes metadata : List ℕ) (block : Block) (result : Option (RecordBatchRef × MetadataVersion))
    → metadata_at bytes block.offset ≡ Some metadata → option_map found_batch result ≡ message_in is_record_batch metadata
    → IfSome result (λ found. found.0.table.bytes.now ≡ metadata)
    → option_map (batch_entry bytes block) result ≡ entry_at is_record_batch bytes block
batch_stands bytes metadata block None there value stands = sym (no_message is_record_batch bytes block metadata there (sym value))
batch_stands bytes metadata block (Some found) there value stands =
    ap (λ (m : List ℕ). Some (entry_of bytes block m (found_batch found))) stands
    ∙ sym (entry_found is_record_batch bytes block metadata (found_batch found) there (sym value))
