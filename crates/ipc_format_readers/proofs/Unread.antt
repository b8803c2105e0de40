-- A message that is compressed, or that adds to an earlier dictionary, at a block of a file.
use Rattle.std.proofs.Common.{◌≡◌, ◌∙◌, ℤ, ℕ, ◌+◌, Bool, true, false, ◌||◌, List, refl, sym, ap, subst, inl, inr}
use Rattle.std.specs.Prelude.{Option, Some, None, IsSome, is_some, ◌⊎◌}
use Rattle.ipc_format_chunk_writing.specs.DictionaryReads.{is_unread, is_unread_by}
use Rattle.ipc_format_chunk_writing.specs.flatbuffers.FlatBuffers.{TablePlace, Vector, table_field, vector_field}
use Rattle.ipc_format_chunk_writing.specs.flatbuffers.FlatBuffers.{truth_field, signed_field}
use Rattle.ipc_format_chunk_writing.specs.grammar.Messages.{Header, RecordBatch, DictionaryBatch, Version, record_batch}
use Rattle.ipc_format_chunk_writing.specs.grammar.Messages.{dictionary_batch, record_batch_in, dictionary_batch_in, version_in}
use Rattle.ipc_format_chunk_writing.specs.grammar.Dictionaries.{Entry}
use Rattle.ipc_format_chunk_writing.specs.grammar.Files.{Block, entry_at, header_in, metadata_of}
use Rattle.ipc_format_chunk_writing.specs.grammar.Framing.{Frame, frame_at}
use Rattle.ipc_format_chunk_writing.specs.flatbuffers.Reading.{guard}
use Rattle.ipc_format_chunk_writing.specs.grammar.Refusals.{compression_in, is_delta, message_of_block}
use Rattle.ipc_format_chunk_writing.specs.grammar.SlotNumbers as slots
use Rattle.ipc_format_chunk_writing.specs.streams.Queues.{is_compressed, is_compressed_by}
use Rattle.ipc_format_readers.proofs.Binding.{came_of, or_other, same_some}
use Rattle.ipc_format_readers.specs.BlockMessages.{IsCompressedAt, IsUnreadAt}

-- a batch that is read as compressed refers to a compression
refers : (metadata : List ℕ) (table : TablePlace) (batch : RecordBatch) → record_batch_in metadata table ≡ Some batch → batch.is_compressed ≡ true
    → IsSome (compression_in (metadata, record_batch table))
unfolding record_batch_in
refers metadata table batch e is =
    let a = came_of {A = Option Vector} (vector_field metadata table slots.record_batch_nodes slots.pair_size) _ batch e in
    let b = came_of {A = Vector} (a.0) _ batch a.2 in
    let c = came_of {A = Option Vector} (vector_field metadata table slots.record_batch_buffers slots.pair_size) _ batch b.2 in
    let d = came_of {A = Vector} (c.0) _ batch c.2 in
    let found = came_of {A = Option TablePlace} (table_field metadata table slots.record_batch_compression) _ batch d.2 in
    let same : is_some found.0 ≡ batch.is_compressed = ap (λ (r : Option RecordBatch). (or_other batch r).is_compressed) found.2 in
    rw (found.1) (same ∙ is)

refers_by : (metadata : List ℕ) (table : TablePlace) (given : Option RecordBatch) → record_batch_in metadata table ≡ given
    → is_compressed_by given ≡ true → IsSome (compression_in (metadata, record_batch table))
refers_by metadata table None e is = absurd cc
refers_by metadata table (Some batch) e is = refers metadata table batch e is

pub compressed : (metadata : List ℕ) (table : TablePlace) → is_compressed metadata table ≡ true
    → IsSome (compression_in (metadata, record_batch table))
compressed metadata table is = refers_by metadata table (record_batch_in metadata table) refl is

-- the parts of a dictionary's message
parts : (metadata : List ℕ) (table : TablePlace) (batch : DictionaryBatch) → dictionary_batch_in metadata table ≡ Some batch
    → (table_field metadata table slots.dictionary_batch_data ≡ Some (Some batch.values))
    × (is_delta metadata (dictionary_batch table) ≡ Some batch.is_delta)
unfolding dictionary_batch_in
parts metadata table batch e =
    let a = came_of {A = ℤ} (signed_field _ metadata table slots.dictionary_batch_id _) _ batch e in
    let b = came_of {A = Option TablePlace} (table_field metadata table slots.dictionary_batch_data) _ batch a.2 in
    let c = came_of {A = TablePlace} (b.0) _ batch b.2 in
    let d = came_of {A = Bool} (truth_field metadata table slots.dictionary_batch_is_delta) _ batch c.2 in
    let values : c.0 ≡ batch.values = ap (λ (r : Option DictionaryBatch). (or_other batch r).values) d.2 in
    let delta : d.0 ≡ batch.is_delta = ap (λ (r : Option DictionaryBatch). (or_other batch r).is_delta) d.2 in
    (b.1 ∙ ap Some (c.1 ∙ ap Some values), d.1 ∙ ap Some delta)

either : (metadata : List ℕ) (table : TablePlace) (batch : DictionaryBatch) (delta : Bool) → dictionary_batch_in metadata table ≡ Some batch
    → batch.is_delta ≡ delta → (delta || is_compressed metadata batch.values) ≡ true
    → IsSome (compression_in (metadata, dictionary_batch table)) ⊎ (is_delta metadata (dictionary_batch table) ≡ Some true)
either metadata table batch true e is unread = inr ((parts metadata table batch e).1 ∙ ap Some is)
either metadata table batch false e is unread =
    inl (rw ((parts metadata table batch e).0) (compressed metadata batch.values unread))

pub either_by : (metadata : List ℕ) (table : TablePlace) (given : Option DictionaryBatch) → dictionary_batch_in metadata table ≡ given
    → is_unread_by metadata given ≡ true
    → IsSome (compression_in (metadata, dictionary_batch table)) ⊎ (is_delta metadata (dictionary_batch table) ≡ Some true)
either_by metadata table None e unread = absurd cc
either_by metadata table (Some batch) e unread = either metadata table batch batch.is_delta e refl unread

-- ---- the message at a block

-- the metadata and the header of an entry
abbrev parts_of : Entry → Option (List ℕ × Header)
parts_of entry = Some (entry.metadata, entry.header)

pub message_found : (is_of_kind : Header → Bool) (bytes : List ℕ) (block : Block) (entry : Entry) → entry_at is_of_kind bytes block ≡ Some entry
    → message_of_block bytes block ≡ Some (entry.metadata, entry.header)
unfolding entry_at
message_found is_of_kind bytes block entry e =
    let a = came_of {A = Frame} (frame_at bytes block.offset) _ entry e in
    let b = came_of {A = List ℕ} (metadata_of a.0) _ entry a.2 in
    let c = came_of {A = Header} (header_in b.0) _ entry b.2 in
    let d = came_of {A = Bool} (guard (is_of_kind c.0)) _ entry c.2 in
    let f = came_of {A = Version} (version_in b.0) _ entry d.2 in
    rw (a.1, b.1, c.1) (ap parts_of (same_some {A = Entry} (record {
      metadata = b.0;
      header = c.0;
      version = f.0;
      room = bytes;
      origin = block.offset + block.metadata_length;
    }) entry f.2))

pub batch_unread : (is_of_kind : Header → Bool) (bytes : List ℕ) (block : Block) (entry : Entry) (table : TablePlace)
    → entry_at is_of_kind bytes block ≡ Some entry → entry.header ≡ record_batch table → is_compressed entry.metadata table ≡ true
    → IsCompressedAt bytes block
batch_unread is_of_kind bytes block entry table there is unread =
    rw (message_found is_of_kind bytes block entry there)
    (subst (λ (h : Header). IsSome (compression_in (entry.metadata, h))) (sym is) (compressed entry.metadata table unread))

pub dictionary_unread : (is_of_kind : Header → Bool) (bytes : List ℕ) (block : Block) (entry : Entry) (table : TablePlace)
    → entry_at is_of_kind bytes block ≡ Some entry → entry.header ≡ dictionary_batch table → is_unread entry.metadata table ≡ true
    → IsUnreadAt bytes block
dictionary_unread is_of_kind bytes block entry table there is unread =
    rw (message_found is_of_kind bytes block entry there)
    (subst (λ (h : Header). IsSome (compression_in (entry.metadata, h)) ⊎ (is_delta entry.metadata h ≡ Some true)) (sym is)
    (either_by entry.metadata table (dictionary_batch_in entry.metadata table) refl unread))
