-- Batches one behind the other: their messages, and their blocks.
use Rattle.std.proofs.Common.{◌≡◌, ◌∙◌, ℕ, ◌+◌, List, [], ◌∷◌, ◌++◌, length, map, refl, sym, ap, append_assoc}
use Rattle.std.proofs.Math.Nat.{add-zero}
use Rattle.std.proofs.lemmas.Grind.{flat_map-append}
use Rattle.std.proofs.lemmas.List.{append-nil, length-append}
use Rattle.ipc_format_readers.specs.chunk_writing.columnar_memory.declared.Schema.{Schema}
use Rattle.ipc_format_readers.specs.chunk_writing.flatbuffers.Objects.{laid}
use Rattle.ipc_format_readers.specs.chunk_writing.grammar.GivenDictionaries.{Given, to_write, written_after}
use Rattle.ipc_format_readers.specs.chunk_writing.grammar.Schemas.{IdsList}
use Rattle.ipc_format_readers.specs.chunk_writing.grammar.WrittenFiles.{Blocks, batch_blocks, block_of, file_bytes, file_end}
use Rattle.ipc_format_readers.specs.chunk_writing.grammar.WrittenFiles.{file_start, footer_bytes, footer_object, place_after}
use Rattle.ipc_format_readers.specs.chunk_writing.grammar.WrittenFiles.{with_record_batch}
use Rattle.ipc_format_readers.specs.chunk_writing.grammar.WrittenMessages.{Written, dictionary_message, end_mark, message_bytes}
use Rattle.ipc_format_readers.specs.chunk_writing.grammar.WrittenMessages.{record_message, schema_written}
use Rattle.ipc_format_readers.specs.chunk_writing.grammar.WrittenStreams.{Batch, batch_messages, bytes_of_messages, messages_after}
use Rattle.ipc_format_readers.specs.chunk_writing.grammar.WrittenStreams.{stream_bytes, stream_messages}
use Rattle.ipc_format.specs.Ends.{end_with, start_bytes}
use Rattle.ipc_format.specs.BlockPlacing.{joined_blocks, place_behind, placed_blocks}
use Rattle.ipc_format.specs.FileRuns.{bytes_so_far, first_place, told_with}
use Rattle.ipc_format.proofs.FileAdded.{blocks_are, dictionaries_are}
use Rattle.ipc_format.proofs.FilePlaced.{place_both, place_more}

-- ---- messages

pub messages_more : (told : List Given) (batches : List Batch) (batch : Batch)
    → messages_after told (batches ++ batch ∷ []) ≡ messages_after told batches ++ batch_messages (told_with told batches) batch
messages_more told [] batch = append-nil (batch_messages told batch)
messages_more told (first ∷ batches) batch =
    let later = written_after told first.given in
    ap (λ (messages : List Written). batch_messages told first ++ messages) (messages_more later batches batch)
    ∙ sym (append_assoc (batch_messages told first) (messages_after later batches) (batch_messages (told_with later batches) batch))

pub told_more : (told : List Given) (batches : List Batch) (batch : Batch)
    → told_with told (batches ++ batch ∷ []) ≡ written_after (told_with told batches) batch.given
told_more told [] batch = refl
told_more told (first ∷ batches) batch = told_more (written_after told first.given) batches batch

pub bytes_more : (schema : Schema) (ids : IdsList) (batches : List Batch) (batch : Batch)
    → bytes_so_far schema ids (batches ++ batch ∷ [])
    ≡ bytes_so_far schema ids batches ++ bytes_of_messages (batch_messages (told_with [] batches) batch)
bytes_more schema ids batches batch =
    let next = batch_messages (told_with [] batches) batch in
    ap (λ (messages : List Written). start_bytes schema ids ++ bytes_of_messages messages) (messages_more [] batches batch)
    ∙ ap (λ (bytes : List ℕ). start_bytes schema ids ++ bytes) (flat_map-append message_bytes (messages_after [] batches) next)
    ∙ sym (append_assoc (start_bytes schema ids) (bytes_of_messages (messages_after [] batches)) (bytes_of_messages next))

-- ---- places

pub place_is : (schema : Schema) (ids : IdsList) (batches : List Batch)
    → length (bytes_so_far schema ids batches) ≡ place_behind (first_place schema ids) (messages_after [] batches)
place_is schema ids batches =
    length-append (start_bytes schema ids) (bytes_of_messages (messages_after [] batches))
    ∙ ap (λ (n : ℕ). n + length (bytes_of_messages (messages_after [] batches)))
    (length-append file_start (message_bytes (schema_written schema ids)))

-- ---- blocks

pub joined_thrice : (a b c : Blocks) → joined_blocks (joined_blocks a b) c ≡ joined_blocks a (joined_blocks b c)
joined_thrice a b c = λ j. record {
  dictionaries = append_assoc a.dictionaries b.dictionaries c.dictionaries j;
  record_batches = append_assoc a.record_batches b.record_batches c.record_batches j;
}

-- those of a batch, and then those of the others
blocks_first : (place : ℕ) (told : List Given) (batch : Batch) (others : List Batch)
    → batch_blocks place told (batch ∷ others)
    ≡ joined_blocks (batch_blocks place told (batch ∷ []))
    (batch_blocks (place_behind place (batch_messages told batch)) (written_after told batch.given) others)
blocks_first place told batch others =
    let messages = map dictionary_message (to_write told batch.given) in
    let own = record_message batch.rows batch.columns in
    let later = written_after told batch.given in
    dictionaries_are place (to_write told batch.given)
    (λ at. with_record_batch (block_of at own) (batch_blocks (place_after at own) later others))
    ∙ ap (λ (behind : ℕ). joined_blocks (placed_blocks place messages own) (batch_blocks behind later others)) (sym (place_more place messages own))
    ∙ ap (λ (head : Blocks). joined_blocks head (batch_blocks (place_behind place (batch_messages told batch)) later others))
    (sym (blocks_are place told batch))

pub blocks_more : (place : ℕ) (told : List Given) (batches : List Batch) (batch : Batch)
    → batch_blocks place told (batches ++ batch ∷ [])
    ≡ joined_blocks (batch_blocks place told batches)
    (batch_blocks (place_behind place (messages_after told batches)) (told_with told batches) (batch ∷ []))
blocks_more place told [] batch = ap (λ (here : ℕ). batch_blocks here told (batch ∷ [])) (sym (add-zero place))
blocks_more place told (first ∷ batches) batch =
    let here = place_behind place (batch_messages told first) in
    let later = written_after told first.given in
    let tail = λ (at : ℕ). batch_blocks at (told_with later batches) (batch ∷ []) in
    let head = batch_blocks place told (first ∷ []) in
    blocks_first place told first (batches ++ batch ∷ [])
    ∙ ap (joined_blocks head) (blocks_more here later batches batch)
    ∙ sym (joined_thrice head (batch_blocks here later batches) (tail (place_behind here (messages_after later batches))))
    ∙ (λ j. joined_blocks (sym (blocks_first place told first batches) j)
    (tail (sym (place_both place (batch_messages told first) (messages_after later batches)) j)))

-- ---- the whole file

pub footer_is : (schema : Schema) (ids : IdsList) (batches : List Batch)
    → laid (footer_object schema ids (batch_blocks (first_place schema ids) [] batches)) ≡ footer_bytes schema ids batches
unfolding footer_bytes
footer_is schema ids batches = refl

pub file_whole : (schema : Schema) (ids : IdsList) (batches : List Batch)
    → bytes_so_far schema ids batches ++ end_with (footer_bytes schema ids batches) ≡ file_bytes schema ids batches
unfolding file_bytes stream_bytes stream_messages
file_whole schema ids batches =
    let first = message_bytes (schema_written schema ids) in
    let bytes = bytes_of_messages (messages_after [] batches) in
    let footer = file_end (footer_bytes schema ids batches) in
    sym (append_assoc (bytes_so_far schema ids batches) end_mark footer)
    ∙ ap (λ (it : List ℕ). it ++ end_mark ++ footer) (append_assoc file_start first bytes)
    ∙ ap (λ (it : List ℕ). it ++ footer) (append_assoc file_start (first ++ bytes) end_mark)
