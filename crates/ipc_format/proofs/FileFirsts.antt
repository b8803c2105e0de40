-- What is written of a file behind the message of its schema.
use Rattle.std.proofs.Common.{◌≡◌, ℕ, ◌+◌, List, [], length, refl, ap, arith}
use Rattle.std.specs.Prelude.{ℤ}
use Rattle.std.proofs.lemmas.List.{length-append}
use Rattle.ipc_format_readers.specs.chunk_writing.columnar_memory.declared.Schema.{Schema}
use Rattle.ipc_format_readers.specs.chunk_writing.columns.StoredColumns.{Column}
use Rattle.ipc_format_readers.specs.chunk_writing.grammar.Schemas.{IdsList}
use Rattle.ipc_format_readers.specs.chunk_writing.grammar.WrittenFiles.{file_start, place_after}
use Rattle.ipc_format_readers.specs.chunk_writing.grammar.WrittenMessages.{Written, message_bytes, schema_written}
use Rattle.ipc_format_readers.specs.streams.messages.declared.Block.{Block}
use Rattle.ipc_format_readers.specs.streams.owned.writing.FooterWriting.{blocks_view}
use Rattle.ipc_format.specs.FileOpening.{first_progress}

-- how long a message is
pub message_length : (message : Written) → length (message_bytes message) ≡ 8 + length message.metadata + length message.body
message_length message = let both = length-append message.metadata message.body in omega (arith, both)

-- the message of a schema has no body
no_body : (schema : Schema) (ids : IdsList) → (schema_written schema ids).body ≡ []
unfolding schema_written
no_body schema ids = refl

pub first_is : (schema : Schema) (ids : IdsList) (metadata : List ℕ) (n : ℕ) (told : List (ℤ × Column)) (dictionaries batches : List Block)
    → metadata ≡ (schema_written schema ids).metadata → n ≡ length metadata → told ≡ [] → dictionaries ≡ [] → batches ≡ []
    → record { told = told; place = 16 + n; size = 0; blocks = blocks_view dictionaries batches } ≡ first_progress schema ids
first_is schema ids metadata n told dictionaries batches same long nothing none neither =
    λ j. record { told = nothing j; place = place j; size = 0; blocks = blocks_view (none j) (neither j) }
  where
    place : 16 + n ≡ place_after (length file_start) (schema_written schema ids)
    place =
        let whole = message_length (schema_written schema ids) in
        let metadata_length : length metadata ≡ length (schema_written schema ids).metadata = ap (λ (bytes : List ℕ). length bytes) same in
        let body_length : length (schema_written schema ids).body ≡ 0 = ap (λ (bytes : List ℕ). length bytes) (no_body schema ids) in
        omega (arith, whole, metadata_length, body_length, long)
