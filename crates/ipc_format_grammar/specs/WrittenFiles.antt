-- Written files (Arrow IPC, "IPC File Format"; File.fbs).
use Rattle.std.specs.Prelude.{ℕ, ◌+◌, ◌^◌, Bool, true, ◌&&◌, List, [], ◌∷◌, ◌++◌, length, replicate, nat_lt, is_none, ◌||◌, Option, Some}
use Rattle.std.specs.List.{flat_map, list_all}
use Rattle.std.specs.Int.{w16, w32, w64, to_le_bytes}
use Rattle.ipc_format_flatbuffers.specs.Reading.{◌>>=◌, guard}
use Rattle.ipc_format_flatbuffers.specs.Objects.{Object, laid, table, elements, no_field, absent_then, number_then, refers_then}
use Rattle.nested_arrays_columns.specs.columnar_memory.declared.Schema.{Schema}
use Rattle.ipc_format_grammar.specs.Limits.{file_limit}
use Rattle.ipc_format_grammar.specs.Schemas.{IdsList}
use Rattle.ipc_format_grammar.specs.SchemaObjects.{schema_object}
use Rattle.ipc_format_grammar.specs.Files.{file_mark}
use Rattle.ipc_format_grammar.specs.GivenDictionaries.{Given, stands_for, last_under, to_write, written_after}
use Rattle.ipc_format_grammar.specs.WrittenMessages.{Written, prefix_size, message_bytes, fits_limit, schema_written}
use Rattle.ipc_format_grammar.specs.WrittenMessages.{record_message, dictionary_message}
use Rattle.ipc_format_grammar.specs.WrittenStreams.{Batch, Chunk, stream_messages, stream_bytes, batches_written, belongs, is_written_with}
use Rattle.ipc_format_grammar.specs.TagNumbers as tags

-- where a message stands in a file: its place, how many bytes stand before its body, and how many its body has
pub record WrittenBlock : Type 0 where
  pub offset : ℕ
  pub metadata_length : ℕ
  pub body_length : ℕ

-- the blocks of a file, of dictionaries and of record batches
pub record Blocks : Type 0 where
  pub dictionaries : List WrittenBlock
  pub record_batches : List WrittenBlock

abbrev pub block_of : ℕ → Written → WrittenBlock
block_of place message =
    record { offset = place; metadata_length = prefix_size + length message.metadata; body_length = length message.body }

-- where the next message stands
abbrev pub place_after : ℕ → Written → ℕ
place_after place message = place + length (message_bytes message)

abbrev pub with_dictionary : WrittenBlock → Blocks → Blocks
with_dictionary block blocks = record blocks { dictionaries = block ∷ blocks.dictionaries }

abbrev pub with_record_batch : WrittenBlock → Blocks → Blocks
with_record_batch block blocks = record blocks { record_batches = block ∷ blocks.record_batches }

-- the blocks of dictionaries from a place on, and then those that come of the place behind them
abbrev pub dictionary_blocks : ℕ → List Given → (ℕ → Blocks) → Blocks
dictionary_blocks place [] rest = rest place
dictionary_blocks place (given ∷ others) rest =
    with_dictionary (block_of place (dictionary_message given)) (dictionary_blocks (place_after place (dictionary_message given)) others rest)

-- the blocks of batches from a place on, where some dictionaries are written already
abbrev pub batch_blocks : ℕ → List Given → List Batch → Blocks
batch_blocks place written [] = record { dictionaries = []; record_batches = [] }
batch_blocks place written (batch ∷ batches) =
    dictionary_blocks place (to_write written batch.given) (λ here.
    let message = record_message batch.rows batch.columns in
    with_record_batch (block_of here message) (batch_blocks (place_after here message) (written_after written batch.given) batches))

-- ---- the footer

-- a block: its offset, the length of its metadata, four bytes of padding, and the length of its body
abbrev pub block_bytes : WrittenBlock → List ℕ
block_bytes block = to_le_bytes w64 block.offset ++ to_le_bytes w32 block.metadata_length ++ replicate 4 0 ++ to_le_bytes w64 block.body_length

abbrev pub blocks_object : List WrittenBlock → Object
blocks_object blocks = elements (length blocks) (flat_map block_bytes blocks)

-- the footer, in version V5
abbrev pub footer_object : Schema → IdsList → Blocks → Object
footer_object schema ids blocks =
    table (number_then w16 tags.version_5 (refers_then (schema_object schema ids) (refers_then (blocks_object blocks.dictionaries)
    (refers_then (blocks_object blocks.record_batches) (absent_then no_field)))))

-- what stands before a file's first message: its mark, and two zeros
abbrev pub file_start : List ℕ
file_start = file_mark ++ replicate 2 0

unfoldable pub footer_bytes : Schema → IdsList → List Batch → List ℕ
footer_bytes schema ids batches =
    laid (footer_object schema ids (batch_blocks (place_after (length file_start) (schema_written schema ids)) [] batches))

-- a footer's length is written as a signed number of four bytes
abbrev pub is_footer : List ℕ → Bool
is_footer footer = nat_lt (length footer) (2 ^ 31)

-- what stands behind the end mark: the footer, its length, and the mark
abbrev pub file_end : List ℕ → List ℕ
file_end footer = footer ++ to_le_bytes w32 (length footer) ++ file_mark

-- a file's bytes: its messages as a stream has them, the footer, the footer's length, and the mark
unfoldable pub file_bytes : Schema → IdsList → List Batch → List ℕ
file_bytes schema ids batches =
    file_start ++ stream_bytes schema ids batches ++ file_end (footer_bytes schema ids batches)

abbrev pub fits_file_limit : List ℕ → Bool
fits_file_limit bytes = nat_lt (length bytes) file_limit

-- a dictionary that a file may hold: the first of its id, or the same
abbrev pub is_first_or_same : List Given → Given → Bool
is_first_or_same written given = is_none (last_under given.id written) || stands_for given (last_under given.id written)

-- no dictionary is replaced
abbrev pub none_replaced : List Given → List Given → Bool
none_replaced written [] = true
none_replaced written (given ∷ others) = is_first_or_same written given && none_replaced (written_after written (given ∷ [])) others

abbrev pub all_given : List Batch → List Given
all_given batches = flat_map (λ (batch : Batch). batch.given) batches

-- A whole file: nothing where the schema isn't written or the ids are none of it, a batch doesn't belong to it, a dictionary is replaced, or
-- a message, the footer or the file is too long.
unfoldable pub written_file : Schema → IdsList → List Chunk → Option (List ℕ)
written_file schema ids chunks = do
  _ ← guard (is_written_with schema ids)
  _ ← guard (list_all (belongs schema ids) chunks)
  _ ← guard (none_replaced [] (all_given (batches_written schema ids chunks)))
  _ ← guard (list_all fits_limit (stream_messages schema ids (batches_written schema ids chunks)))
  _ ← guard (is_footer (footer_bytes schema ids (batches_written schema ids chunks)))
  _ ← guard (fits_file_limit (file_bytes schema ids (batches_written schema ids chunks)))
  Some (file_bytes schema ids (batches_written schema ids chunks))
