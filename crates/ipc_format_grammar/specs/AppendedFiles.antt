-- Files to which batches are appended (Arrow IPC, "IPC File Format"; docs/FORMAT.md, "Appending"): behind the last of the file's messages
-- stand those of the new batches, and a new footer says of both.
use Rattle.std.specs.Prelude.{ℕ, ◌+◌, ◌-◌, max, ℤ, pos, negsuc, Bool, true, false, not, List, [], ◌∷◌, ◌++◌, length, map, take, replicate}
use Rattle.std.specs.Prelude.{nat_le, nat_lt, is_none, Option, Some, None, if◌then◌else◌}
use Rattle.std.specs.List.{list_all, list_any}
use Rattle.std.specs.Int.{next_multiple_of}
use Rattle.ipc_format_flatbuffers.specs.Reading.{◌>>=◌, guard}
use Rattle.ipc_format_flatbuffers.specs.Objects.{laid}
use Rattle.ipc_format_grammar.specs.Limits.{most_dictionaries}
use Rattle.ipc_format_grammar.specs.Messages as message
use Rattle.ipc_format_grammar.specs.Schemas.{SchemaIn}
use Rattle.ipc_format_grammar.specs.SchemaGrammar.{schema_in}
use Rattle.ipc_format_grammar.specs.Columns.{Dictionary}
use Rattle.ipc_format_grammar.specs.Dictionaries.{Entry, Layout, dictionary_in}
use Rattle.ipc_format_grammar.specs.Files as read
use Rattle.ipc_format_grammar.specs.Files.{footer_in, entries_at, is_dictionary}
use Rattle.ipc_format_grammar.specs.Tables.{layout_of}
use Rattle.ipc_format_grammar.specs.Encoding.{joined_columns}
use Rattle.ipc_format_grammar.specs.GivenDictionaries.{Given}
use Rattle.ipc_format_grammar.specs.WrittenMessages.{fits_limit, end_mark}
use Rattle.ipc_format_grammar.specs.WrittenStreams.{Batch, Chunk, messages_after, bytes_of_messages, batches_written, belongs}
use Rattle.ipc_format_grammar.specs.WrittenFiles.{WrittenBlock, Blocks, batch_blocks, footer_object, is_footer, file_end, fits_file_limit}
use Rattle.ipc_format_grammar.specs.WrittenFiles.{none_replaced, all_given}

-- ---- the file as it was

abbrev pub is_negative : ℤ → Bool
is_negative (pos n) = false
is_negative (negsuc n) = true

abbrev pub natural_or_0 : ℤ → ℕ
natural_or_0 (pos n) = n
natural_or_0 (negsuc n) = 0

-- a block as it is written again
abbrev pub kept_block : read.Block → WrittenBlock
kept_block block =
    record { offset = block.offset; metadata_length = block.metadata_length; body_length = natural_or_0 block.body_length }

-- where a block's body ends
abbrev pub block_end : WrittenBlock → ℕ
block_end block = block.offset + block.metadata_length + block.body_length

-- the greatest end of some blocks
abbrev pub greatest_end : List WrittenBlock → ℕ
greatest_end [] = 0
greatest_end (block ∷ blocks) = max (block_end block) (greatest_end blocks)

-- why nothing may be appended to a file
pub data AppendBar : Type 0 where
  -- its numbers have their highest byte first: not implemented
  big_endian : AppendBar
  -- it has no record batch: out of specification, as the following
  no_record_batch : AppendBar
  -- a block says that its body has a negative length
  negative_body : AppendBar
  -- a block ends past the file
  block_past_end : AppendBar

abbrev pub is_empty : {A : Type 0} → List A → Bool
is_empty [] = true
is_empty (x ∷ xs) = false

-- the first of the bars, by a file's byte order, its size and its blocks
unfoldable pub append_bar : Bool → ℕ → List read.Block → List read.Block → Option AppendBar
append_bar is_little_endian size dictionaries record_batches = let blocks = dictionaries ++ record_batches in
    if not is_little_endian then Some big_endian
    else if is_empty record_batches then Some no_record_batch
    else if list_any (λ (block : read.Block). is_negative block.body_length) blocks then Some negative_body
    else if nat_lt size (greatest_end (map kept_block blocks)) then Some block_past_end
    else None

-- the dictionaries of messages that are read one after another, the latest first
abbrev pub standing_with : Layout → List Dictionary → Entry → (List Dictionary → Option (List Dictionary)) → message.Header
    → Option (List Dictionary)
standing_with layout standing entry rest (message.dictionary_batch table) = do
  dictionary ← dictionary_in layout standing entry table
  rest (dictionary ∷ standing)
standing_with layout standing entry rest _ = None

abbrev pub standing_behind : Layout → List Dictionary → List Entry → Option (List Dictionary)
standing_behind layout standing [] = Some standing
standing_behind layout standing (entry ∷ others) =
    standing_with layout standing entry (λ now. standing_behind layout now others) entry.header

-- a dictionary that stands in the file, as one that was told; its column is not written again
abbrev pub as_told : Dictionary → Given
as_told dictionary = record { id = dictionary.id; data_type = dictionary.data_type; slots = dictionary.slots; column = joined_columns [] }

-- what is kept of a file: its schema, its blocks, and its dictionaries, the latest first
pub record Base : Type 0 where
  pub found : SchemaIn
  pub dictionaries : List WrittenBlock
  pub record_batches : List WrittenBlock
  pub told : List Given

-- a file to which batches may be appended
unfoldable pub base_of : List ℕ → Option Base
base_of bytes = do
  footer ← footer_in bytes
  found ← schema_in footer.bytes footer.schema
  _ ← guard (is_none (append_bar found.is_little_endian (length bytes) footer.dictionaries footer.record_batches))
  _ ← guard (nat_le (length footer.dictionaries) most_dictionaries)
  entries ← entries_at is_dictionary bytes footer.dictionaries
  standing ← standing_behind (layout_of found) [] entries
  Some (record {
    found = found;
    dictionaries = map kept_block footer.dictionaries;
    record_batches = map kept_block footer.record_batches;
    told = map as_told standing;
  })

-- ---- the file as it becomes

-- where the file's last message ends
abbrev pub base_end : Base → ℕ
base_end base = greatest_end (base.dictionaries ++ base.record_batches)

-- the new messages begin at the next multiple of eight
abbrev pub base_start : Base → ℕ
base_start base = next_multiple_of (base_end base) 8

-- what stands before the new messages: the file up to the end of its last message, and zeros
abbrev pub base_bytes : Base → List ℕ → List ℕ
base_bytes base bytes = take (base_end base) bytes ++ replicate (base_start base - base_end base) 0

-- the file's own blocks before others
abbrev pub with_base : Base → Blocks → Blocks
with_base base new = record {
  dictionaries = base.dictionaries ++ new.dictionaries;
  record_batches = base.record_batches ++ new.record_batches;
}

-- the file's own blocks, and those of the new batches
abbrev pub appended_blocks : Base → List Batch → Blocks
appended_blocks base batches = with_base base (batch_blocks (base_start base) base.told batches)

-- no more dictionaries than are read of a file
abbrev pub has_few_dictionaries : Blocks → Bool
has_few_dictionaries blocks = nat_le (length blocks.dictionaries) most_dictionaries

-- the new footer: the file's own schema and ids, its blocks, and those of the new batches
unfoldable pub appended_footer : Base → List Batch → List ℕ
appended_footer base batches = laid (footer_object base.found.schema base.found.ids (appended_blocks base batches))

-- everything up to the end mark
unfoldable pub appended_messages : Base → List ℕ → List Batch → List ℕ
appended_messages base bytes batches = base_bytes base bytes ++ bytes_of_messages (messages_after base.told batches) ++ end_mark

-- zeros between the end mark and the footer, so that the file is not shorter than before
abbrev pub padding_to : ℕ → List ℕ → List ℕ → List ℕ
padding_to size before behind = replicate (size - (length before + length behind)) 0

unfoldable pub appended_bytes : Base → List ℕ → List Batch → List ℕ
appended_bytes base bytes batches =
    let before = appended_messages base bytes batches in
    let behind = file_end (appended_footer base batches) in
    before ++ padding_to (length bytes) before behind ++ behind

-- A file with batches appended: nothing where none may be appended, a batch doesn't belong to the file's schema, a dictionary is replaced, the
-- file would have more dictionaries than are read of one, or a message, the footer or the file would be too long.
unfoldable pub appended : List ℕ → List Chunk → Option (List ℕ)
appended bytes chunks = do
  base ← base_of bytes
  _ ← guard (list_all (belongs base.found.schema base.found.ids) chunks)
  _ ← guard (none_replaced base.told (all_given (batches_written base.found.schema base.found.ids chunks)))
  _ ← guard (list_all fits_limit (messages_after base.told (batches_written base.found.schema base.found.ids chunks)))
  _ ← guard (has_few_dictionaries (appended_blocks base (batches_written base.found.schema base.found.ids chunks)))
  _ ← guard (is_footer (appended_footer base (batches_written base.found.schema base.found.ids chunks)))
  _ ← guard (fits_file_limit (appended_bytes base bytes (batches_written base.found.schema base.found.ids chunks)))
  Some (appended_bytes base bytes (batches_written base.found.schema base.found.ids chunks))
