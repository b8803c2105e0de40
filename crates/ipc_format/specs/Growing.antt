-- Files to which batches are added: what is kept of a file as it was, and the batches that stand behind it (Arrow IPC, "IPC File Format";
-- docs/FORMAT.md, "Appending").
use Rattle.std.specs.Prelude.{◌≡◌, ◌⊎◌, ℕ, ◌<◌, ◌≤◌, ◌^◌, ℤ, Bool, true, false, List, ◌++◌, map}
use Rattle.std.specs.Prelude.{Option, Some, None, Result, Ok, Err, MatchResult}
use Rattle.std.specs.List.{list_any}
use Rattle.std.specs.Int.{next_multiple_of}
use Rattle.std.specs.declared.alloc.Global.{Global}
use Rattle.std.specs.declared.vec.Vec.{Vec}
use Rattle.ipc_format_readers.specs.FileStarts.{block_view, start_view}
use Rattle.ipc_format_readers.specs.chunk_writing.Tracking.{Tells}
use Rattle.ipc_format_readers.specs.chunk_writing.columnar_memory.Error.{IsOutOfMemory}
use Rattle.ipc_format_readers.specs.chunk_writing.columnar_memory.declared.Error.{Error}
use Rattle.ipc_format_readers.specs.chunk_writing.columnar_memory.declared.Error.TheVariants as errors
use Rattle.ipc_format_readers.specs.chunk_writing.columns.StoredColumns.{Column}
use Rattle.ipc_format_readers.specs.chunk_writing.grammar.AppendedFiles.{AppendBar, append_bar, big_endian, block_end, greatest_end}
use Rattle.ipc_format_readers.specs.chunk_writing.grammar.AppendedFiles.{block_past_end, is_negative, kept_block, negative_body}
use Rattle.ipc_format_readers.specs.chunk_writing.grammar.AppendedFiles.{no_record_batch}
use Rattle.ipc_format_readers.specs.chunk_writing.grammar.Files as read
use Rattle.ipc_format_readers.specs.chunk_writing.grammar.GivenDictionaries.{Given}
use Rattle.ipc_format_readers.specs.chunk_writing.grammar.Limits.{file_limit}
use Rattle.ipc_format_readers.specs.chunk_writing.grammar.WrittenFiles.{WrittenBlock, Blocks, batch_blocks}
use Rattle.ipc_format_readers.specs.chunk_writing.grammar.WrittenStreams.{Batch, messages_after}
use Rattle.ipc_format_readers.specs.declared.blocks.MessageBlock.{MessageBlock}
use Rattle.ipc_format_readers.specs.declared.file_metadata.FileMetadata.{FileMetadata}
use Rattle.ipc_format_readers.specs.streams.messages.declared.Block as owned
use Rattle.ipc_format_readers.specs.streams.owned.writing.FooterWriting as footer
use Rattle.ipc_format.specs.FilePhases.{Progress, progress_of}
use Rattle.ipc_format.specs.declared.state as kept_state
use Rattle.ipc_format.specs.BlockPlacing.{joined_blocks, place_behind}
use Rattle.ipc_format.specs.FileRuns.{told_with}

-- ---- the file as it was

-- why nothing may be added to a file, by what its footer says and by its size
abbrev pub bar_of : FileMetadata → Option AppendBar
bar_of metadata = let start = start_view metadata in
    append_bar start.schema.is_little_endian metadata.size start.dictionaries start.record_batches

-- blocks as they are written again
abbrev pub kept : List read.Block → List WrittenBlock
kept blocks = map kept_block blocks

abbrev pub kept_blocks : FileMetadata → Blocks
kept_blocks metadata =
    record { dictionaries = kept (start_view metadata).dictionaries; record_batches = kept (start_view metadata).record_batches }

-- where the last of a file's messages ends
abbrev pub end_of_blocks : Blocks → ℕ
end_of_blocks blocks = greatest_end (blocks.dictionaries ++ blocks.record_batches)

-- What stands of a file to which batches are added, where some dictionaries are told: the next message begins at the first multiple of eight
-- behind its messages.
abbrev pub grown : FileMetadata → List (ℤ × Column) → Progress
grown metadata told = record {
  told = told;
  place = next_multiple_of (end_of_blocks (kept_blocks metadata)) 8;
  size = metadata.size;
  blocks = kept_blocks metadata;
}

-- ---- steps

-- where a block's body ends; nothing where that is past 64 bits
abbrev pub EndsAt : Option ℕ → WrittenBlock → Type 0
EndsAt None block = 2 ^ 64 ≤ block_end block
EndsAt (Some end) block = end ≡ block_end block

-- one of some blocks says that its body has a negative length
abbrev pub has_negative : List read.Block → Bool
has_negative blocks = list_any (λ (block : read.Block). is_negative block.body_length) blocks

-- The greatest end of some blocks, none of which says that its body has a negative length; nothing where one does, or ends past a size.
abbrev pub EndWithin : Option ℕ → ℕ → List read.Block → Type 0
EndWithin (Some end) size blocks = (has_negative blocks ≡ false) × (end ≡ greatest_end (kept blocks)) × (end ≤ size)
EndWithin None size blocks = (has_negative blocks ≡ true) ⊎ (size < greatest_end (kept blocks))

-- a bar that is a fault of the file
abbrev pub IsFaultBar : Option AppendBar → Type 0
IsFaultBar None = ⊥
IsFaultBar (Some big_endian) = ⊥
IsFaultBar (Some no_record_batch) = Unit {0}
IsFaultBar (Some negative_body) = Unit {0}
IsFaultBar (Some block_past_end) = Unit {0}

-- where a file's last message ends, and new ones may stand behind it; or nothing may be added to the file
abbrev pub EndsMessages : FileMetadata → Result ℕ Error → Type 0
EndsMessages metadata (Ok end) = (bar_of metadata ≡ None) × (end ≡ end_of_blocks (kept_blocks metadata)) × (end ≤ metadata.size)
EndsMessages metadata (Err (errors.NotYetImplemented what)) = bar_of metadata ≡ Some big_endian
EndsMessages metadata (Err (errors.OutOfSpec what)) = IsFaultBar (bar_of metadata)
EndsMessages metadata (Err _) = ⊥

-- blocks are kept; or memory ran out
abbrev pub KeepsBlocks : Result (Vec owned.Block Global) Error → List MessageBlock → Type 0
KeepsBlocks result blocks = MatchResult result (λ found. map footer.block_view found.items ≡ kept (map block_view blocks)) IsOutOfMemory

-- what stands of a file, where some dictionaries are told; or it is past the limit of files, or memory ran out
abbrev pub Grows : FileMetadata → List (ℤ × Column) → Result kept_state.Progress.Progress Error → Type 0
Grows metadata told (Ok file) = (progress_of file ≡ grown metadata told) × (metadata.size < file_limit)
Grows metadata told (Err errors.Overflow) = file_limit ≤ metadata.size
Grows metadata told (Err errors.OutOfMemory) = Unit {0}
Grows metadata told (Err _) = ⊥

-- ---- batches behind

-- Batches stand behind what was written of a file, where some dictionaries were told.
pub record StandBehind (before after : Progress) (told : List Given) (batches : List Batch) : Type 0 where
  pub tells : Tells after.told (told_with told batches)
  pub place : after.place ≡ place_behind before.place (messages_after told batches)
  pub size : after.size ≡ before.size
  pub blocks : after.blocks ≡ joined_blocks before.blocks (batch_blocks before.place told batches)
