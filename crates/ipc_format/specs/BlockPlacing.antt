-- Where the messages of a file stand, one behind the other (File.fbs, `Block`).
use Rattle.std.specs.Prelude.{◌≡◌, ◌⊎◌, ℕ, ◌+◌, ◌≤◌, ◌<◌, true, false, List, [], ◌∷◌, ◌++◌, length, map, Option, Some, None, Result, Ok, Err}
use Rattle.std.specs.declared.alloc.Global.{Global}
use Rattle.std.specs.declared.vec.Vec.{Vec}
use Rattle.ipc_format_readers.specs.chunk_writing.columnar_memory.Error.{IsOutOfMemory}
use Rattle.ipc_format_readers.specs.chunk_writing.columnar_memory.declared.Error.{Error}
use Rattle.ipc_format_readers.specs.chunk_writing.columnar_memory.declared.Error.TheVariants as errors
use Rattle.ipc_format_readers.specs.chunk_writing.grammar.AppendedFiles.{has_few_dictionaries}
use Rattle.ipc_format_readers.specs.chunk_writing.grammar.Limits.{file_limit}
use Rattle.ipc_format_readers.specs.chunk_writing.grammar.WrittenFiles as files
use Rattle.ipc_format_readers.specs.chunk_writing.grammar.WrittenFiles.{Blocks, block_of, place_after}
use Rattle.ipc_format_readers.specs.chunk_writing.grammar.WrittenMessages.{Written}
use Rattle.ipc_format_readers.specs.chunk_writing.grammar.WrittenStreams.{bytes_of_messages}
use Rattle.ipc_format_readers.specs.streams.messages.declared.Block.{Block}
use Rattle.ipc_format_readers.specs.streams.owned.writing.FooterWriting.{block_view}
use Rattle.ipc_format.specs.FilePhases.{Progress}

-- the place behind some messages
abbrev pub place_behind : ℕ → List Written → ℕ
place_behind place messages = place + length (bytes_of_messages messages)

-- the blocks of messages from a place on
abbrev pub blocks_of : ℕ → List Written → List files.WrittenBlock
blocks_of place [] = []
blocks_of place (message ∷ messages) = block_of place message ∷ blocks_of (place_after place message) messages

-- the blocks of the messages of dictionaries from a place on, and of a batch behind them
abbrev pub placed_blocks : ℕ → List Written → Written → Blocks
placed_blocks place dictionaries batch =
    record { dictionaries = blocks_of place dictionaries; record_batches = block_of (place_behind place dictionaries) batch ∷ [] }

-- some blocks, and others behind them
abbrev pub joined_blocks : Blocks → Blocks → Blocks
joined_blocks first others = record {
  dictionaries = first.dictionaries ++ others.dictionaries;
  record_batches = first.record_batches ++ others.record_batches;
}

-- no message stands in a file
abbrev pub no_blocks : Blocks
no_blocks = record { dictionaries = []; record_batches = [] }

-- ---- steps

-- the block of a message, and the place behind it; nothing where the file would be too long
abbrev pub StandsAt : Option (Block × ℕ) → ℕ → Written → Type 0
StandsAt None place message = file_limit ≤ place_after place message
StandsAt (Some found) place message =
    (block_view found.0 ≡ block_of place message) × (found.1 ≡ place_after place message) × (found.1 < file_limit)

-- the blocks of messages, and the place behind them; or the file would be too long; or memory ran out
abbrev pub StandAt : Result (Vec Block Global × ℕ) Error → ℕ → List Written → Type 0
StandAt (Ok found) place messages = (map block_view found.0.items ≡ blocks_of place messages) × (found.1 ≡ place_behind place messages)
StandAt (Err errors.Overflow) place messages = file_limit ≤ place_behind place messages
StandAt (Err errors.OutOfMemory) place messages = Unit {0}
StandAt (Err _) place messages = ⊥

-- blocks of dictionaries and one of a batch are added; or memory ran out, and nothing is changed
abbrev pub with_blocks : Progress → List files.WrittenBlock → files.WrittenBlock → Progress
with_blocks progress dictionaries batch =
    record progress { blocks = joined_blocks progress.blocks (record { dictionaries = dictionaries; record_batches = batch ∷ [] }) }

abbrev pub JoinsBlocks : Progress → Progress → List files.WrittenBlock → files.WrittenBlock → Result (Unit {0}) Error → Type 0
JoinsBlocks old new dictionaries batch (Ok _) = new ≡ with_blocks old dictionaries batch
JoinsBlocks old new dictionaries batch (Err error) = IsOutOfMemory error × (new ≡ old)

-- the messages of dictionaries, and of a batch behind them, stand behind what was written
abbrev pub with_messages : Progress → List Written → Written → Progress
with_messages progress dictionaries batch = record {
  told = progress.told;
  place = place_behind progress.place (dictionaries ++ batch ∷ []);
  size = progress.size;
  blocks = joined_blocks progress.blocks (placed_blocks progress.place dictionaries batch);
}

-- a footer can state the place behind the last message, and no more dictionaries stand in the file than are read of one
abbrev pub IsWithinLimits : Progress → Type 0
IsWithinLimits progress = (progress.place < file_limit) × (has_few_dictionaries progress.blocks ≡ true)

-- it can't, or more do
abbrev pub IsPastLimits : Progress → Type 0
IsPastLimits progress = (file_limit ≤ progress.place) ⊎ (has_few_dictionaries progress.blocks ≡ false)

-- they do; or the file would be too long, or have too many dictionaries, or memory ran out, and nothing is changed
abbrev pub PlacesBatch : Progress → Progress → List Written → Written → Result (Unit {0}) Error → Type 0
PlacesBatch old new dictionaries batch (Ok _) = (new ≡ with_messages old dictionaries batch) × IsWithinLimits new
PlacesBatch old new dictionaries batch (Err errors.Overflow) = IsPastLimits (with_messages old dictionaries batch) × (new ≡ old)
PlacesBatch old new dictionaries batch (Err errors.OutOfMemory) = new ≡ old
PlacesBatch old new dictionaries batch (Err _) = ⊥
