-- Batches that are added to a file: encoded, told and placed behind what is written.
use Rattle.std.specs.Prelude.{◌≡◌, ◌⊎◌, true, List, [], ◌∷◌, ◌++◌, None, Result, Ok, Err}
use Rattle.std.specs.List.{list_all}
use Rattle.ipc_format_readers.specs.chunk_writing.Objections.{IsNotWritten}
use Rattle.ipc_format_readers.specs.chunk_writing.Tracking.{Tells}
use Rattle.ipc_format_readers.specs.chunk_writing.columnar_memory.declared.Error.{Error}
use Rattle.ipc_format_readers.specs.chunk_writing.columnar_memory.declared.Error.TheVariants as errors
use Rattle.ipc_format_readers.specs.chunk_writing.columnar_memory.declared.Schema.{Schema}
use Rattle.ipc_format_readers.specs.chunk_writing.columns.StoredColumns.{Column}
use Rattle.ipc_format_readers.specs.chunk_writing.grammar.GivenDictionaries.{Given, written_after}
use Rattle.ipc_format_readers.specs.chunk_writing.grammar.Ids.{ids_fit_fields}
use Rattle.ipc_format_readers.specs.chunk_writing.grammar.Schemas.{IdsList}
use Rattle.ipc_format_readers.specs.chunk_writing.grammar.Tables.{file}
use Rattle.ipc_format_readers.specs.chunk_writing.grammar.WriterRuns.{write_bar}
use Rattle.ipc_format_readers.specs.chunk_writing.grammar.WrittenFiles.{batch_blocks}
use Rattle.ipc_format_readers.specs.chunk_writing.grammar.WrittenMessages.{Written, fits_limit}
use Rattle.ipc_format_readers.specs.chunk_writing.grammar.WrittenStreams.{Batch, batch_messages, batch_of_stored, stored_columns}
use Rattle.ipc_format.specs.FilePhases.{Progress}
use Rattle.ipc_format.specs.BlockPlacing.{IsPastLimits, IsWithinLimits, joined_blocks, place_behind}

-- what is written of a file with a batch behind it, where some dictionaries were told: where the next message stands then, and the blocks
abbrev pub with_batch : Progress → List Given → Batch → Progress
with_batch before told batch = record before {
  place = place_behind before.place (batch_messages told batch);
  blocks = joined_blocks before.blocks (batch_blocks before.place told (batch ∷ []));
}

-- A batch stands behind what is written of a file, where some dictionaries are told: its dictionaries are told, the place behind its messages
-- is that of the next one, its blocks are added, and the file is within its limits.
pub record IsBehind (before after : Progress) (told : List Given) (batch : Batch) : Type 0 where
  pub tells : Tells after.told (written_after told batch.given)
  pub place : after.place ≡ place_behind before.place (batch_messages told batch)
  pub size : after.size ≡ before.size
  pub blocks : after.blocks ≡ joined_blocks before.blocks (batch_blocks before.place told (batch ∷ []))
  pub within : IsWithinLimits after

-- a batch may be written, but the file would be past its limits with its messages: too long, or of too many dictionaries
abbrev pub IsPastFile : Schema → IdsList → List Given → List Column → Progress → Type 0
IsPastFile schema ids told columns before = (write_bar file schema ids told (stored_columns columns) ≡ None)
    × IsPastLimits (with_batch before told (batch_of_stored ids columns))

-- Why a batch is not added with some ids behind what is written of a file: it is an invalid argument; or a message is too long, or the file
-- would be, or have too many dictionaries; or memory ran out.
abbrev pub IsNotAdded : Error → Schema → IdsList → List Given → List Column → Progress → Type 0
IsNotAdded errors.Overflow schema ids told columns before =
    IsNotWritten file errors.Overflow schema ids told columns ⊎ IsPastFile schema ids told columns before
IsNotAdded error schema ids told columns before = IsNotWritten file error schema ids told columns

-- a batch is encoded and added where some dictionaries are told
pub record IsAdded (old new : Progress) (schema : Schema) (told : List Given) (ids : IdsList) (columns : List Column) (messages : List Written)
    : Type 0 where
  pub fit : ids_fit_fields schema.fields ids ≡ true
  pub bar : write_bar file schema ids told (stored_columns columns) ≡ None
  pub sent : messages ≡ batch_messages told (batch_of_stored ids columns)
  pub limits : list_all fits_limit messages ≡ true
  pub behind : IsBehind old new told (batch_of_stored ids columns)

-- it is; or it is not written, and nothing is changed
abbrev pub AddsAfter : Schema → Progress → Progress → List Given → IdsList → List Column → Result (List Written) Error → Written → Type 0
AddsAfter schema old new told ids columns (Ok messages) own = IsAdded old new schema told ids columns (messages ++ own ∷ [])
AddsAfter schema old new told ids columns (Err error) own = IsNotAdded error schema ids told columns old × (new ≡ old)

-- the same wherever the file tells what was told
abbrev pub AddsBatch : Schema → Progress → Progress → IdsList → List Column → Result (List Written) Error → Written → Type 0
AddsBatch schema old new ids columns result own =
    (told : List Given) → Tells old.told told → AddsAfter schema old new told ids columns result own
