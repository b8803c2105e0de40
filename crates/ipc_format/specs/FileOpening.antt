-- The schema with which a file begins.
use Rattle.std.specs.Prelude.{◌≡◌, true, [], length, Result, Ok, Err}
use Rattle.ipc_format_readers.specs.chunk_writing.Objections.{IsNotStarted}
use Rattle.ipc_format_readers.specs.chunk_writing.EncodedChunks.{message_in}
use Rattle.ipc_format_readers.specs.chunk_writing.columnar_memory.declared.Error.{Error}
use Rattle.ipc_format_readers.specs.chunk_writing.columnar_memory.declared.Schema.{Schema}
use Rattle.ipc_format_readers.specs.chunk_writing.grammar.Schemas.{IdsList}
use Rattle.ipc_format_readers.specs.chunk_writing.grammar.WrittenFiles.{file_start, place_after}
use Rattle.ipc_format_readers.specs.chunk_writing.grammar.WrittenMessages.{fits_limit, schema_written}
use Rattle.ipc_format_readers.specs.chunk_writing.grammar.WrittenStreams.{is_written_with}
use Rattle.ipc_format_readers.specs.streams.declared.EncodedData.{EncodedData}
use Rattle.ipc_format.specs.FilePhases.{Progress, progress_of}
use Rattle.ipc_format.specs.declared.state as kept
use Rattle.ipc_format.specs.BlockPlacing.{no_blocks}

-- behind the message of a schema nothing is told, and no message stands
abbrev pub first_progress : Schema → IdsList → Progress
first_progress schema ids =
    record { told = []; place = place_after (length file_start) (schema_written schema ids); size = 0; blocks = no_blocks }

-- the message of a schema that may be written with some ids, and what is written behind it
pub record IsOpening (file : kept.Progress.Progress) (message : EncodedData) (schema : Schema) (ids : IdsList) : Type 0 where
  pub may : is_written_with schema ids ≡ true
  pub fits : fits_limit (schema_written schema ids) ≡ true
  pub same : message_in message ≡ schema_written schema ids
  pub first : progress_of file ≡ first_progress schema ids

-- they are given; or the schema is not written
abbrev pub OpensFile : Result (kept.Progress.Progress × EncodedData) Error → Schema → IdsList → Type 0
OpensFile (Ok opened) schema ids = IsOpening opened.0 opened.1 schema ids
OpensFile (Err error) schema ids = IsNotStarted error schema ids
