-- The schema with which a stream begins.
use Rattle.std.specs.Prelude.{◌≡◌, true, false, List, [], Option, Some, None, Result, Ok, Err}
use Rattle.std.specs.declared.alloc.Global.{Global}
use Rattle.std.specs.declared.vec.Vec.{Vec}
use Rattle.ipc_format_chunk_writing.specs.EncodedChunks.{message_in}
use Rattle.ipc_format_batch_reading.specs.columnar_memory.declared.Error.{Error}
use Rattle.ipc_format_batch_reading.specs.columnar_memory.declared.Schema.{Schema}
use Rattle.ipc_format_batch_reading.specs.grammar.Ids.{default_ids}
use Rattle.ipc_format_batch_reading.specs.grammar.Schemas.{IdsList}
use Rattle.ipc_format_batch_reading.specs.grammar.WrittenMessages.{fits_limit, schema_written}
use Rattle.ipc_format_batch_reading.specs.grammar.WrittenStreams.{is_written_with}
use Rattle.ipc_format_batch_reading.specs.metadata.Views.{ids_views}
use Rattle.ipc_format_batch_reading.specs.metadata.declared.ipc_schema.IpcField.{IpcField}
use Rattle.ipc_format_batch_reading.specs.streams.declared.EncodedData.{EncodedData}
use Rattle.ipc_format_chunk_writing.specs.Objections.{IsNotStarted}
use Rattle.ipc_format_chunk_writing.specs.declared.state.Stream.{Stream}

-- the ids of a schema's dictionaries that are given, or its default ones
abbrev pub ids_given : Schema → Option (Vec IpcField Global) → IdsList
ids_given schema None = default_ids schema.fields
ids_given schema (Some fields) = ids_views fields.items

-- the ids that are given for a batch, or those of the start
abbrev pub fields_or : List IpcField → Option (List IpcField) → List IpcField
fields_or own None = own
fields_or own (Some fields) = fields

-- a stream of a schema with some ids, to which no dictionary was told
pub record IsOpened (stream : Stream) (encoded : EncodedData) (schema : Schema) (ids : IdsList) : Type 0 where
  pub may : is_written_with schema ids ≡ true
  pub fits : fits_limit (schema_written schema ids) ≡ true
  pub message : message_in encoded ≡ schema_written schema ids
  pub same_schema : stream.schema ≡ schema
  pub same_ids : ids_views stream.ids ≡ ids
  pub none_told : stream.tracker.dictionaries.entries ≡ []

abbrev pub Opens : Result (Stream × EncodedData) Error → Schema → IdsList → Type 0
Opens (Ok opened) schema ids = IsOpened opened.0 opened.1 schema ids
Opens (Err error) schema ids = IsNotStarted error schema ids
