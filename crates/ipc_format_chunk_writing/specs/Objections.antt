-- Why a schema or a batch is not written.
use Rattle.std.specs.Prelude.{◌≡◌, true, false, List, Some}
use Rattle.ipc_format_batch_reading.specs.columnar_memory.declared.Error.{Error}
use Rattle.ipc_format_batch_reading.specs.columnar_memory.declared.Error.TheVariants as errors
use Rattle.ipc_format_batch_reading.specs.columnar_memory.declared.Schema.{Schema}
use Rattle.ipc_format_batch_reading.specs.columns.StoredColumns.{Column, in_columns}
use Rattle.ipc_format_batch_reading.specs.grammar.GivenDictionaries.{Given}
use Rattle.ipc_format_batch_reading.specs.grammar.Ids.{ids_fit_fields}
use Rattle.ipc_format_batch_reading.specs.grammar.Schemas.{IdsList}
use Rattle.ipc_format_batch_reading.specs.grammar.Tables.{Form}
use Rattle.ipc_format_batch_reading.specs.grammar.WriterRuns.{another_dictionary, another_schema, long_message, write_bar}
use Rattle.ipc_format_batch_reading.specs.grammar.WrittenStreams.{is_written_with, stored_columns}
use Rattle.ipc_format_batch_reading.specs.grammar.WrittenMessages.{fits_limit, schema_written}
use Rattle.ipc_format_batch_reading.specs.streams.owned.writing.Floats.{has_float}
use Rattle.ipc_format_chunk_writing.specs.ShortColumns.{are_short}

-- Why a batch of a stream or a file is an invalid argument with some ids: these are none of the schema, the batch doesn't belong to it, or two of
-- its dictionaries of one id differ, or in a file one differs from an earlier one; or an array, at some depth, is longer than arrays may be.
pub data Objection (form : Form) (schema : Schema) (ids : IdsList) (told : List Given) (columns : List Column) : Type 0 where
  other_ids : ids_fit_fields schema.fields ids ≡ false → Objection form schema ids told columns
  other_schema : write_bar form schema ids told (stored_columns columns) ≡ Some another_schema → Objection form schema ids told columns
  other_dictionary : write_bar form schema ids told (stored_columns columns) ≡ Some another_dictionary → Objection form schema ids told columns
  long_array : are_short (in_columns columns) ≡ false → Objection form schema ids told columns

-- Why a batch is not written with some ids: it is an invalid argument; or a message is too long; or memory ran out.
abbrev pub IsNotWritten : Form → Error → Schema → IdsList → List Given → List Column → Type 0
IsNotWritten form (errors.InvalidArgumentError what) schema ids told columns = Objection form schema ids told columns
IsNotWritten form errors.Overflow schema ids told columns = write_bar form schema ids told (stored_columns columns) ≡ Some long_message
IsNotWritten form errors.OutOfMemory schema ids told columns = Unit {0}
IsNotWritten form _ schema ids told columns = ⊥

-- a float stands in the schema; or it breaks another rule, or the ids don't fit; or its message is too long; or memory ran out
abbrev pub IsNotStarted : Error → Schema → IdsList → Type 0
IsNotStarted (errors.NotYetImplemented what) schema ids = has_float schema ≡ true
IsNotStarted (errors.InvalidArgumentError what) schema ids = (has_float schema ≡ false) × (is_written_with schema ids ≡ false)
IsNotStarted errors.Overflow schema ids = fits_limit (schema_written schema ids) ≡ false
IsNotStarted errors.OutOfMemory schema ids = Unit {0}
IsNotStarted _ schema ids = ⊥
