-- A schema that is written, and the batches that are encoded behind it, in a stream or a file.
use Rattle.std.specs.Prelude.{◌≡◌, ◌⊎◌, ℤ, Bool, true, false, List, [], ◌∷◌, ◌++◌, None, Result, Ok, Err}
use Rattle.std.specs.List.{list_all}
use Rattle.ipc_format_batch_reading.specs.columnar_memory.declared.Error.{Error}
use Rattle.ipc_format_batch_reading.specs.columnar_memory.declared.Error.TheVariants as errors
use Rattle.ipc_format_batch_reading.specs.columnar_memory.declared.Schema.{Schema}
use Rattle.ipc_format_batch_reading.specs.columnar_memory.declared.Field.{Field}
use Rattle.ipc_format_batch_reading.specs.columns.StoredColumns.{Column, column_type, in_columns}
use Rattle.ipc_format_batch_reading.specs.grammar.GivenDictionaries.{Given, written_after}
use Rattle.ipc_format_batch_reading.specs.grammar.Ids.{ids_fit_fields}
use Rattle.ipc_format_batch_reading.specs.grammar.Schemas.{IdsList}
use Rattle.ipc_format_batch_reading.specs.grammar.Tables.{Form}
use Rattle.ipc_format_batch_reading.specs.grammar.WriterRuns.{write_bar}
use Rattle.ipc_format_batch_reading.specs.grammar.WrittenMessages.{Written, fits_limit}
use Rattle.ipc_format_batch_reading.specs.grammar.WrittenStreams.{batch_messages, batch_of_stored, belongs, pass_each, stored_columns}
use Rattle.ipc_format_chunk_writing.specs.Tracking.{Tells, form_by}
use Rattle.ipc_format_chunk_writing.specs.Types.{have_one_form}
use Rattle.ipc_format_chunk_writing.specs.Objections.{IsNotWritten}
use Rattle.ipc_format_chunk_writing.specs.ShortColumns.{are_short}

-- why a batch does not belong to a schema with some ids
abbrev pub IsOther : Error → Schema → IdsList → List Column → Type 0
IsOther (errors.InvalidArgumentError what) schema ids columns = (ids_fit_fields schema.fields ids ≡ false)
    ⊎ ((belongs schema ids (stored_columns columns) ≡ false) ⊎ (are_short (in_columns columns) ≡ false))
IsOther errors.OutOfMemory schema ids columns = Unit {0}
IsOther _ schema ids columns = ⊥

-- a batch belongs to a schema, and the ids do
abbrev pub Admits : Result (Unit {0}) Error → Schema → IdsList → List Column → Type 0
Admits (Ok _) schema ids columns = (ids_fit_fields schema.fields ids ≡ true) × (belongs schema ids (stored_columns columns) ≡ true)
Admits (Err error) schema ids columns = IsOther error schema ids columns

-- as many columns as fields, each of the one form of its field's type
abbrev pub have_forms : List Field → List Column → Bool
have_forms fields columns = pass_each (λ (field : Field) (column : Column). have_one_form (column_type column) field.data_type) fields columns

-- a batch is encoded under a schema with some ids behind what was told, which may be written
pub record IsEncodedIn (form : Form) (schema : Schema) (old new : List (ℤ × Column) × Bool) (told : List Given) (ids : IdsList)
    (columns : List Column) (messages : List Written) (own : Written) : Type 0 where
  pub fit : ids_fit_fields schema.fields ids ≡ true
  pub bar : write_bar form schema ids told (stored_columns columns) ≡ None
  pub sent : messages ++ own ∷ [] ≡ batch_messages told (batch_of_stored ids columns)
  pub limits : list_all fits_limit (messages ++ own ∷ []) ≡ true
  pub tells : Tells new.0 (written_after told (batch_of_stored ids columns).given)
  pub kind : new.1 ≡ old.1

-- it is, or it is not written, and what was told is as it was
abbrev pub EncodesIn : Form → Schema → List (ℤ × Column) × Bool → List (ℤ × Column) × Bool → List Given → IdsList → List Column
    → Result (List Written) Error → Written → Type 0
EncodesIn form schema old new told ids columns (Ok messages) own = IsEncodedIn form schema old new told ids columns messages own
EncodesIn form schema old new told ids columns (Err error) own = IsNotWritten form error schema ids told columns × (new ≡ old)

abbrev pub EncodesBatch : Schema → List (ℤ × Column) × Bool → List (ℤ × Column) × Bool → IdsList → List Column → Result (List Written) Error
    → Written → Type 0
EncodesBatch schema old new ids columns result own =
    (told : List Given) → Tells old.0 told → EncodesIn (form_by old.1) schema old new told ids columns result own
