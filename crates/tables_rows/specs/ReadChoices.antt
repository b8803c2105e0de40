-- What is read of some bytes as a table of chosen columns under a limit of rows (Arrow IPC, "IPC File Format", "IPC Streaming Format").
use Rattle.std.specs.Prelude.{◌≡◌, ℕ, ◌≤◌, ◌^◌, true, false, List, [], length, Option, Some, None, IsSome, IsSomeAnd, Result, Ok, Err}
use Rattle.std.specs.Option.{option_map}
use Rattle.tables_chunks.specs.Choices.{are_below}
use Rattle.tables_chunks.specs.Reading.{slots_of_batches}
use Rattle.tables_chunks.specs.StoredTables.{Stored, as_table}
use Rattle.tables_chunks.specs.declared.fault.Fault.{Fault}
use Rattle.tables_chunks.specs.declared.fault.Fault.TheVariants as faults
use Rattle.tables_chunks.specs.declared.read.Form.TheVariants as forms
use Rattle.tables_chunks.specs.declared.read.Form as declared
use Rattle.tables_chunks.specs.ipc_format.FileStarts as files
use Rattle.tables_chunks.specs.ipc_format.Framing.{EndsInLaterMessage}
use Rattle.tables_chunks.specs.ipc_format.Reading.{◌>>=◌}
use Rattle.tables_chunks.specs.ipc_format.Refusals.{HasUnimplemented}
use Rattle.tables_chunks.specs.ipc_format.Schemas.{SchemaIn}
use Rattle.tables_chunks.specs.ipc_format.Writable.{normalised}
use Rattle.tables_chunks.specs.ipc_format.columnar_memory.declared.Error.TheVariants as errors
use Rattle.tables_chunks.specs.ipc_format.columns.Tables.{rows_of_batches}
use Rattle.tables_chunks.specs.ipc_format.grammar.Tables.{Form, stream, file, choice_of, chosen_batches, contents_of, layout_of}
use Rattle.tables_chunks.specs.ipc_format.streams.Starts as streams
use Rattle.tables_rows.specs.Gathered.{Batches, kept}

abbrev pub form_of : declared.Form → Form
form_of forms.Stream = stream
form_of forms.File = file

-- the schema of bytes, whatever stands behind it
abbrev pub schema_of_bytes : Form → List ℕ → Option SchemaIn
schema_of_bytes stream bytes = option_map (λ found. found.0.schema) (streams.start_in bytes)
schema_of_bytes file bytes = option_map (λ found. found.schema) (files.start_in bytes)

-- one of the columns is not there
abbrev pub LacksColumn : Form → List ℕ → List ℕ → Type 0
LacksColumn form bytes columns =
    IsSomeAnd (schema_of_bytes form bytes) (λ found. are_below (length (normalised found.schema).fields) columns ≡ false)

-- the stream's schema is read, and the stream ends within the first four bytes of a message after the first
abbrev pub EndsEarly : Form → List ℕ → Type 0
EndsEarly stream bytes = IsSome (streams.start_in bytes) × EndsInLaterMessage bytes
EndsEarly file bytes = ⊥

-- the chosen columns of all batches, each under what is left of the limit
abbrev pub choice_batches : Form → List ℕ → List ℕ → Option ℕ → Option Batches
choice_batches form bytes columns limit = do
  contents ← contents_of form bytes
  chosen_batches (layout_of contents.schema) columns [] limit contents.entries

-- What is read is the choice that the format gives, in its batches that have a row. A column isn't there exactly where the schema that is found
-- hasn't so many; what else is refused says that all are there. Of what is refused as out of specification the format gives no chosen batches, and
-- it is no stream that ends early. Nor does it of what isn't implemented, in which stands the mark of Feather in a file, a float field, a compressed
-- batch, or a dictionary that adds to an earlier one, nor of a stream that ends early. For too many rows the chosen batches have them. Memory may run
-- out anywhere.
abbrev pub ReadsChoice : {A : Type 0} → (A → Stored) → Form → List ℕ → List ℕ → Option ℕ → Result A Fault → Type 0
ReadsChoice content form bytes columns limit (Ok table) = (choice_of form bytes columns limit ≡ Some (as_table (content table)))
    × IsSomeAnd (choice_batches form bytes columns limit) (λ batches. kept batches ≡ slots_of_batches (content table).batches)
ReadsChoice content form bytes columns limit (Err faults.Memory) = Unit {0}
ReadsChoice content form bytes columns limit (Err faults.NoSuchColumn) = LacksColumn form bytes columns
ReadsChoice content form bytes columns limit (Err (faults.Ipc (errors.OutOfSpec what))) =
    (choice_batches form bytes columns limit ≡ None) × ¬ LacksColumn form bytes columns × ¬ EndsEarly form bytes
ReadsChoice content form bytes columns limit (Err (faults.Ipc (errors.NotYetImplemented what))) =
    (choice_batches form bytes columns limit ≡ None) × ¬ LacksColumn form bytes columns × HasUnimplemented form bytes
ReadsChoice content form bytes columns limit (Err faults.Unfinished) =
    (choice_batches form bytes columns limit ≡ None) × ¬ LacksColumn form bytes columns × EndsEarly form bytes
ReadsChoice content form bytes columns limit (Err faults.TooManyRows) =
    (choice_of form bytes columns limit ≡ None) × ¬ LacksColumn form bytes columns
    × IsSomeAnd (choice_batches form bytes columns limit) (λ batches. 2 ^ 64 ≤ length (rows_of_batches batches))
ReadsChoice content form bytes columns limit (Err _) = ⊥
