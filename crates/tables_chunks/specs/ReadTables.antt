-- What is read of some bytes as a table, by their form (Arrow IPC, "IPC File Format", "IPC Streaming Format").
use Rattle.std.specs.Prelude.{◌≡◌, ℕ, List, Some, None, Result, Ok, Err}
use Rattle.ipc_format.specs.Refusals.{HasTooManyRows, HasUnimplemented}
use Rattle.ipc_format.specs.columnar_memory.declared.Error.TheVariants as errors
use Rattle.ipc_format.specs.grammar.Tables.{stream, file, batches_in, table_of}
use Rattle.tables_chunks.specs.declared.fault.Fault.{Fault}
use Rattle.tables_chunks.specs.declared.fault.Fault.TheVariants as faults
use Rattle.tables_chunks.specs.declared.read.Form.{Form}
use Rattle.tables_chunks.specs.declared.read.Form.TheVariants as forms
use Rattle.tables_chunks.specs.Reading.{ReadsStream, slots_of_batches}
use Rattle.tables_chunks.specs.StoredTables.{Stored, as_table}

-- The table that the format gives of a stream, batch by batch; or why it gives none (`ReadsStream`).
abbrev pub ReadsStreamTable : Result Stored Fault → List ℕ → Type 0
ReadsStreamTable (Ok table) bytes =
    (table_of stream bytes ≡ Some (as_table table)) × (batches_in stream bytes ≡ Some (slots_of_batches table.batches))
ReadsStreamTable (Err fault) bytes = ReadsStream (Err fault) bytes

-- The table that the format gives of a file, batch by batch. Of what is refused as out of specification the format gives no batches. Nor does it of
-- what isn't implemented, in which stands the mark of Feather, a float field, a compressed batch, or a dictionary that adds to an earlier one. For
-- too many rows its first batches have them. Memory may run out anywhere.
abbrev pub ReadsFileTable : Result Stored Fault → List ℕ → Type 0
ReadsFileTable (Ok table) bytes =
    (table_of file bytes ≡ Some (as_table table)) × (batches_in file bytes ≡ Some (slots_of_batches table.batches))
ReadsFileTable (Err faults.Memory) bytes = Unit {0}
ReadsFileTable (Err (faults.Ipc (errors.OutOfSpec what))) bytes = batches_in file bytes ≡ None
ReadsFileTable (Err (faults.Ipc (errors.NotYetImplemented what))) bytes =
    (batches_in file bytes ≡ None) × HasUnimplemented file bytes
ReadsFileTable (Err faults.TooManyRows) bytes = (table_of file bytes ≡ None) × HasTooManyRows file bytes
ReadsFileTable (Err _) bytes = ⊥

-- what is read of the bytes of each form
abbrev pub ReadsTable : Form → Result Stored Fault → List ℕ → Type 0
ReadsTable forms.Stream result bytes = ReadsStreamTable result bytes
ReadsTable forms.File result bytes = ReadsFileTable result bytes
