-- The chosen columns of messages, one after another, as a table keeps them (Arrow IPC, "RecordBatch message", "Dictionary Messages").
use Rattle.std.specs.Prelude.{◌≡◌, ◌⊎◌, ℕ, ◌<◌, ◌≤◌, ◌^◌, true, not, nat_eq, List, [], length, All, slice_get}
use Rattle.std.specs.Prelude.{Option, Some, None, IsSome, IsSomeAnd, Result, Ok, Err}
use Rattle.std.specs.List.{filter}
use Rattle.std.specs.declared.alloc.Global.{Global}
use Rattle.std.specs.declared.vec.Vec.{Vec}
use Rattle.tables_chunks.specs.Messages.{AreOfFields}
use Rattle.tables_chunks.specs.Reading.{slots_of_batches}
use Rattle.tables_chunks.specs.StoredTables.{Stored}
use Rattle.tables_chunks.specs.declared.fault.Fault.{Fault}
use Rattle.tables_chunks.specs.declared.fault.Fault.TheVariants as faults
use Rattle.tables_chunks.specs.ipc_format.columnar_memory.declared.Error.{Error}
use Rattle.tables_chunks.specs.ipc_format.columnar_memory.declared.Error.TheVariants as errors
use Rattle.tables_chunks.specs.ipc_format.columnar_memory.declared.Field.{Field}
use Rattle.tables_chunks.specs.ipc_format.columnar_memory.declared.Schema.{Schema}
use Rattle.tables_chunks.specs.ipc_format.columns.Slots.{Slot}
use Rattle.tables_chunks.specs.ipc_format.columns.StoredColumns.{Column}
use Rattle.tables_chunks.specs.ipc_format.columns.Tables.{chosen, rows_of_batches, rows_of_columns}
use Rattle.tables_chunks.specs.ipc_format.Dictionaries.{Entry, Layout}
use Rattle.tables_chunks.specs.ipc_format.Refusals.{compression_in, is_delta}
use Rattle.tables_chunks.specs.ipc_format.grammar.Tables.{chosen_batches}

-- the slots of batches, column by column
abbrev pub Batches : Type 0
Batches = List (List (List Slot))

-- the batches that have a row
abbrev pub kept : Batches → Batches
kept batches = filter (λ columns. not (nat_eq (rows_of_columns columns) 0)) batches

-- some of the messages is compressed, or adds to an earlier dictionary
abbrev pub HasUnread : List Entry → Type 0
HasUnread entries = (k : ℕ) × IsSomeAnd (slice_get entries k) (λ entry.
    IsSome (compression_in (entry.metadata, entry.header)) ⊎ (is_delta entry.metadata entry.header ≡ Some true))

-- What is gathered of the chosen columns of messages, each under what is left of a limit: the batches that have a row; or the format gives none.
abbrev pub GathersBatches : Layout → List ℕ → Option ℕ → List Entry → Result (Vec (List Column) Global) Error → Type 0
GathersBatches layout columns limit entries (Ok chunks) =
    IsSomeAnd (chosen_batches layout columns [] limit entries) (λ batches. kept batches ≡ slots_of_batches chunks.items)
    × All (AreOfFields (chosen columns layout.fields)) chunks.items
GathersBatches layout columns limit entries (Err (errors.OutOfSpec what)) = chosen_batches layout columns [] limit entries ≡ None
GathersBatches layout columns limit entries (Err (errors.NotYetImplemented what)) =
    (chosen_batches layout columns [] limit entries ≡ None) × HasUnread entries
GathersBatches layout columns limit entries (Err errors.OutOfMemory) = Unit {0}
GathersBatches layout columns limit entries (Err _) = ⊥

-- The table of these batches under the chosen fields, or why there is none; for too many rows they have them.
abbrev pub GathersTable : Schema → Layout → List ℕ → Option ℕ → List Entry → Result Stored Fault → Type 0
GathersTable schema layout columns limit entries (Ok table) = (table.schema ≡ record schema { fields = chosen columns schema.fields })
    × IsSomeAnd (chosen_batches layout columns [] limit entries) (λ batches.
    (kept batches ≡ slots_of_batches table.batches) × (length (rows_of_batches batches) < 2 ^ 64))
GathersTable schema layout columns limit entries (Err faults.Memory) = Unit {0}
GathersTable schema layout columns limit entries (Err (faults.Ipc (errors.OutOfSpec what))) =
    chosen_batches layout columns [] limit entries ≡ None
GathersTable schema layout columns limit entries (Err (faults.Ipc (errors.NotYetImplemented what))) =
    (chosen_batches layout columns [] limit entries ≡ None) × HasUnread entries
GathersTable schema layout columns limit entries (Err faults.TooManyRows) =
    IsSomeAnd (chosen_batches layout columns [] limit entries) (λ batches. 2 ^ 64 ≤ length (rows_of_batches batches))
GathersTable schema layout columns limit entries (Err _) = ⊥
