-- What a call that seals answers (docs/FORMAT.md, "What is written").
use Rattle.std.specs.Prelude.{◌≡◌, ℕ, true, false, List, ◌++◌, map, Option, Some, Result, Ok, Err}
use Rattle.std.specs.declared.alloc.Global.{Global}
use Rattle.std.specs.declared.vec.Vec.{Vec}
use Rattle.tables_chunks.specs.declared.fault.Fault.{Fault}
use Rattle.tables_chunks.specs.declared.fault.Fault.TheVariants as faults
use Rattle.tables_chunks.specs.ipc_format.columnar_memory.declared.Error.TheVariants as errors
use Rattle.tables_chunks.specs.ipc_format.columns.Tables.{Table}
use Rattle.tables_chunks.specs.ipc_format.columns.Rows.{batch_of_rows}
use Rattle.tables_chunks.specs.ipc_format.reading_laws.SealLaws.{ReadsInBatchesOf}
use Rattle.tables_chunks.specs.ipc_format.Seals.{groups_of, is_sealable, groups_fit, messages_fit, sealed}
use Rattle.tables_chunks.specs.Batches.{stored_rows}
use Rattle.tables_chunks.specs.Refusals.{StopsAtTooLong}
use Rattle.tables_chunks.specs.StoredTables.{Stored}
use Rattle.tables_chunks.specs.WrittenTables.{is_table_within, table_bytes}
use Rattle.tables_rows.specs.Bars.{bar_of}
use Rattle.tables_rows.specs.Grouping.{IsNotTaken}

-- The bytes are the seal of a table in batches of n rows. Or a bar stands in its schema; or it may be sealed, and a group of n rows doesn't
-- fit its columns; or each group does, and a message is past its limit; or there was no memory.
abbrev pub Seals : Table → ℕ → Result (Vec ℕ Global) Fault → Type 0
Seals table n (Ok bytes) = sealed table.schema table.rows n ≡ Some bytes.items
Seals table n (Err (faults.NotSealable bar)) = bar_of table.schema ≡ Some bar
Seals table n (Err (faults.Lower errors.Overflow)) = (is_sealable table.schema ≡ true) × (groups_fit table.schema table.rows n ≡ false)
Seals table n (Err (faults.Ipc errors.Overflow)) =
    (is_sealable table.schema ≡ true) × (groups_fit table.schema table.rows n ≡ true) × (messages_fit table.schema table.rows n ≡ false)
Seals table n (Err faults.Memory) = Unit {0}
Seals table n (Err _) = ⊥

-- bytes read as a table, in batches of n rows, the last one shorter, whatever stands behind them
abbrev pub ReadInBatches : List ℕ → Table → ℕ → Type 0
ReadInBatches bytes table n = (behind : List ℕ) → ReadsInBatchesOf n (bytes ++ behind) table

-- ---- the steps of a seal

-- the table of the groups of n rows, where each fits; or one doesn't, or there was no memory
abbrev pub GroupsTable : ℕ → Stored → Result Stored Fault → Type 0
GroupsTable n table (Ok groups) = (groups_fit table.schema (stored_rows table.batches) n ≡ true)
    × (groups ≡ record table { batches = map (batch_of_rows table.schema.fields) (groups_of n (stored_rows table.batches)) })
GroupsTable n table (Err fault) = IsNotTaken (groups_fit table.schema (stored_rows table.batches) n ≡ false) fault

-- a message of a table's stream, or a node in it, is past its limit
abbrev pub IsTooLong : Stored → Type 0
IsTooLong table = (old new : Option (List ℕ)) × StopsAtTooLong old new table.schema table.batches

-- the stream of a table, which is within its limits; or it isn't, or there was no memory
abbrev pub Streams : Stored → Result (Vec ℕ Global) Fault → Type 0
Streams table (Ok bytes) = (is_table_within table.schema table.batches ≡ true) × (bytes.items ≡ table_bytes table.schema table.batches)
Streams table (Err (faults.Ipc errors.Overflow)) = IsTooLong table
Streams table (Err faults.Memory) = Unit {0}
Streams table (Err _) = ⊥
