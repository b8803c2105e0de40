-- What the stream of a table's groups says of its seal.
use Rattle.std.proofs.Common.{◌≡◌, ℕ, true, map, subst}
use Rattle.std.specs.Prelude.{IfOk, Result, Ok, Err}
use Rattle.std.specs.declared.alloc.Global.{Global}
use Rattle.std.specs.declared.vec.Vec.{Vec}
use Rattle.tables_chunks.specs.declared.fault.Fault.{Fault}
use Rattle.tables_chunks.specs.declared.fault.Fault.TheVariants as faults
use Rattle.tables_chunks.specs.ipc_format.columnar_memory.declared.Error.TheVariants as errors
use Rattle.tables_chunks.specs.ipc_format.columns.Rows.{batch_of_rows}
use Rattle.tables_chunks.specs.ipc_format.columns.Tables.{Table}
use Rattle.tables_chunks.specs.ipc_format.reading_laws.SealLaws.{IsTableOfTexts, SealsReadBack}
use Rattle.tables_chunks.specs.ipc_format.Seals.{groups_of, is_batch_size, is_sealable}
use Rattle.tables_chunks.specs.Batches.{stored_rows}
use Rattle.tables_chunks.specs.StoredTables.{Stored, IsTable, as_table}
use Rattle.tables_rows.specs.Seals.{GroupsTable, ReadInBatches, Seals, Streams}
use Rattle.tables_rows.proofs.RowCounts.{rows_of_fields}
use Rattle.tables_rows.proofs.SealedBytes.{stream_is_seal, too_long}

abbrev groups_in : ℕ → Stored → Stored
groups_in n table = record table { batches = map (batch_of_rows table.schema.fields) (groups_of n (stored_rows table.batches)) }

-- where the groups are those of the table
answers_by : (table : Stored) (n : ℕ) (result : Result (Vec ℕ Global) Fault) → is_sealable table.schema ≡ true → is_batch_size n ≡ true
    → IsTable table.schema table.batches → GroupsTable n table (Ok (groups_in n table)) → Streams (groups_in n table) result
    → Seals (as_table table) n result
answers_by table n (Ok bytes) can size its groups streams =
    stream_is_seal table.schema (stored_rows table.batches) n can groups.0 bytes.items size
    (rows_of_fields table.schema.fields table.batches its.whole) streams.0 streams.1
answers_by table n (Err (faults.Ipc errors.Overflow)) can size its groups streams =
    (can, groups.0, too_long table.schema (stored_rows table.batches) n can groups.0 streams.0 streams.1 streams.2)
answers_by table n (Err faults.Memory) can size its groups streams = tt
answers_by table n (Err (faults.Ipc (errors.NotYetImplemented what))) can size its groups streams = absurd streams
answers_by table n (Err (faults.Ipc (errors.InvalidArgumentError what))) can size its groups streams = absurd streams
answers_by table n (Err (faults.Ipc (errors.ExternalFormat what))) can size its groups streams = absurd streams
answers_by table n (Err (faults.Ipc (errors.OutOfSpec what))) can size its groups streams = absurd streams
answers_by table n (Err (faults.Ipc (errors.External from what))) can size its groups streams = absurd streams
answers_by table n (Err (faults.Ipc (errors.Io what))) can size its groups streams = absurd streams
answers_by table n (Err (faults.Ipc errors.OutOfMemory)) can size its groups streams = absurd streams
answers_by table n (Err (faults.Lower error)) can size its groups streams = absurd streams
answers_by table n (Err faults.Unfinished) can size its groups streams = absurd streams
answers_by table n (Err (faults.NotSealable bar)) can size its groups streams = absurd streams
answers_by table n (Err faults.RowWidth) can size its groups streams = absurd streams
answers_by table n (Err faults.NoColumns) can size its groups streams = absurd streams
answers_by table n (Err faults.TooManyRows) can size its groups streams = absurd streams
answers_by table n (Err faults.NoSuchColumn) can size its groups streams = absurd streams

-- what is answered of the stream of the groups is what the seal promises
pub seal_answers : (table : Stored) (n : ℕ) (groups : Stored) (result : Result (Vec ℕ Global) Fault) → is_sealable table.schema ≡ true
    → is_batch_size n ≡ true → IsTable table.schema table.batches → GroupsTable n table (Ok groups) → Streams groups result
    → Seals (as_table table) n result
seal_answers table n groups result can size its grouped streams =
    answers_by table n result can size its (subst (λ (g : Stored). GroupsTable n table (Ok g)) grouped.1 grouped)
    (subst (λ (g : Stored). Streams g result) grouped.1 streams)

-- where seals read back, so does the one that is answered
pub seal_reads_back : SealsReadBack → (table : Table) (n : ℕ) (result : Result (Vec ℕ Global) Fault) → IsTableOfTexts table → Seals table n result
    → IfOk result (λ bytes. ReadInBatches bytes.items table n)
seal_reads_back law table n (Ok bytes) its is = λ behind. law table n bytes.items behind its is
seal_reads_back law table n (Err fault) its is = tt
