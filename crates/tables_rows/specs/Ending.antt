-- Open rows that become a batch, and batches that become a table.
use Rattle.std.specs.Prelude.{◌≡◌, ◌+◌, ◌≤◌, ◌<◌, ◌^◌, List, [], ◌∷◌, ◌++◌, length, Result, Ok, Err}
use Rattle.columnar_memory_types.specs.declared.data_type.Field.{Field}
use Rattle.tables_chunks.specs.Batches.{stored_rows}
use Rattle.tables_chunks.specs.StoredTables.{Stored}
use Rattle.tables_chunks.specs.declared.fault.Fault.{Fault}
use Rattle.tables_chunks.specs.declared.fault.Fault.TheVariants as faults
use Rattle.tables_chunks.specs.ipc_format.columns.Rows.{batch_of_rows}
use Rattle.tables_chunks.specs.ipc_format.columns.Slots.{Slot}
use Rattle.tables_chunks.specs.ipc_format.columns.StoredColumns.{Column}
use Rattle.tables_rows.specs.Building.{Building}

-- batches, and behind them one of some rows, if there are any
abbrev pub with_batch : List Field → List (List Column) → List (List Slot) → List (List Column)
with_batch fields batches [] = batches
with_batch fields batches (row ∷ rows) = batches ++ batch_of_rows fields (row ∷ rows) ∷ []

-- the open rows are a batch behind the others
abbrev pub ended : Building → Building
ended building =
    record { schema = building.schema; batches = with_batch building.schema.fields building.batches building.rows; rows = [] }

-- the open rows are gone
abbrev pub without_rows : Building → Building
without_rows building = record building { rows = [] }

-- The open rows are a batch behind the others, none if there is none, so that the batches have the rows of both. Or there are open rows and these
-- are gone alone: memory ran out, or the rows don't fit 64 bits.
abbrev pub EndsBatch : {U : Type 0} → Building → Result U Fault → Building → Type 0
EndsBatch old (Ok done) new = (new ≡ ended old) × (stored_rows new.batches ≡ stored_rows old.batches ++ old.rows)
    × (length (stored_rows new.batches) < 2 ^ 64)
EndsBatch old (Err faults.Memory) new = (new ≡ without_rows old) × ¬ (old.rows ≡ [])
EndsBatch old (Err faults.TooManyRows) new = (new ≡ without_rows old) × (2 ^ 64 ≤ length (stored_rows old.batches) + length old.rows)
EndsBatch old (Err _) new = ⊥

-- a table as a builder without open rows
abbrev pub as_ended : Stored → Building
as_ended table = record { schema = table.schema; batches = table.batches; rows = [] }

-- The table of the batches, with the open rows as the last one. Or this is refused, and the builder comes back without open rows.
abbrev pub Finishes : Building → Result Stored (Fault × Building) → Type 0
Finishes old (Ok table) = EndsBatch {U = Unit {0}} old (Ok tt) (as_ended table)
Finishes old (Err refused) = EndsBatch {U = Unit {0}} old (Err refused.0) refused.1
