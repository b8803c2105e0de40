-- When two tables are the same, and how many slots are compared to tell.
use Rattle.std.specs.Prelude.{◌≡◌, ◌↔◌, IsTrue, ℕ, ◌<◌, ◌≤◌, Bool, List, [], length, map, drop, sum_by, nat_le, slice_index_or, Result, Ok, Err}
use Rattle.std.specs.List.{list_all}
use Rattle.ipc_format.specs.columns.SlotNodes.{slot_nodes}
use Rattle.ipc_format.specs.columns.Slots.{Slot, window}
use Rattle.ipc_format.specs.columns.StoredColumns.{Column, column_len, slot_at}
use Rattle.tables_chunks.specs.Batches.{batch_len, stored_rows, AreBatches}
use Rattle.tables_chunks.specs.declared.fault.Fault.{Fault}
use Rattle.tables_chunks.specs.StoredTables.{Stored, as_table}

-- row i of a batch, by its columns
abbrev pub stored_row : List Column → ℕ → List Slot
stored_row batch i = map (λ column. slot_at column i) batch

-- n rows of a batch from row i on
abbrev pub rows_from : List Column → ℕ → ℕ → List (List Slot)
rows_from batch i n = window (stored_row batch) i n

-- each column has so many slots, or more
abbrev pub have_rows : ℕ → List Column → Bool
have_rows n batch = list_all (λ column. nat_le n (column_len column)) batch

-- the rows of batches from row a of batch i on
abbrev pub rows_behind : List (List Column) → ℕ → ℕ → List (List Slot)
rows_behind batches i a = drop a (stored_rows (drop i batches))

-- a place among batches: that of a row of one of them, of the end of one, or behind the last
abbrev pub IsPlace : List (List Column) → ℕ → ℕ → Type 0
IsPlace batches i a = i < length batches → a ≤ batch_len (slice_index_or batches i [])

-- batches of one width, with as many rows
pub record AreAlike (left right : List (List Column)) : Type 0 where
  pub width : ℕ
  pub left_batches : AreBatches width left
  pub right_batches : AreBatches width right
  pub counts : length (stored_rows left) ≡ length (stored_rows right)

-- how many slots stand in rows, at every depth
abbrev pub nodes_in : List (List Slot) → ℕ
nodes_in rows = sum_by (sum_by slot_nodes) rows

-- how many slots stand in a table's rows, at every depth
abbrev pub table_nodes : Stored → ℕ
table_nodes table = nodes_in (stored_rows table.batches)

-- the answer says whether two tables have one schema and the same rows, however these are cut into batches; there is always one
abbrev pub TellsSame : Stored → Stored → Result Bool Fault → Type 0
TellsSame left right (Ok answer) = IsTrue answer ↔ (as_table left ≡ as_table right)
TellsSame left right (Err fault) = ⊥
