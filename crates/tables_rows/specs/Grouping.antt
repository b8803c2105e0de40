-- Rows that are pushed into open columns, in groups of one size: each full group becomes a batch.
use Rattle.std.specs.Prelude.{◌≡◌, ℕ, ◌+◌, ◌<◌, Bool, true, false, ◌&&◌, ◌==◌, List, [], ◌∷◌, ◌++◌, length, map}
use Rattle.std.specs.Prelude.{nat_lt, if◌then◌else◌, Result, Ok, Err}
use Rattle.std.specs.declared.alloc.Global.{Global}
use Rattle.std.specs.declared.vec.Vec.{Vec}
use Rattle.std.specs.List.{list_all}
use Rattle.tables_chunks.specs.declared.fault.Fault.{Fault}
use Rattle.tables_chunks.specs.declared.fault.Fault.TheVariants as faults
use Rattle.tables_chunks.specs.ipc_format.columnar_memory.declared.DataType.{DataType}
use Rattle.tables_chunks.specs.ipc_format.columnar_memory.declared.Error.{Error}
use Rattle.tables_chunks.specs.ipc_format.columnar_memory.declared.Error.TheVariants as errors
use Rattle.tables_chunks.specs.ipc_format.columnar_memory.declared.Field.{Field}
use Rattle.tables_chunks.specs.ipc_format.columns.OpenBatch.{fits}
use Rattle.tables_chunks.specs.ipc_format.columns.Slots.{Slot}
use Rattle.tables_chunks.specs.ipc_format.columns.StoredColumns.{Column, column_len, column_type}
use Rattle.nested_arrays_cells.specs.builders.Begun.{opened_none}
use Rattle.nested_arrays_cells.specs.parts.Open.{Open, column_of, opened, with_slot}

-- ---- open columns

abbrev pub open_fits : Open → Bool
open_fits column = fits column.data_type column.slots

-- a slot more in each of the first columns, as many as a row has
abbrev pub with_row : List Open → List Slot → List Open
with_row [] row = []
with_row (column ∷ columns) [] = column ∷ columns
with_row (column ∷ columns) (slot ∷ slots) = with_slot column slot ∷ with_row columns slots

-- the slots of each fit its type
abbrev pub all_fit : List Open → Bool
all_fit columns = list_all open_fits columns

-- no slots of the same types
abbrev pub emptied : List Open → List Open
emptied columns = map (λ (column : Open). opened column.data_type []) columns

abbrev pub open_types : List Open → List DataType
open_types columns = map (λ (column : Open). column.data_type) columns

-- why rows are not taken: they don't fit, or there was no memory
abbrev pub IsNotTaken : Type 0 → Fault → Type 0
IsNotTaken no_fit faults.Memory = Unit {0}
IsNotTaken no_fit (faults.Lower errors.Overflow) = no_fit
IsNotTaken no_fit _ = ⊥

-- what a push of a slot that is refused is called: that it doesn't fit, where there was memory
abbrev pub refusal_of : Error → Fault
refusal_of errors.OutOfMemory = faults.Memory
refusal_of _ = faults.Lower errors.Overflow

-- a slot is pushed, and all fit; or they don't, or there was no memory
abbrev pub PushesSlot : Open → Slot → Result (Unit {0}) Fault → Open → Type 0
PushesSlot old slot (Ok _) new = (new ≡ with_slot old slot) × (open_fits (with_slot old slot) ≡ true)
PushesSlot old slot (Err fault) new = IsNotTaken (open_fits (with_slot old slot) ≡ false) fault

-- a row is pushed, and all fit; or they don't, or there was no memory
abbrev pub PushesRow : List Open → List Slot → Result (Unit {0}) Fault → List Open → Type 0
PushesRow old row (Ok _) new = (new ≡ with_row old row) × (all_fit (with_row old row) ≡ true)
PushesRow old row (Err fault) new = IsNotTaken (all_fit (with_row old row) ≡ false) fault

-- the columns are taken as arrays, and left empty; or there was no memory
abbrev pub TakesColumns : List Open → Result (Vec Column Global) Fault → List Open → Type 0
TakesColumns old (Ok arrays) new = (arrays.items ≡ map column_of old) × (new ≡ emptied old)
TakesColumns old (Err fault) new = fault ≡ faults.Memory

-- arrays of the columns' types have a row at a place
pub record TakesRow (columns : List Open) (arrays : List Column) (row : ℕ) : Type 0 where
  pub typed : open_types columns ≡ map column_type arrays
  pub inside : list_all (λ (array : Column). nat_lt row (column_len array)) arrays ≡ true

-- ---- groups

-- the batches of the full groups, the open columns of the last group, and how many rows these have
pub record Grouped : Type 0 where
  pub batches : List (List Column)
  pub columns : List Open
  pub count : ℕ

abbrev pub no_rows : List Field → Grouped
no_rows fields = record { batches = []; columns = opened_none fields; count = 0 }

-- the last group as a batch behind the others
abbrev pub closed : Grouped → Grouped
closed groups = record { batches = groups.batches ++ map column_of groups.columns ∷ []; columns = emptied groups.columns; count = 0 }

-- one more row, in groups of n
abbrev pub after_row : ℕ → Grouped → List Slot → Grouped
after_row n groups row =
    let wider : Grouped = record { batches = groups.batches; columns = with_row groups.columns row; count = groups.count + 1 } in
    if groups.count + 1 == n then closed wider else wider

abbrev pub after_rows : ℕ → Grouped → List (List Slot) → Grouped
after_rows n groups [] = groups
after_rows n groups (row ∷ rows) = after_rows n (after_row n groups row) rows

-- whether each of some rows fits when it is pushed
abbrev pub rows_fit : ℕ → Grouped → List (List Slot) → Bool
rows_fit n groups [] = true
rows_fit n groups (row ∷ rows) = all_fit (with_row groups.columns row) && rows_fit n (after_row n groups row) rows

-- the batches of all groups
abbrev pub all_batches : Grouped → List (List Column)
all_batches groups = if groups.count == 0 then groups.batches else (closed groups).batches

-- rows are pushed in groups of n, and each fits; or one doesn't, or there was no memory
abbrev pub PushesRows : ℕ → Grouped → List (List Slot) → Result (Unit {0}) Fault → Grouped → Type 0
PushesRows n old rows (Ok _) new = (rows_fit n old rows ≡ true) × (new ≡ after_rows n old rows)
PushesRows n old rows (Err fault) new = IsNotTaken (rows_fit n old rows ≡ false) fault

-- groups into which rows of some types may be pushed: their columns have these types, and as many slots as there are rows, fewer than n
pub record IsReady (n : ℕ) (types : List DataType) (groups : Grouped) : Type 0 where
  pub typed : open_types groups.columns ≡ types
  pub level : list_all (λ (column : Open). length column.slots == groups.count) groups.columns ≡ true
  pub room : groups.count < n

-- the batches of rows of some fields in groups of n, where each row fits; or one doesn't, or there was no memory
abbrev pub GroupsRows : ℕ → List Field → List (List Slot) → Result (Vec (List Column) Global) Fault → Type 0
GroupsRows n fields rows (Ok batches) =
    (rows_fit n (no_rows fields) rows ≡ true) × (batches.items ≡ all_batches (after_rows n (no_rows fields) rows))
GroupsRows n fields rows (Err fault) = IsNotTaken (rows_fit n (no_rows fields) rows ≡ false) fault
