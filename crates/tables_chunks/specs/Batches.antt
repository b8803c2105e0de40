-- What is made of the batches of a table: windows of stored columns, with no cell copied, whose rows are the part, the choice or the join of
-- the rows.
use Rattle.std.specs.Prelude.{◌≡◌, ℕ, ◌+◌, ◌-◌, ◌<◌, ◌≤◌, min, Bool, true, ◌&&◌, ◌==◌, List, [], ◌∷◌, ◌++◌, length, map, if◌then◌else◌}
use Rattle.std.specs.Prelude.{◌↔◌, slice_index_or, slice_range, nat_lt}
use Rattle.std.specs.List.{list_all, flat_map}
use Rattle.ipc_format.specs.columns.Slots.{Slot}
use Rattle.ipc_format.specs.columns.SoundColumns.{is_sound}
use Rattle.ipc_format.specs.columns.StoredColumns.{Column, column_len, cut, slots}
use Rattle.ipc_format.specs.columns.Tables.{rows_of_batches, chosen}

-- ---- batches of stored columns, and their rows

-- how many rows a batch has: as many as its first column has slots, and none without a column
abbrev pub batch_len : List Column → ℕ
batch_len [] = 0
batch_len (column ∷ columns) = column_len column

-- each column is sound and as long as the first
abbrev pub is_batch : List Column → Bool
is_batch batch = list_all (λ column. is_sound column && (column_len column == batch_len batch)) batch

-- the rows that batches hold, one batch after another
abbrev pub stored_rows : List (List Column) → List (List Slot)
stored_rows batches = rows_of_batches (map (λ (batch : List Column). map slots batch) batches)

-- the slots of column k of each batch, one batch after another
abbrev pub column_slots : ℕ → List (List Column) → List Slot
column_slots k batches = flat_map (λ (batch : List Column). slice_index_or (map slots batch) k []) batches

-- ---- parts

-- n rows of a batch from row o on
abbrev pub cut_batch : ℕ → ℕ → List Column → List Column
cut_batch o n batch = map (λ column. cut column o n) batch

-- n rows from row o on: of each batch that has a row of these, the window of its own, in order
abbrev pub cut_batches : ℕ → ℕ → List (List Column) → List (List Column)
cut_batches o n [] = []
cut_batches o n (batch ∷ batches) = let taken = min n (batch_len batch - o) in
    if taken == 0 then cut_batches (o - batch_len batch) n batches
    else cut_batch o taken batch ∷ cut_batches (o - batch_len batch) (n - taken) batches

-- ---- choices

-- the chosen columns of each batch, in the asked order; where none is chosen there is no batch
abbrev pub choose_batches : List ℕ → List (List Column) → List (List Column)
choose_batches [] batches = []
choose_batches (column ∷ columns) batches = map (λ (batch : List Column). chosen (column ∷ columns) batch) batches

-- ---- the laws

-- batches of sound columns of one length each, as many as a width
abbrev pub AreBatches : ℕ → List (List Column) → Type 0
AreBatches width batches = list_all (λ (batch : List Column). is_batch batch && (length batch == width)) batches ≡ true

-- a cut of batches has a range of their rows, in batches of the same width, of which none is empty
abbrev pub CutsHaveParts : Type 0
CutsHaveParts = (width o n : ℕ) (batches : List (List Column)) → AreBatches width batches → o + n ≤ length (stored_rows batches)
    → (stored_rows (cut_batches o n batches) ≡ slice_range (stored_rows batches) o (o + n)) × AreBatches width (cut_batches o n batches)
    × (list_all (λ (batch : List Column). nat_lt 0 (batch_len batch)) (cut_batches o n batches) ≡ true)

-- a choice of columns has the chosen values of each row
abbrev pub ChoicesHaveColumns : Type 0
ChoicesHaveColumns = (width column : ℕ) (columns : List ℕ) (batches : List (List Column)) → AreBatches width batches
    → list_all (λ k. nat_lt k width) (column ∷ columns) ≡ true
    → (stored_rows (choose_batches (column ∷ columns) batches) ≡ map (chosen (column ∷ columns)) (stored_rows batches))
    × AreBatches (length (column ∷ columns)) (choose_batches (column ∷ columns) batches)

-- batches of two tables, one after another, have the rows of both
abbrev pub JoinsHaveBoth : Type 0
JoinsHaveBoth = (width : ℕ) (a b : List (List Column)) → AreBatches width a → AreBatches width b
    → (stored_rows (a ++ b) ≡ stored_rows a ++ stored_rows b) × AreBatches width (a ++ b)

-- cutting and then choosing gives the batches of choosing and then cutting, where a column is chosen
abbrev pub CutsAndChoicesCommute : Type 0
CutsAndChoicesCommute = (width column o n : ℕ) (columns : List ℕ) (batches : List (List Column)) → AreBatches width batches
    → list_all (λ k. nat_lt k width) (column ∷ columns) ≡ true
    → choose_batches (column ∷ columns) (cut_batches o n batches) ≡ cut_batches o n (choose_batches (column ∷ columns) batches)

-- batches of one width, with a column, have the same rows exactly where each of their columns has the same slots over all batches,
-- wherever the batches are divided
abbrev pub RowsAreColumns : Type 0
RowsAreColumns = (width : ℕ) (a b : List (List Column)) → 0 < width → AreBatches width a → AreBatches width b
    → (stored_rows a ≡ stored_rows b) ↔ ((k : ℕ) → k < width → column_slots k a ≡ column_slots k b)
