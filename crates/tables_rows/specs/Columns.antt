-- Open columns, one for each field, and the rows that they hold.
use Rattle.std.specs.Prelude.{◌≡◌, ℕ, ◌++◌, ◌&&◌, ◌||◌, not, Bool, true, false, List, [], ◌∷◌, drop, length, map, take, get_or, slice_set, All}
use Rattle.std.specs.Prelude.{Result, Ok, Err}
use Rattle.std.specs.List.{list_all}
use Rattle.columnar_memory_types.specs.declared.data_type.DataType.{DataType}
use Rattle.columnar_memory_types.specs.declared.data_type.Field.{Field}
use Rattle.columnar_memory_types.specs.Error.{IsOutOfMemory}
use Rattle.columnar_memory_types.specs.declared.error.Error.{Error}
use Rattle.columnar_memory_types.specs.declared.error.Error.TheVariants as errors
use Rattle.tables_chunks.specs.declared.fault.Fault.{Fault}
use Rattle.tables_chunks.specs.declared.fault.Fault.TheVariants as faults
use Rattle.tables_chunks.specs.ipc_format.columns.Cells.{fits_cell}
use Rattle.tables_chunks.specs.ipc_format.columns.FreshLaws.{is_buildable}
use Rattle.tables_chunks.specs.ipc_format.columns.OpenBatch.{fits}
use Rattle.tables_chunks.specs.ipc_format.columns.Slots.{Slot}
use Rattle.tables_chunks.specs.ipc_format.columns.StoredColumns.{Column}
use Rattle.tables_chunks.specs.ipc_format.columns.Tables.{batch_rows, rows_of_columns}
use Rattle.nested_arrays_cells.specs.parts.Open.{Open, opened, column_of, first_slots, with_slot}

-- ---- columns

abbrev pub types_of : List Open → List DataType
types_of columns = map (λ (column : Open). column.data_type) columns

abbrev pub field_types : List Field → List DataType
field_types fields = map (λ (field : Field). field.data_type) fields

abbrev pub slots_of_each : List Open → List (List Slot)
slots_of_each columns = map (λ (column : Open). column.slots) columns

-- how many slots the first column has
abbrev pub open_count : List Open → ℕ
open_count columns = rows_of_columns (slots_of_each columns)

-- the rows that columns hold
abbrev pub rows_of : List Open → List (List Slot)
rows_of columns = batch_rows (slots_of_each columns)

-- each has so many slots
abbrev pub AreLong : ℕ → List Open → Type 0
AreLong count columns = All (λ (column : Open). length column.slots ≡ count) columns

-- a column for each field, of its type, and all of one length
pub record AreOpen (fields : List Field) (columns : List Open) : Type 0 where
  pub types : types_of columns ≡ field_types fields
  pub long : AreLong (open_count columns) columns

-- the slots of a column fit its type
abbrev pub is_fitting : Open → Bool
is_fitting column = fits column.data_type column.slots

-- the slots of each column fit its type, and slots of the type are stored as they come
abbrev pub are_fitting : List Open → Bool
are_fitting columns = list_all (λ (column : Open). is_fitting column && is_buildable column.data_type) columns

-- ---- pushing

-- one more slot behind each
abbrev pub with_each : List Open → List Slot → List Open
with_each [] slots = []
with_each (column ∷ columns) [] = column ∷ columns
with_each (column ∷ columns) (slot ∷ slots) = with_slot column slot ∷ with_each columns slots

-- each slot fits the type of its column
abbrev pub are_taken : List Open → List Slot → Bool
are_taken [] slots = true
are_taken (column ∷ columns) [] = true
are_taken (column ∷ columns) (slot ∷ slots) = fits_cell column.data_type slot && are_taken columns slots

-- whether a column with its slot doesn't fit, though the slot and those before it fit their types
abbrev pub slots_overflow : List Open → List Slot → Bool
slots_overflow (column ∷ columns) (slot ∷ slots) =
    fits_cell column.data_type slot && (not (is_fitting (with_slot column slot)) || slots_overflow columns slots)
slots_overflow _ _ = false

-- what a column refused: want of memory, or what is said of the cell
abbrev pub lowered : Error → Fault
lowered errors.OutOfMemory = faults.Memory
lowered error = faults.Lower error

-- the first `count` columns with their first `held` slots alone
abbrev pub cut_back : ℕ → ℕ → List Open → List Open
cut_back count held columns = map (λ (column : Open). first_slots column held) (take count columns) ++ drop count columns

-- why a slot is not taken behind those of a column
abbrev pub IsRefused : Open → Slot → Fault → Type 0
IsRefused column slot faults.Memory = Unit {0}
IsRefused column slot (faults.Lower (errors.InvalidArgumentError what)) = fits_cell column.data_type slot ≡ false
IsRefused column slot (faults.Lower errors.Overflow) = (fits_cell column.data_type slot ≡ true) × (is_fitting (with_slot column slot) ≡ false)
IsRefused column slot _ = ⊥

-- Why slots are not taken behind those of each of some columns: one doesn't fit its type; or it and those before it do, and its column doesn't fit
-- with it; or memory ran out.
abbrev pub IsShort : List Open → List Slot → Fault → Type 0
IsShort columns slots faults.Memory = Unit {0}
IsShort columns slots (faults.Lower (errors.InvalidArgumentError what)) = are_taken columns slots ≡ false
IsShort columns slots (faults.Lower errors.Overflow) = slots_overflow columns slots ≡ true
IsShort columns slots _ = ⊥

-- A slot stands behind those of the column at a place, and these fit. Or it is refused, and the columns before it have their first slots alone.
abbrev pub PushesAt : {U : Type 0} → List Open → ℕ → ℕ → Slot → List Open → Result U Fault → Type 0
PushesAt old place held slot new (Ok done) =
    (d : Open) → (new ≡ slice_set old place (with_slot (get_or old place d) slot)) × (is_fitting (with_slot (get_or old place d) slot) ≡ true)
PushesAt old place held slot new (Err fault) = (d : Open) → (new ≡ cut_back place held old) × IsRefused (get_or old place d) slot fault

-- a slot stands behind those of each column, and all fit; or the columns are as they were
abbrev pub PushesEach : {U : Type 0} → List Open → List Slot → List Open → Result U Fault → Type 0
PushesEach old slots new (Ok done) = (new ≡ with_each old slots) × (list_all is_fitting (with_each old slots) ≡ true)
PushesEach old slots new (Err fault) = (new ≡ old) × IsShort old slots fault

-- ---- taking

-- a column without its slots
abbrev pub emptied : Open → Open
emptied column = opened column.data_type []

-- The arrays store what the columns held, and these are left empty. Or memory ran out, and they may be left as they were, but for their slots.
abbrev pub TakesFirst : {V : Type 0} → (V → List Column) → List Open → List Open → Result V Error → Type 0
TakesFirst arrays old new (Ok taken) = (new ≡ map emptied old) × (arrays taken ≡ map column_of old)
TakesFirst arrays old new (Err error) = (map emptied new ≡ map emptied old) × IsOutOfMemory error

-- The batch stores what the columns held, which fit, or memory ran out; they are left empty.
abbrev pub TakesBatch : List Open → List Open → Result (List Column) Fault → Type 0
TakesBatch old new (Ok batch) = (new ≡ map emptied old) × (batch ≡ map column_of old) × (are_fitting old ≡ true)
TakesBatch old new (Err fault) = (new ≡ map emptied old) × (fault ≡ faults.Memory)
