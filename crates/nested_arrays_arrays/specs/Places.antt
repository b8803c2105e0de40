-- Where the slots inside a slot stand.
use Rattle.std.specs.Prelude.{◌≡◌, ◌+◌, ◌<◌, ◌≤◌, ℕ, false}
use Rattle.nested_arrays_parts.specs.columns.Slots.{Slot, null, truth, number, pair, triple, text, bytes, items, fields, pick, in_slots, window}
use Rattle.nested_arrays_parts.specs.columns.StoredColumns.{Column, Columns, nulls, flat, lists, fixed_lists, records, unions, dictionary, no_column}
use Rattle.nested_arrays_parts.specs.columns.StoredColumns.{column_then, column_len, column_size, columns_size, column_type, is_valid_at, slot_at, slots_at}
use Rattle.nested_arrays_parts.specs.Ranges.{range_nodes}

-- slots by what stands inside them, each class by its number: null, a value without slots inside, items, fields and a pick
abbrev pub slot_class : Slot → ℕ
slot_class null = 0
slot_class (truth b) = 1
slot_class (number kind n) = 1
slot_class (pair kind a b) = 1
slot_class (triple kind a b c) = 1
slot_class (text content) = 1
slot_class (bytes content) = 1
slot_class (items slots) = 2
slot_class (fields slots) = 3
slot_class (pick data_type slot) = 4

-- the class of the slots of a column that are not null; a dictionary's may be of any
abbrev pub column_class : Column → ℕ
column_class (nulls data_type n) = 1
column_class (flat data_type mask stored) = 1
column_class (lists data_type mask offsets child) = 2
column_class (fixed_lists data_type mask size child) = 2
column_class (records data_type mask n children) = 3
column_class (unions data_type ids offsets children) = 4
column_class (dictionary data_type mask keys values) = 5

-- no key names the value of a slot
abbrev pub IsKeyless : Column → ℕ → Type 0
IsKeyless (dictionary data_type mask keys values) i = is_valid_at mask i ≡ false
IsKeyless _ i = Unit {0}

-- the value of a slot is that of another column at a place
pub record IsValue (column : Column) (i : ℕ) (values : Column) (place : ℕ) : Type 0 where
  pub shown : slot_at column i ≡ slot_at values place
  pub within : place < column_len values
  pub smaller : column_size values ≤ column_size column
  pub keyless : IsKeyless values place

-- a slot is a list of so many slots of a smaller column from a place on
pub record AreItems (column : Column) (i : ℕ) (child : Column) (start len : ℕ) : Type 0 where
  pub shown : slot_at column i ≡ items (in_slots (window (slot_at child) start len))
  pub within : start + len ≤ column_len child
  pub smaller : column_size child < column_size column

-- each of several columns has a slot at a place
abbrev pub HavePlace : Columns → ℕ → Type 0
HavePlace no_column i = Unit {0}
HavePlace (column_then column columns) i = (i < column_len column) × HavePlace columns i

-- a slot is a record of the slots of smaller columns at its place
pub record AreFields (column : Column) (i : ℕ) (children : Columns) : Type 0 where
  pub shown : slot_at column i ≡ fields (slots_at children i)
  pub places : HavePlace children i
  pub smaller : columns_size children < column_size column

-- each of several columns has so many slots from a place on
abbrev pub HaveRange : Columns → ℕ → ℕ → Type 0
HaveRange no_column i n = Unit {0}
HaveRange (column_then column columns) i n = (i + n ≤ column_len column) × HaveRange columns i n

-- so many slots from a place on are records of the slots of smaller columns at their places
pub record AreRecords (column : Column) (i n : ℕ) (children : Columns) : Type 0 where
  pub shown : (k : ℕ) → k < n → slot_at column (i + k) ≡ fields (slots_at children (i + k))
  pub ranges : HaveRange children i n
  pub smaller : columns_size children < column_size column

-- so many slots of each of several columns, from a place on, are those of others from a place on
abbrev pub SameFields : Columns → ℕ → Columns → ℕ → ℕ → Type 0
SameFields left i right j n = (k : ℕ) → k < n → slots_at left (i + k) ≡ slots_at right (j + k)

-- how many slots stand in them, at every depth
abbrev pub columns_nodes : Columns → ℕ → ℕ → ℕ
columns_nodes no_column i n = 0
columns_nodes (column_then column columns) i n = range_nodes column i n + columns_nodes columns i n

-- a slot picks a smaller column and a slot there
pub record IsPick (column : Column) (i : ℕ) (child : Column) (place : ℕ) : Type 0 where
  pub shown : slot_at column i ≡ pick (column_type child) (slot_at child place)
  pub within : place < column_len child
  pub smaller : column_size child < column_size column
