-- The values that stand at the places of arrays (Arrow columnar format, "Variable-size List Layout" to "Union Layout").
use Rattle.std.specs.Prelude.{◌≡◌, ◌+◌, ◌-◌, ◌*◌, ◌<◌, ℕ, Bool, true, false, List, Option, Some, None, slice_index}
use Rattle.std.specs.Borrow.{Bor}
use Rattle.nested_arrays_core.specs.columnar_memory.Spans.{Spans, offsets_of}
use Rattle.nested_arrays_core.specs.columnar_memory.declared.DataType.{DataType}
use Rattle.nested_arrays_core.specs.columns.Slots.{Slot, null, bytes, items, fields, pick, in_slots}
use Rattle.nested_arrays_core.specs.columns.StoredColumns.{Column, lists, fixed_lists, column_len, cut, is_valid_at, slot_at, slots}
use Rattle.nested_arrays_core.specs.flat.ColumnMasks.{column_mask, with_mask}

-- the value at a place, whatever the mask says
abbrev pub value_at : Column → ℕ → Slot
value_at column i = slot_at (with_mask column None) i

-- ---- values of each layout

-- the items of a list: those of the child between two offsets, or as many as each list has
abbrev pub list_at : Column → ℕ → Column
list_at (lists data_type mask offsets child) i = cut child (slice_index offsets i) (slice_index offsets (i + 1) - slice_index offsets i)
list_at (fixed_lists data_type mask size child) i = cut child (size * i) size
list_at column i = column

-- a part of the child has the items of a list
abbrev pub IsList : Column → ℕ → Column → Type 0
IsList column i part = (value_at column i ≡ items (in_slots (slots part))) × (part ≡ list_at column i)

-- the same of lists with these offsets and items, of any type and under any mask
abbrev pub IsListBetween : Spans → Column → ℕ → Column → Type 0
IsListBetween offsets child i part =
    (data_type : DataType) (mask : Option (List Bool)) → IsList (lists data_type mask (offsets_of offsets) child) i part

-- the slots of a struct's fields
abbrev pub IsRow : Column → ℕ → List Slot → Type 0
IsRow column i row = value_at column i ≡ fields (in_slots row)

-- the slot that a union picks
abbrev pub IsPicked : Column → ℕ → Slot → Type 0
IsPicked column i slot = (data_type : DataType) × (slot_at column i ≡ pick data_type slot)

-- the bytes of a string of one size
abbrev pub IsByteString : Column → ℕ → Bor (List ℕ) → Type 0
IsByteString column i content = value_at column i ≡ bytes content.now

-- ---- slots

-- What is read of a slot: its value where the mask says that it has one, else none. In a dictionary that value may be a null.
abbrev pub IsRead : {X : Type 0} → (Column → ℕ → X → Type 0) → Column → ℕ → Option X → Type 0
IsRead is_value column i None = (is_valid_at (column_mask column) i ≡ false) × (slot_at column i ≡ null)
IsRead is_value column i (Some x) =
    (is_valid_at (column_mask column) i ≡ true) × (slot_at column i ≡ value_at column i) × is_value column i x

-- the same of any place: none where there is no such place
abbrev pub IsReadWithin : {X : Type 0} → (Column → ℕ → X → Type 0) → Column → ℕ → Option X → Type 0
IsReadWithin is_value column i None = i < column_len column → IsRead is_value column i None
IsReadWithin is_value column i (Some x) = (i < column_len column) × IsRead is_value column i (Some x)
