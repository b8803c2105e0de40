-- The values that the keys of dictionaries name, as items of one kind (Arrow columnar format, "Dictionary-encoded Layout").
use Rattle.std.specs.Prelude.{◌≡◌, ◌<◌, ℕ, true, false, Option, Some, None, Result, MatchResult}
use Rattle.nested_arrays_core.specs.columnar_memory.Error.{IsInvalidArgument}
use Rattle.nested_arrays_core.specs.columnar_memory.declared.Error.{Error}
use Rattle.nested_arrays_core.specs.columnar_memory.declared.PhysicalType.{PhysicalType}
use Rattle.nested_arrays_core.specs.columns.Slots.{Slot}
use Rattle.nested_arrays_core.specs.columns.StoredColumns.{Column, column_len, is_valid_at, place_of, slot_at}
use Rattle.nested_arrays_core.specs.flat.ColumnMasks.{column_mask}
use Rattle.nested_arrays_core.specs.parts.FlatLayouts.{layout_in}
use Rattle.nested_arrays_core.specs.access.Nulls.{null_count_of}
use Rattle.nested_arrays_core.specs.Dictionaries.{raw_key, values_of}
use Rattle.nested_arrays_iterators.specs.ReadValues.{IsRead, value_at}

-- ---- arrays as items

-- an array lies in memory so, and no slot of it is null
abbrev pub HasItems : PhysicalType → Column → Type 0
HasItems layout column = (layout_in column ≡ layout) × (null_count_of column ≡ 0)

-- a refusal of an array that lies in memory otherwise or has a null
abbrev pub IsRefused : PhysicalType → Column → Error → Type 0
IsRefused layout column e = IsInvalidArgument e × ¬ HasItems layout column

module _ {A X : Type 0} (is_item : A → ℕ → X → Type 0) (slot : X → Slot) where
  -- the item at each place shows the slot there
  abbrev pub ShowsSlots : Column → A → Type 0
  ShowsSlots column items = (i : ℕ) (item : X) → i < column_len column → is_item items i item → slot_at column i ≡ slot item

  -- the items of an array, as many as slots, or a refusal
  abbrev pub IsDowncast : (A → ℕ) → PhysicalType → Column → Result A Error → Type 0
  IsDowncast count layout column r = MatchResult r
      (λ items. HasItems layout column × (count items ≡ column_len column) × ShowsSlots column items) (IsRefused layout column)

-- ---- items by keys

module _ {A X : Type 0} (is_item : A → ℕ → X → Type 0) where
  -- the item at the place that the key of a slot names, whatever the mask says
  abbrev pub IsKeyed : Column → A → ℕ → X → Type 0
  IsKeyed column items i item = is_item items (place_of (raw_key column i)) item

  -- the same where the mask says that there is a value, else none
  abbrev pub IsKeyedSlot : Column → A → ℕ → Option X → Type 0
  IsKeyedSlot column items i None = is_valid_at (column_mask column) i ≡ false
  IsKeyedSlot column items i (Some item) = (is_valid_at (column_mask column) i ≡ true) × IsKeyed column items i item

-- an item shows the value of a slot, whatever the mask says
abbrev pub ShowsValue : {X : Type 0} → (X → Slot) → Column → ℕ → X → Type 0
ShowsValue slot column i item = value_at column i ≡ slot item

module _ {A X : Type 0} (is_item : A → ℕ → X → Type 0) (slot : X → Slot) where
  -- the items that the keys name show the values of the slots
  abbrev pub ShowsValues : Column → A → Type 0
  ShowsValues column items = (i : ℕ) (item : X) → i < column_len column → IsKeyed is_item column items i item → ShowsValue slot column i item

  -- the same slot by slot, none where one is null
  abbrev pub ShowsRead : Column → A → Type 0
  ShowsRead column items = (i : ℕ) (item : Option X) → i < column_len column → IsKeyedSlot is_item column items i item
      → IsRead (ShowsValue slot) column i item

module _ {A X : Type 0} (is_item : A → ℕ → X → Type 0) where
  -- what items show in the values of a dictionary, these items by its keys show in it
  abbrev pub ShowValuesByKeys : Column → A → Type 0
  ShowValuesByKeys column items = (slot : X → Slot) → ShowsSlots is_item slot (values_of column) items → ShowsValues is_item slot column items

  -- the same slot by slot, none where one is null
  abbrev pub ShowSlotsByKeys : Column → A → Type 0
  ShowSlotsByKeys column items = (slot : X → Slot) → ShowsSlots is_item slot (values_of column) items → ShowsRead is_item slot column items
