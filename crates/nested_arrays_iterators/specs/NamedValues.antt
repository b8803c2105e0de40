-- The values that the keys of dictionaries name (Arrow columnar format, "Dictionary-encoded Layout").
use Rattle.std.specs.Prelude.{◌≡◌, ◌<◌, ◌≤ℤ◌, ℕ, pos}
use Rattle.nested_arrays_core.specs.columns.Slots.{Slot}
use Rattle.nested_arrays_core.specs.columns.StoredColumns.{Column, column_len, place_of}
use Rattle.nested_arrays_core.specs.Dictionaries.{raw_key, values_of}
use Rattle.nested_arrays_iterators.specs.ReadValues.{value_at}

-- a slot is what a key names
abbrev pub IsNamed : Column → ℕ → Slot → Type 0
IsNamed column i slot = slot ≡ value_at column i

-- the key at a place is the place of a value, whatever the mask says
abbrev pub NamesValue : Column → ℕ → Type 0
NamesValue column i = (pos 0 ≤ℤ raw_key column i) × (place_of (raw_key column i) < column_len (values_of column))

-- each key is the place of a value
abbrev pub AreNamed : Column → Type 0
AreNamed column = (i : ℕ) → i < column_len column → NamesValue column i

-- no key is below zero
abbrev pub ArePlaces : Column → Type 0
ArePlaces column = (i : ℕ) → i < column_len column → pos 0 ≤ℤ raw_key column i
