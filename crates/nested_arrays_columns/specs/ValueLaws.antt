-- The values and keys of a dictionary.
use Rattle.std.specs.Prelude.{◌≡◌, ℕ, ◌<◌, true, false, List, [], ◌∷◌, ◌++◌, length, slice_index_or}
use Rattle.nested_arrays_columns.specs.Cells.{is_null}
use Rattle.nested_arrays_columns.specs.Children.{dictionary_values}
use Rattle.nested_arrays_columns.specs.FreshColumns.{key_among}
use Rattle.nested_arrays_columns.specs.SameSlots.{same_slot, is_among, are_distinct}
use Rattle.nested_arrays_columns.specs.Slots.{Slot}
use Rattle.nested_arrays_columns.specs.OpenParts.{grown_values, keys_among}

-- no value stands twice
abbrev pub ValuesDistinct : Type 0
ValuesDistinct = (some : List Slot) → are_distinct (dictionary_values some) ≡ true

-- a slot is one more value where it is neither null nor among them
abbrev pub ValuesGrow : Type 0
ValuesGrow = (some : List Slot) (s : Slot) → dictionary_values (some ++ s ∷ []) ≡ grown_values (dictionary_values some) s

-- slots keep their keys where there are more behind
abbrev pub KeysStay : Type 0
KeysStay = (some others : List Slot) → keys_among (dictionary_values (some ++ others)) some ≡ keys_among (dictionary_values some) some

-- the key of a slot is the place of the value that is the same, and of one more value their number
abbrev pub KeysByPlace : Type 0
KeysByPlace = (s : Slot) (values : List Slot) (k : ℕ) (d : Slot) → are_distinct values ≡ true → is_null s ≡ false → k < length values
    → same_slot s (slice_index_or values k d) ≡ true → key_among values s ≡ k

abbrev pub KeysOfNew : Type 0
KeysOfNew = (s : Slot) (values : List Slot) → is_null s ≡ false → is_among s values ≡ false → key_among (values ++ s ∷ []) s ≡ length values

-- a slot that no place has is not among them
abbrev pub NotAmong : Type 0
NotAmong = (s : Slot) (values : List Slot) (d : Slot) → ((k : ℕ) → k < length values → same_slot s (slice_index_or values k d) ≡ false)
    → is_among s values ≡ false
