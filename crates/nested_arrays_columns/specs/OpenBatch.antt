-- Which slots fit a column together: each by itself, and all within the limits of lengths, offsets and keys.
use Rattle.std.specs.Prelude.{ℕ, suc, ◌-◌, ◌^◌, Bool, true, ◌&&◌, List, [], ◌∷◌, length, sum_by, nat_le}
use Rattle.std.specs.List.{list_all}
use Rattle.columnar_memory_core.specs.declared.DataType.{DataType}
use Rattle.columnar_memory_core.specs.declared.DataType.TheOpen as layer
use Rattle.columnar_memory_core.specs.declared.DataType.TheFolds.{fold-DataType}
use Rattle.columnar_memory_core.specs.declared.IntegerType.{IntegerType}
use Rattle.nested_arrays_columns.specs.Cells.{fits_cell}
use Rattle.nested_arrays_columns.specs.Children.{joined_items, joined_fixed_items, field_slots, dictionary_values}
use Rattle.nested_arrays_columns.specs.Kinds.{most_slots, most_values}
use Rattle.nested_arrays_columns.specs.Slots.{Slot, text, bytes}

-- how many bytes a text or bytes have
abbrev pub byte_count : Slot → ℕ
byte_count (text content) = length content
byte_count (bytes content) = length content
byte_count _ = 0

-- the greatest offsets of 32 and of 64 bits
abbrev pub most_short : ℕ
most_short = 2 ^ 31 - 1

abbrev pub most_long : ℕ
most_long = 2 ^ 63 - 1

abbrev pub is_length : List Slot → Bool
is_length slots = nat_le (length slots) most_slots

-- as many bytes as offsets may number
abbrev pub bytes_within : ℕ → List Slot → Bool
bytes_within limit slots = is_length slots && nat_le (sum_by byte_count slots) limit

-- as many items as offsets may number, and these within their own limits
abbrev pub items_within : ℕ → (List Slot → Bool) → List Slot → Bool
items_within limit item slots = is_length slots && nat_le (length (joined_items slots)) limit && item (joined_items slots)

-- the slots of each field within its limits, from field k on
abbrev pub fields_within : List (List Slot → Bool) → List Slot → ℕ → Bool
fields_within [] slots k = true
fields_within (field ∷ more) slots k = field (field_slots slots k) && fields_within more slots (suc k)

-- as many values as keys tell apart
abbrev pub values_within : IntegerType → (List Slot → Bool) → List Slot → Bool
values_within key value slots = is_length slots && nat_le (length (dictionary_values slots)) (most_values key) && value (dictionary_values slots)

-- one layer of a type, where each type below stands as its limits
abbrev pub within_step : layer.DataType-F (List Slot → Bool) (List Slot → Bool) → List Slot → Bool
within_step layer.Binary slots = bytes_within most_short slots
within_step layer.Utf8 slots = bytes_within most_short slots
within_step layer.LargeBinary slots = bytes_within most_long slots
within_step layer.LargeUtf8 slots = bytes_within most_long slots
within_step (layer.List item) slots = items_within most_short item slots
within_step (layer.Map entry is_sorted) slots = items_within most_short entry slots
within_step (layer.LargeList item) slots = items_within most_long item slots
within_step (layer.FixedSizeList item size) slots = is_length slots && item (joined_fixed_items size slots)
within_step (layer.Struct children) slots = is_length slots && fields_within children slots 0
within_step (layer.Dictionary key value is_ordered) slots = values_within key value slots
within_step (layer.Extension name inner metadata) slots = inner slots
within_step _ slots = is_length slots

-- whether the lengths, offsets and keys of a column of these slots are within their limits, at every depth
abbrev pub is_within : DataType → List Slot → Bool
is_within = fold-DataType (List Slot → Bool) (List Slot → Bool) within_step (λ field. field.data_type)

-- whether slots fit a column of a type
abbrev pub fits : DataType → List Slot → Bool
fits data_type slots = list_all (fits_cell data_type) slots && is_within data_type slots
