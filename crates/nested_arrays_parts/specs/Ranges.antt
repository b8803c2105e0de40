-- Ranges of slots of two columns.
use Rattle.std.specs.Prelude.{◌≡◌, ◌+◌, ◌<◌, ℕ, Bool, List, Option, slice_index, slice_range}
use Rattle.nested_arrays_flat.specs.columnar_memory.Numbers.{Numbers, first_number}
use Rattle.nested_arrays_flat.specs.columnar_memory.Spans.{Spans, offset_at}
use Rattle.nested_arrays_flat.specs.columnar_memory.declared.PrimitiveType.{PrimitiveType}
use Rattle.nested_arrays_flat.specs.columnar_memory.declared.PrimitiveType.TheVariants as kinds
use Rattle.nested_arrays_flat.specs.columns.SlotNodes.{nodes_of}
use Rattle.nested_arrays_flat.specs.columns.Slots.{Slot, number, in_slots, window}
use Rattle.nested_arrays_flat.specs.columns.StoredColumns.{Column, Stored, is_valid_at, slot_at, stored_at, pair_slot, string_at, triple_slot}
use Rattle.nested_arrays_flat.specs.FlatColumns.{pair_of, triple_of}

-- n slots of a column from place i on are those of another from place j on
abbrev pub SameRanges : Column → ℕ → Column → ℕ → ℕ → Type 0
SameRanges left i right j n = (k : ℕ) → k < n → slot_at left (i + k) ≡ slot_at right (j + k)

-- n marks of a mask, if there is one, from place i on are those of another from place j on
abbrev pub SameMarks : Option (List Bool) → ℕ → Option (List Bool) → ℕ → ℕ → Type 0
SameMarks left i right j n = (k : ℕ) → k < n → is_valid_at left (i + k) ≡ is_valid_at right (j + k)

-- how many slots stand in n slots from place i on, at every depth
abbrev pub range_nodes : Column → ℕ → ℕ → ℕ
range_nodes column i n = nodes_of (in_slots (window (slot_at column) i n))

-- n stored values from place i on are other ones from place j on
abbrev pub SameStored : Stored → ℕ → Stored → ℕ → ℕ → Type 0
SameStored left i right j n = (k : ℕ) → k < n → stored_at left (i + k) ≡ stored_at right (j + k)

-- n lengths from place i on are other ones from place j on
abbrev pub SameLengths : List ℕ → ℕ → List ℕ → ℕ → ℕ → Type 0
SameLengths left i right j n = (k : ℕ) → k < n → slice_index left (i + k) ≡ slice_index right (j + k)

-- the bytes of the strings from place i on, up to those at place k
abbrev pub bytes_between : Spans → List ℕ → ℕ → ℕ → List ℕ
bytes_between spans bytes i k = slice_range bytes (offset_at spans i) (offset_at spans k)

-- n byte strings of some offsets and bytes from place i on are those of other ones from place j on
abbrev pub SameStrings : List ℕ → List ℕ → ℕ → List ℕ → List ℕ → ℕ → ℕ → Type 0
SameStrings left bytes i right other_bytes j n = (k : ℕ) → k < n → string_at left bytes (i + k) ≡ string_at right other_bytes (j + k)

-- the slot of a number of a kind
abbrev pub number_slot : PrimitiveType → Numbers → Slot
number_slot kinds.DaysMs n = pair_slot kinds.DaysMs (pair_of n)
number_slot kinds.MonthDayNano n = triple_slot kinds.MonthDayNano (triple_of n)
number_slot kind n = number kind (first_number n)
