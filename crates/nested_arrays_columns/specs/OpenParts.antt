-- What an open column stores, part by part: marks, offsets, the slots of its children, and how many of them its first slots use.
use Rattle.std.specs.Prelude.{ℕ, suc, ◌==◌, Bool, true, false, not, ◌||◌, List, [], ◌∷◌, ◌++◌, length, map, max, Option, Some, None, if◌then◌else◌}
use Rattle.std.specs.List.{list_any}
use Rattle.nested_arrays_columns.specs.columnar_memory.declared.DataType.TheOpen as layer
use Rattle.nested_arrays_columns.specs.columnar_memory.declared.PhysicalType.{PhysicalType}
use Rattle.nested_arrays_columns.specs.columnar_memory.declared.PhysicalType.TheVariants as physical
use Rattle.nested_arrays_columns.specs.columnar_memory.declared.PrimitiveType.{PrimitiveType}
use Rattle.nested_arrays_columns.specs.columnar_memory.declared.PrimitiveType.TheVariants as kinds
use Rattle.nested_arrays_columns.specs.columnar_memory.Spans.{Spans}
use Rattle.nested_arrays_columns.specs.Cells.{is_null, is_number_of, is_days_and_ms, is_months_days_and_ns}
use Rattle.nested_arrays_columns.specs.Children.{items_of, field_of, field_slots}
use Rattle.nested_arrays_columns.specs.FreshColumns.{is_valid, content_of, key_among}
use Rattle.nested_arrays_columns.specs.OpenBatch.{most_short, most_long}
use Rattle.nested_arrays_columns.specs.SameSlots.{is_among}
use Rattle.nested_arrays_columns.specs.Slots.{Slot, null, items, fields, slot_list, window}

-- ---- masks

-- a mark for each slot, true where it is not null
abbrev pub marks_of : List Slot → List Bool
marks_of slots = map is_valid slots

-- the mask of some marks; none where all are valid
abbrev pub mask_from : List Bool → Option (List Bool)
mask_from marks = if list_any not marks then Some marks else None

-- ---- slots of nested types, whatever stands below

abbrev pub is_list : Slot → Bool
is_list null = true
is_list (items slots) = true
is_list _ = false

-- a list of exactly one length
abbrev pub is_list_sized : ℕ → Slot → Bool
is_list_sized size null = true
is_list_sized size (items slots) = length (slot_list slots) == size
is_list_sized size _ = false

-- a record of so many fields
abbrev pub is_record_sized : ℕ → Slot → Bool
is_record_sized n null = true
is_record_sized n (fields slots) = length (slot_list slots) == n
is_record_sized n _ = false

-- ---- layers by what stands below

-- the field of the items of lists or maps, whatever the width of their offsets
abbrev pub item_of : {A B : Type 0} → layer.DataType-F A B → Option B
item_of (layer.List item) = Some item
item_of (layer.LargeList item) = Some item
item_of (layer.Map entry is_sorted) = Some entry
item_of _ = None

-- the greatest offset of such lists
abbrev pub most_items : {A B : Type 0} → layer.DataType-F A B → ℕ
most_items (layer.LargeList item) = most_long
most_items _ = most_short

-- whether a type is of maps
abbrev pub is_map : {A B : Type 0} → layer.DataType-F A B → Bool
is_map (layer.Map entry is_sorted) = true
is_map _ = false

-- the kind of numbers that lie in memory so
abbrev pub kind_in : PhysicalType → Option PrimitiveType
kind_in (physical.Primitive kind) = Some kind
kind_in _ = None

-- which slots are numbers of a kind; of floats only null
abbrev pub is_of_kind : PrimitiveType → Slot → Bool
is_of_kind kinds.DaysMs = is_days_and_ms
is_of_kind kinds.MonthDayNano = is_months_days_and_ns
is_of_kind kinds.Float16 = is_null
is_of_kind kinds.Float32 = is_null
is_of_kind kinds.Float64 = is_null
is_of_kind kind = is_number_of kind

-- ---- children

-- the spans of the bytes of each slot, and of its items
abbrev pub content_spans : List Slot → Spans
content_spans slots = record { start = 0; lengths = map (λ slot. length (content_of slot)) slots }

abbrev pub item_spans : List Slot → Spans
item_spans slots = record { start = 0; lengths = map (λ slot. length (items_of slot)) slots }

-- the slots of each of the first n fields
abbrev pub slots_of_fields : ℕ → List Slot → List (List Slot)
slots_of_fields n slots = window (field_slots slots) 0 n

-- the first n fields of a slot
abbrev pub fields_of_slot : ℕ → Slot → List Slot
fields_of_slot n slot = window (λ k. field_of k slot) 0 n

-- each of some lists with one more slot behind
abbrev pub pushed_each : List (List Slot) → List Slot → List (List Slot)
pushed_each [] slots = []
pushed_each (column ∷ columns) [] = column ∷ columns
pushed_each (column ∷ columns) (slot ∷ slots) = (column ++ slot ∷ []) ∷ pushed_each columns slots

-- the values of a dictionary with a slot pushed behind: the slot is one more where it is neither null nor among them
abbrev pub grown_values : List Slot → Slot → List Slot
grown_values values slot = if is_null slot || is_among slot values then values else values ++ slot ∷ []

-- the keys of slots among the values of a dictionary
abbrev pub keys_among : List Slot → List Slot → List ℕ
keys_among values slots = map (key_among values) slots

-- how many values a key needs, if it is valid
abbrev pub used_by : Bool → ℕ → ℕ
used_by true key = suc key
used_by false key = 0

-- how many values the valid ones among some keys need: one more than the greatest
abbrev pub values_used : List Bool → List ℕ → ℕ
values_used (mark ∷ marks) (key ∷ keys) = max (used_by mark key) (values_used marks keys)
values_used _ _ = 0
