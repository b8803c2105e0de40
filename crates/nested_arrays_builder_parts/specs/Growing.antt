-- Values of a type without children that grow, one for each slot, whatever stands under a null.
use Rattle.std.specs.Prelude.{◌≡◌, ◌⊎◌, ◌+◌, ◌*◌, ◌≤◌, ℕ, Bool, true, false, if◌then◌else◌, List, [], ◌∷◌, ◌++◌, length, map, take, sum_by, nat_le}
use Rattle.std.specs.Prelude.{Option, Result, MatchOption, MatchResult}
use Rattle.std.specs.List.{concat, flat_map}
use Rattle.nested_arrays_core.specs.arrays.columnar_memory.declared.DataType.{DataType}
use Rattle.nested_arrays_core.specs.arrays.columnar_memory.declared.Error.{Error}
use Rattle.nested_arrays_core.specs.arrays.columnar_memory.declared.PhysicalType.{PhysicalType}
use Rattle.nested_arrays_core.specs.arrays.columnar_memory.declared.PhysicalType.TheVariants as physical
use Rattle.nested_arrays_core.specs.arrays.columnar_memory.declared.PrimitiveType.{PrimitiveType}
use Rattle.nested_arrays_core.specs.arrays.columnar_memory.declared.PrimitiveType.TheVariants as kinds
use Rattle.nested_arrays_core.specs.arrays.columnar_memory.Error.{IsInvalidArgument, IsOutOfMemory, IsOverflow}
use Rattle.nested_arrays_core.specs.arrays.columnar_memory.Numbers.{Numbers, one, two, three, first_number, second_number, third_number}
use Rattle.nested_arrays_core.specs.arrays.flat_arrays.Fits.{binary_layout, text_layout}
use Rattle.nested_arrays_core.specs.arrays.columns.Cells.{is_null, is_truth, is_text, is_bytes, is_bytes_of}
use Rattle.nested_arrays_core.specs.arrays.columns.FreshColumns.{is_true, number_of, pair_of, triple_of, content_of, fixed_content_of, sums_from}
use Rattle.nested_arrays_core.specs.arrays.columns.OpenBatch.{most_short, most_long}
use Rattle.nested_arrays_core.specs.arrays.columns.Slots.{Slot}
use Rattle.nested_arrays_core.specs.arrays.columns.StoredColumns.{
  Column,
  nulls,
  flat,
  Stored,
  bits,
  numbers,
  pairs,
  triples,
  texts,
  byte_strings,
  fixed_bytes,
}
use Rattle.nested_arrays_core.specs.columns.OpenParts.{is_of_kind}

pub data Growing : Type 0 where
  -- of nulls alone nothing is stored
  nothing : Growing
  truths : List Bool → Growing
  -- values of a kind, each as its whole numbers
  whole : PrimitiveType → List Numbers → Growing
  -- texts, or else byte strings, and whether their offsets are large
  strings : Bool → Bool → List (List ℕ) → Growing
  -- so many bytes each, one string after another
  sized : ℕ → List ℕ → Growing

-- whether nothing is stored, as of nulls alone
abbrev pub is_nothing : Growing → Bool
is_nothing nothing = true
is_nothing _ = false

-- the number of a kind that is stored for a slot; zeros for a null
abbrev pub numbers_for : PrimitiveType → Slot → Numbers
numbers_for kinds.DaysMs slot = two (pair_of slot).0 (pair_of slot).1
numbers_for kinds.MonthDayNano slot = three (triple_of slot).0 (triple_of slot).1 (triple_of slot).2
numbers_for kind slot = one (number_of slot)

-- how these slots are stored, in the way of some values
abbrev pub values_of : Growing → List Slot → Growing
values_of nothing slots = nothing
values_of (truths values) slots = truths (map is_true slots)
values_of (whole kind values) slots = whole kind (map (numbers_for kind) slots)
values_of (strings of_text is_large values) slots = strings of_text is_large (map content_of slots)
values_of (sized size content) slots = sized size (flat_map (fixed_content_of size) slots)

-- the value of one more slot
abbrev pub with_value : Growing → Slot → Growing
with_value nothing slot = nothing
with_value (truths values) slot = truths (values ++ is_true slot ∷ [])
with_value (whole kind values) slot = whole kind (values ++ numbers_for kind slot ∷ [])
with_value (strings of_text is_large values) slot = strings of_text is_large (values ++ content_of slot ∷ [])
with_value (sized size content) slot = sized size (content ++ fixed_content_of size slot)

-- the values of the first n slots
abbrev pub first_values : Growing → ℕ → Growing
first_values nothing n = nothing
first_values (truths values) n = truths (take n values)
first_values (whole kind values) n = whole kind (take n values)
first_values (strings of_text is_large values) n = strings of_text is_large (take n values)
first_values (sized size content) n = sized size (take (size * n) content)

-- the greatest offset of 64 bits, or else of 32
abbrev pub most_bytes : Bool → ℕ
most_bytes is_large = if is_large then most_long else most_short

-- whether a slot has a value of the kind
abbrev pub takes : Growing → Slot → Bool
takes nothing = is_null
takes (truths values) = is_truth
takes (whole kind values) = is_of_kind kind
takes (strings true is_large values) = is_text
takes (strings false is_large values) = is_bytes
takes (sized size content) = is_bytes_of size

-- whether offsets number the bytes of one more slot
abbrev pub has_room : Growing → Slot → Bool
has_room (strings of_text is_large values) slot = nat_le (length (concat values) + length (content_of slot)) (most_bytes is_large)
has_room _ slot = true

-- The value of a slot stands behind the others; or they are as they were: the slot has no value of the kind, or it has one which offsets can't
-- number, or memory ran out.
abbrev pub TakesValue : {U : Type 0} → Growing → Slot → Growing → Result U Error → Type 0
TakesValue old slot new r =
    MatchResult r (λ _. (new ≡ with_value old slot) × (takes old slot ≡ true) × (has_room old slot ≡ true))
    (λ e. (new ≡ old) × (IsOutOfMemory e ⊎ (IsInvalidArgument e × (takes old slot ≡ false))
    ⊎ (IsOverflow e × (takes old slot ≡ true) × (has_room old slot ≡ false))))

-- ---- as columns store them

abbrev pub numbers_stored : PrimitiveType → List Numbers → Stored
numbers_stored kinds.DaysMs values = pairs kinds.DaysMs (map (λ n. (first_number n, second_number n)) values)
numbers_stored kinds.MonthDayNano values = triples kinds.MonthDayNano (map (λ n. (first_number n, second_number n, third_number n)) values)
numbers_stored kind values = numbers kind (map first_number values)

-- where byte strings begin and end that stand one after another
abbrev pub offsets_between : List (List ℕ) → List ℕ
offsets_between values = sums_from 0 (map length values)

abbrev pub stored_of : Growing → Stored
stored_of nothing = bits []
stored_of (truths values) = bits values
stored_of (whole kind values) = numbers_stored kind values
stored_of (strings true is_large values) = texts (offsets_between values) (concat values)
stored_of (strings false is_large values) = byte_strings (offsets_between values) (concat values)
stored_of (sized size content) = fixed_bytes size content

-- how arrays of such values lie in memory
abbrev pub layout_of : Growing → PhysicalType
layout_of nothing = physical.Null
layout_of (truths values) = physical.Boolean
layout_of (whole kind values) = physical.Primitive kind
layout_of (strings true is_large values) = text_layout is_large
layout_of (strings false is_large values) = binary_layout is_large
layout_of (sized size content) = physical.FixedSizeBinary

-- how many bytes each byte string of one size has, and none where they have any
abbrev pub width_of : Growing → ℕ
width_of (sized size content) = size
width_of _ = 0

-- the column of n slots with a mask and these values
abbrev pub grown_column : DataType → ℕ → Option (List Bool) → Growing → Column
grown_column data_type n mask nothing = nulls data_type n
grown_column data_type n mask (truths values) = flat data_type mask (stored_of (truths values))
grown_column data_type n mask (whole kind values) = flat data_type mask (stored_of (whole kind values))
grown_column data_type n mask (strings of_text is_large values) = flat data_type mask (stored_of (strings of_text is_large values))
grown_column data_type n mask (sized size content) = flat data_type mask (stored_of (sized size content))

-- What is stored for a slot that has a value of a kind, and nothing for another.
abbrev pub IsStoredFor : {V A : Type 0} → (Slot → Bool) → (V → A) → (Slot → A) → Slot → Option V → Type 0
IsStoredFor fits_kind content stored slot r = MatchOption r (fits_kind slot ≡ false) (λ value. (fits_kind slot ≡ true) × (content value ≡ stored
    slot))

-- there are values for so many slots
abbrev pub HoldsFirst : Growing → ℕ → Type 0
HoldsFirst nothing n = Unit {0}
HoldsFirst (truths values) n = n ≤ length values
HoldsFirst (whole kind values) n = n ≤ length values
HoldsFirst (strings of_text is_large values) n = n ≤ length values
HoldsFirst (sized size content) n = size * n ≤ length content

-- there are just so many
abbrev pub HoldsAll : Growing → ℕ → Type 0
HoldsAll nothing n = Unit {0}
HoldsAll (truths values) n = length values ≡ n
HoldsAll (whole kind values) n = length values ≡ n
HoldsAll (strings of_text is_large values) n = length values ≡ n
HoldsAll (sized size content) n = length content ≡ size * n
