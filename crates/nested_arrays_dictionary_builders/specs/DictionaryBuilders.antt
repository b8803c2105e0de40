-- Builders of dictionaries: what each slot needs of the values, over a builder of these (Arrow columnar format, "Dictionary-encoded Layout").
use Rattle.std.specs.Prelude.{◌≡◌, ◌⊎◌, ◌≢◌, ◌<◌, ◌≤◌, ◌+◌, ℕ, zero, suc, ℤ, pos, Bool, true, false, List, [], ◌∷◌, ◌++◌, length, map, take}
use Rattle.std.specs.Prelude.{Option, Result, Ok, Err, MatchOption, MatchResult}
use Rattle.std.proofs.Common.{refl}
use Rattle.std.specs.Coded.{Coded, code_by, coded×, coded_list, coded_ℕ}
use Rattle.columnar_memory_types.specs.contracts.data_type.DataType as data_type
use Rattle.nested_arrays_sized_builders.specs.values.Keyed.{AddsUse}
use Rattle.nested_arrays_sized_builders.specs.values.Uses.{greatest, keys_from}
use Rattle.nested_arrays_sized_builders.specs.nulls.columnar_memory.declared.DataType.{DataType}
use Rattle.nested_arrays_sized_builders.specs.nulls.columnar_memory.declared.Error.{Error}
use Rattle.nested_arrays_sized_builders.specs.nulls.columnar_memory.declared.IntegerType.{IntegerType}
use Rattle.nested_arrays_sized_builders.specs.nulls.columnar_memory.declared.PhysicalType.TheVariants as physical
use Rattle.nested_arrays_sized_builders.specs.nulls.columnar_memory.Error.{IsInvalidArgument, IsOutOfMemory, IsOutOfSpec, IsOverflow}
use Rattle.nested_arrays_sized_builders.specs.nulls.columnar_memory.Layouts.{physical_type}
use Rattle.nested_arrays_sized_builders.specs.nulls.columns.Kinds.{most_slots, most_values}
use Rattle.nested_arrays_sized_builders.specs.nulls.columns.OpenBatch.{fits}
use Rattle.nested_arrays_sized_builders.specs.nulls.columns.Cells.{fits_cell}
use Rattle.nested_arrays_sized_builders.specs.nulls.columns.SameSlots.{is_among}
use Rattle.nested_arrays_sized_builders.specs.nulls.columns.Slots.{Slot}
use Rattle.nested_arrays_sized_builders.specs.nulls.columns.SoundColumns.{is_sound}
use Rattle.nested_arrays_sized_builders.specs.nulls.columns.StoredColumns.{Column, column_len, column_type, dictionary, slot_at, slots, type_layer}
use Rattle.nested_arrays_sized_builders.specs.nulls.generic.Dictionaries.{is_value_type}
use Rattle.nested_arrays_sized_builders.specs.cells.parts.Marks.{mask_of_marks}
use Rattle.nested_arrays_sized_builders.specs.cells.taken.OpenColumns.{Becomes, IsEmptied, IsFresh, IsFrozen, slots_and}
use Rattle.nested_arrays_dictionary_builders.specs.SlotHashes.{slot_hash}

-- The data type, how many of the values each slot needs, which is one more than its key and none under a null, and the builder of the values.
pub record DictionaryParts (M : Type 0) : Type 0 where
  pub data_type : DataType
  pub uses : List ℕ
  pub values : M

abbrev pub dictionary_parts : {M : Type 0} → DataType → List ℕ → M → DictionaryParts M
dictionary_parts data_type uses values = record { data_type = data_type; uses = uses; values = values }

abbrev pub dictionary_parts_code : {M : Type 0} → Coded M → Coded (DictionaryParts M)
dictionary_parts_code {M} values = code_by (DataType × (List ℕ × M)) (coded× data_type.the_row.coded (coded× (coded_list coded_ℕ) values))
    (λ p. (p.data_type, (p.uses, p.values))) (λ c. dictionary_parts c.0 c.1.0 c.1.1) (λ _. refl)

-- whether a slot that needs so many has a value
abbrev pub is_used : ℕ → Bool
is_used zero = false
is_used (suc key) = true

-- the column of slots that need so many of the slots of another each
abbrev pub keyed_over : DataType → List ℕ → Column → Column
keyed_over data_type uses child = dictionary data_type (mask_of_marks (map is_used uses)) (keys_from uses) child

-- the column of a dictionary whose values' builder has a column
abbrev pub dictionary_column : {M : Type 0} → (M → Column) → DictionaryParts M → Column
dictionary_column column p = keyed_over p.data_type p.uses (column p.values)

-- A type of dictionaries with such keys and values, a mark for each slot, values each of which a slot needs, as many as keys tell apart, and the
-- hash of each. Where there are values they are sound.
pub record AreKeyed (key : IntegerType) (data_type : DataType) (marks : List Bool) (uses hashes : List ℕ) (child : Column) : Type 0 where
  pub lies : physical_type data_type ≡ physical.Dictionary key
  pub valued : is_value_type (type_layer data_type) (column_type child) ≡ true
  pub marked : marks ≡ map is_used uses
  pub named : greatest uses ≡ column_len child
  pub few : greatest uses ≤ most_values key
  pub hashed : hashes ≡ map slot_hash (slots child)
  pub whole : 0 < column_len child → is_sound child ≡ true

-- a dictionary without slots
abbrev pub no_keys : {M : Type 0} → DataType → M → DictionaryParts M
no_keys data_type values = dictionary_parts data_type [] values

-- a type of dictionaries with such keys, and the column of their values, of which there are none yet
abbrev pub MayBegin : IntegerType → DataType → Column → Type 0
MayBegin key data_type child = (physical_type data_type ≡ physical.Dictionary key)
    × (is_value_type (type_layer data_type) (column_type child) ≡ true) × (column_len child ≡ 0)

-- the builder of a data type over that of its values, where these may begin one
abbrev pub Begins : {M : Type 0} → IntegerType → (M → Column) → DataType → M → Result (DictionaryParts M) Error → Type 0
Begins key column data_type values r =
    MatchResult r (λ builder. (builder ≡ no_keys data_type values) × MayBegin key data_type (column values))
    (λ e. IsOutOfSpec e × ¬ MayBegin key data_type (column values))

-- the place of the value that is a slot, or none of them is
abbrev pub IsPlaceOf : Column → Slot → Option ℕ → Type 0
IsPlaceOf child slot r =
    MatchOption r ((k : ℕ) → k < column_len child → slot_at child k ≢ slot) (λ k. (k < column_len child) × (slot_at child k ≡ slot))

-- the key of the value that is a slot, which is its place, or none of them is
abbrev pub IsKeyOf : {K : Type 0} → (K → ℤ) → Column → Slot → Option K → Type 0
IsKeyOf value child slot r =
    MatchOption r (is_among slot (slots child) ≡ false)
    (λ key. (k : ℕ) × (value key ≡ pos k) × (k < column_len child) × (slot_at child k ≡ slot))

-- why a value is not added: memory ran out, or there are as many slots as a column may have, or as many values as keys tell apart
abbrev pub IsCrowded : ℕ → List Bool → List ℕ → Error → Type 0
IsCrowded most marks hashes e = IsOutOfMemory e ⊎ (IsOverflow e × ((length marks ≡ most_slots) ⊎ (most ≤ length hashes)))

-- The hash of one more value stands behind the others, and a slot that needs it; or nothing has changed.
abbrev pub AddsPlace : {U : Type 0} → ℕ → ℕ → List Bool → List ℕ → List ℕ → List Bool → List ℕ → List ℕ → Result U Error → Type 0
AddsPlace most hash marks uses hashes new_marks new_uses new_hashes r =
    MatchResult r
    (λ _. (new_marks ≡ marks ++ true ∷ []) × (new_uses ≡ uses ++ (length hashes + 1) ∷ []) × (new_hashes ≡ hashes ++ hash ∷ [])
    × (length hashes < most) × (length marks < most_slots))
    (λ e. (new_marks ≡ marks) × (new_uses ≡ uses) × (new_hashes ≡ hashes) × IsCrowded most marks hashes e)

-- why a slot is not added to values: memory ran out, it does not fit their type, or fresh ones have no room for it
abbrev pub IsUnfit : Column → Slot → Error → Type 0
IsUnfit child slot e = IsOutOfMemory e ⊎ (IsInvalidArgument e × (fits_cell (column_type child) slot ≡ false))
    ⊎ (IsOverflow e × (IsFresh child → fits (column_type child) (slots_and child slot) ≡ false))

-- One more value stands behind the others, its hash, and a slot that needs it; or nothing has changed.
abbrev pub AddsValue : {U : Type 0} → ℕ → Slot → List Bool → List ℕ → List ℕ → Column → List Bool → List ℕ → List ℕ → Column → Result U Error
    → Type 0
AddsValue most slot marks uses hashes child new_marks new_uses new_hashes new_child r =
    MatchResult r
    (λ _. (new_marks ≡ marks ++ true ∷ []) × (new_uses ≡ uses ++ (length hashes + 1) ∷ []) × (new_hashes ≡ hashes ++ slot_hash slot ∷ [])
    × Becomes child (slots_and child slot) new_child × (length hashes < most) × (length marks < most_slots))
    (λ e. (new_marks ≡ marks) × (new_uses ≡ uses) × (new_hashes ≡ hashes) × (new_child ≡ child)
    × (IsCrowded most marks hashes e ⊎ IsUnfit child slot e))

-- An item is one of the values, and a slot that needs it stands behind the others; or it is none of them, and is added. Or nothing has changed.
abbrev pub AddsItem : {U : Type 0} → ℕ → Slot → List Bool → List ℕ → List ℕ → Column → List Bool → List ℕ → List ℕ → Column → Result U Error
    → Type 0
AddsItem most slot marks uses hashes child new_marks new_uses new_hashes new_child r =
    ((k : ℕ) × (k < column_len child) × (slot_at child k ≡ slot) × (new_hashes ≡ hashes) × (new_child ≡ child)
    × AddsUse marks uses true (k + 1) new_marks new_uses r)
    ⊎ (((k : ℕ) → k < column_len child → slot_at child k ≢ slot)
    × AddsValue most slot marks uses hashes child new_marks new_uses new_hashes new_child r)

-- What the first slots need is left.
abbrev pub KeepsUses : {M : Type 0} → DictionaryParts M → ℕ → DictionaryParts M → Type 0
KeepsUses old n new = (new.data_type ≡ old.data_type) × (new.uses ≡ take n old.uses)

-- No slots are left, and no values.
abbrev pub LeavesNoKeys : {M : Type 0} → (M → Column) → DictionaryParts M → DictionaryParts M → Type 0
LeavesNoKeys column old new = (new.data_type ≡ old.data_type) × (new.uses ≡ []) × IsEmptied (column old.values) (column new.values)

-- The array of slots that need so many of some values; or what stood in the way of these.
abbrev pub FreezesKeys : DataType → List Bool → List ℕ → Result Column Error → Result Column Error → Type 0
FreezesKeys data_type marks uses (Err e) r = r ≡ Err e
FreezesKeys data_type marks uses (Ok child) r =
    IsFrozen (λ (array : Column). array) (dictionary data_type (mask_of_marks marks) (keys_from uses) child) r
