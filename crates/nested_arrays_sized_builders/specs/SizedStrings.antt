-- Builders of byte strings of one size: marks and bytes that grow (Arrow columnar format, "Fixed-size Primitive Layout").
use Rattle.std.specs.Prelude.{◌≡◌, ◌≢◌, ◌⊎◌, ◌+◌, ◌*◌, ◌-◌, ◌==◌, ◌<◌, ◌≤◌, ◌/◌, ℕ, Bool, true, false, if◌then◌else◌, List, [], ◌∷◌, ◌++◌, length}
use Rattle.std.specs.Prelude.{take, replicate}
use Rattle.std.specs.Prelude.{Option, Some, None, is_some, slice_index_or, slice_range, Result, MatchResult}
use Rattle.std.specs.List.{list_all}
use Rattle.std.proofs.Common.{refl}
use Rattle.std.specs.Coded.{Coded, code_by, coded×, coded_list, coded_bool, coded_ℕ}
use Rattle.columnar_memory_types.specs.contracts.data_type.DataType as data_type
use Rattle.nested_arrays_generic_builders.specs.nulls.columnar_memory.declared.DataType.{DataType}
use Rattle.nested_arrays_generic_builders.specs.nulls.columnar_memory.declared.DataType.TheVariants as types
use Rattle.nested_arrays_generic_builders.specs.nulls.columnar_memory.declared.Error.{Error}
use Rattle.nested_arrays_generic_builders.specs.nulls.columnar_memory.Error.{IsInvalidArgument, IsOutOfMemory, IsOutOfSpec, IsOverflow}
use Rattle.nested_arrays_generic_builders.specs.nulls.columns.Kinds.{most_slots}
use Rattle.nested_arrays_generic_builders.specs.nulls.columns.Slots.{Slot, null, bytes}
use Rattle.nested_arrays_generic_builders.specs.nulls.columns.SoundColumns.{is_byte, is_sound}
use Rattle.nested_arrays_generic_builders.specs.nulls.columns.StoredColumns.{Column}
use Rattle.nested_arrays_generic_builders.specs.nulls.flat.FlatColumns.{byte_width, fixed_column}
use Rattle.nested_arrays_generic_builders.specs.cells.parts.Marks.{marks, mask_of_marks}

-- The data type, a mark for each byte string, and the bytes of the strings, one after another.
pub record SizedParts : Type 0 where
  pub data_type : DataType
  pub marks : List Bool
  pub content : List ℕ

abbrev pub sized_parts : DataType → List Bool → List ℕ → SizedParts
sized_parts data_type marks content = record { data_type = data_type; marks = marks; content = content }

abbrev pub sized_parts_code : Coded SizedParts
sized_parts_code = code_by (DataType × (List Bool × List ℕ)) (coded× data_type.the_row.coded (coded× (coded_list coded_bool) (coded_list coded_ℕ)))
    (λ p. (p.data_type, (p.marks, p.content))) (λ c. sized_parts c.0 c.1.0 c.1.1) (λ _. refl)

-- a type of byte strings of this size, of a byte at least, and so many bytes for each mark, each of which is one
pub record AreSized (data_type : DataType) (size : ℕ) (marks : List Bool) (content : List ℕ) : Type 0 where
  pub wide : byte_width data_type ≡ size
  pub some : 0 < size
  pub counted : length content ≡ size * length marks
  pub bytes : list_all is_byte content ≡ true

-- the column of the strings
abbrev pub sized_column : SizedParts → Column
sized_column p = fixed_column p.data_type (byte_width p.data_type) p.content (mask_of_marks p.marks)

-- the type of byte strings of a size
abbrev pub sized_type : ℕ → DataType
sized_type size = types.FixedSizeBinary size

-- no strings
abbrev pub no_strings : DataType → SizedParts
no_strings data_type = sized_parts data_type [] []

-- the bytes of a string, and zeros of a null
abbrev pub stored_for : ℕ → Option (List ℕ) → List ℕ
stored_for size None = replicate size 0
stored_for size (Some content) = content

-- the slot of a string, or null
abbrev pub string_slot : Option (List ℕ) → Slot
string_slot None = null
string_slot (Some content) = bytes content

-- whether a string has a size; null has every size
abbrev pub is_sized : ℕ → Option (List ℕ) → Bool
is_sized size None = true
is_sized size (Some content) = length content == size

-- one string more, or a null
abbrev pub with_string : SizedParts → Option (List ℕ) → SizedParts
with_string p value = sized_parts p.data_type (p.marks ++ is_some value ∷ []) (p.content ++ stored_for (byte_width p.data_type) value)

-- the first strings
abbrev pub first_strings : SizedParts → ℕ → SizedParts
first_strings p n = sized_parts p.data_type (take n p.marks) (take (byte_width p.data_type * n) p.content)

-- the bytes of the string at a place, also under a null
abbrev pub sized_string_at : SizedParts → ℕ → List ℕ
sized_string_at p i = slice_range p.content (byte_width p.data_type * i) (byte_width p.data_type * i + byte_width p.data_type)

-- the string at a place, or none under a null
abbrev pub value_at : SizedParts → ℕ → Option (List ℕ)
value_at p i = if slice_index_or p.marks i false then Some (sized_string_at p i) else None

-- A string or a null stands behind the others. Or nothing has changed: memory ran out, the string has another size, or there are as many as a
-- column may have.
abbrev pub AddsString : {U : Type 0} → SizedParts → Option (List ℕ) → SizedParts → Result U Error → Type 0
AddsString old value new r =
    MatchResult r
    (λ _. (new ≡ with_string old value) × (is_sized (byte_width old.data_type) value ≡ true) × (length old.marks < most_slots))
    (λ e. (new ≡ old) × (IsOutOfMemory e ⊎ (IsInvalidArgument e × (is_sized (byte_width old.data_type) value ≡ false))
    ⊎ (IsOverflow e × (is_sized (byte_width old.data_type) value ≡ true) × (length old.marks ≡ most_slots))))

-- A mark and bytes stand behind the others; or nothing has changed.
abbrev pub AddsBytes : {U : Type 0} → List Bool → List ℕ → Bool → List ℕ → List Bool → List ℕ → Result U Error → Type 0
AddsBytes marks content mark more new_marks new_content r =
    MatchResult r
    (λ _. (new_marks ≡ marks ++ mark ∷ []) × (new_content ≡ content ++ more) × (length marks < most_slots))
    (λ e. (new_marks ≡ marks) × (new_content ≡ content) × (IsOutOfMemory e ⊎ (IsOverflow e × (length marks ≡ most_slots))))

-- The last string is taken off, and answered unless it is null; of none there is none.
abbrev pub TakesLast : SizedParts → SizedParts → Option (List ℕ) → Type 0
TakesLast old new value =
    ((old.marks ≡ []) → (new ≡ old) × (value ≡ None))
    × (¬ (old.marks ≡ []) → (new ≡ first_strings old (length old.marks - 1)) × (value ≡ value_at old (length old.marks - 1)))

-- The builder of these parts, where they are those of an array: a mask without nulls is let go. Or they are not, or memory ran out, or there are
-- more strings than a column may have.
abbrev pub IsBuilt : DataType → List ℕ → Option (List Bool) → Result SizedParts Error → Type 0
IsBuilt data_type content mask r =
    MatchResult r
    (λ builder. (builder ≡ sized_parts data_type (marks (length content / byte_width data_type) mask) content)
    × (is_sound (fixed_column data_type (byte_width data_type) content mask) ≡ true))
    (λ e. IsOutOfMemory e ⊎ (IsOutOfSpec e × ¬ (is_sound (fixed_column data_type (byte_width data_type) content mask) ≡ true))
    ⊎ (IsOverflow e × (most_slots < length content / byte_width data_type)))

-- Marks and bytes stand behind the others; or nothing has changed.
abbrev pub JoinsBytes : {U : Type 0} → List Bool → List ℕ → List Bool → List ℕ → List Bool → List ℕ → Result U Error → Type 0
JoinsBytes marks content more_marks more new_marks new_content r =
    MatchResult r
    (λ _. (new_marks ≡ marks ++ more_marks) × (new_content ≡ content ++ more) × (length marks + length more_marks ≤ most_slots))
    (λ e. (new_marks ≡ marks) × (new_content ≡ content)
    × (IsOutOfMemory e ⊎ (IsOverflow e × (most_slots < length marks + length more_marks))))

-- the strings of another behind these
abbrev pub with_strings : SizedParts → SizedParts → SizedParts
with_strings p more = sized_parts p.data_type (p.marks ++ more.marks) (p.content ++ more.content)

-- The strings of another stand behind the others. Or nothing has changed: memory ran out, they have another size, or both are more than a column
-- may have.
abbrev pub JoinsStrings : {U : Type 0} → SizedParts → SizedParts → SizedParts → Result U Error → Type 0
JoinsStrings old more new r =
    MatchResult r
    (λ _. (new ≡ with_strings old more) × (byte_width more.data_type ≡ byte_width old.data_type)
    × (length old.marks + length more.marks ≤ most_slots))
    (λ e. (new ≡ old) × (IsOutOfMemory e ⊎ (IsInvalidArgument e × (byte_width more.data_type ≢ byte_width old.data_type))
    ⊎ (IsOverflow e × (byte_width more.data_type ≡ byte_width old.data_type) × (most_slots < length old.marks + length more.marks))))
