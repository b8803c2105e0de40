-- Builders of structs: marks that grow beside a builder for each field (Arrow columnar format, "Struct Layout").
use Rattle.std.specs.Prelude.{◌≡◌, ◌⊎◌, ◌+◌, ◌<◌, ◌≤◌, ◌&&◌, ℕ, Bool, true, false, if◌then◌else◌, List, [], ◌∷◌, ◌++◌, length, map, take}
use Rattle.std.specs.Prelude.{slice_set}
use Rattle.std.specs.Prelude.{Option, None, Result, MatchResult}
use Rattle.std.specs.List.{list_all}
use Rattle.std.proofs.Common.{refl}
use Rattle.std.specs.Coded.{Coded, code_by, coded×, coded_list, coded_bool}
use Rattle.columnar_memory_types.specs.contracts.data_type.DataType as data_type
use Rattle.nested_arrays_nulls.specs.columnar_memory.declared.DataType.{DataType}
use Rattle.nested_arrays_nulls.specs.columnar_memory.declared.DataType.TheOpen as layer
use Rattle.nested_arrays_nulls.specs.columnar_memory.declared.Error.{Error}
use Rattle.nested_arrays_nulls.specs.columnar_memory.declared.Field.{Field}
use Rattle.nested_arrays_nulls.specs.columnar_memory.Error.{IsOutOfMemory, IsOutOfSpec, IsOverflow}
use Rattle.nested_arrays_nulls.specs.arrays.Lengths.{struct_len}
use Rattle.nested_arrays_nulls.specs.columns.FreshLaws.{is_buildable}
use Rattle.nested_arrays_nulls.specs.columns.Kinds.{most_slots}
use Rattle.nested_arrays_nulls.specs.columns.OpenBatch.{fits}
use Rattle.nested_arrays_nulls.specs.columns.Slots.{Slot, null, fields}
use Rattle.nested_arrays_nulls.specs.columns.SoundColumns.{is_sound}
use Rattle.nested_arrays_nulls.specs.columns.StoredColumns.{Column, Columns, column_len, column_type, in_columns, records, slots}
use Rattle.nested_arrays_nulls.specs.columns.StoredColumns.{slots_at}
use Rattle.nested_arrays_nulls.specs.columns.StoredColumns.{type_layer}
use Rattle.nested_arrays_cells.specs.parts.Marks.{marks, mask_of_marks}
use Rattle.nested_arrays_cells.specs.parts.Open.{Open, column_of, first_slots, opened, open_code, with_slot}
use Rattle.nested_arrays_cells.specs.taken.OpenColumns.{slots_and}

-- The data type, a mark for each record, and the open column of each field.
pub record StructParts : Type 0 where
  pub data_type : DataType
  pub marks : List Bool
  pub fields : List Open

abbrev pub struct_parts : DataType → List Bool → List Open → StructParts
struct_parts data_type marks children = record { data_type = data_type; marks = marks; fields = children }

abbrev pub struct_parts_code : Coded StructParts
struct_parts_code = code_by (DataType × (List Bool × List Open))
    (coded× data_type.the_row.coded (coded× (coded_list coded_bool) (coded_list open_code)))
    (λ p. (p.data_type, (p.marks, p.fields))) (λ c. struct_parts c.0 c.1.0 c.1.1) (λ _. refl)

-- a struct with a field at least
abbrev pub has_fields : layer.DataType-F DataType Field → Bool
has_fields (layer.Struct (field ∷ more)) = true
has_fields _ = false

-- the columns of the fields
abbrev pub field_columns : List Open → Columns
field_columns children = in_columns (map column_of children)

-- the column of the records, as many as there are marks, however many slots the fields have
abbrev pub structs_column : StructParts → Column
structs_column p = records p.data_type (mask_of_marks p.marks) (length p.marks) (field_columns p.fields)

-- the same fields under another mask, as many records as the first field has slots
abbrev pub masked_column : DataType → List Open → Option (List Bool) → Column
masked_column data_type children mask = records data_type mask (struct_len (map column_of children)) (field_columns children)

-- the parts with other fields, and with another field at a place
abbrev pub with_fields : StructParts → List Open → StructParts
with_fields p children = struct_parts p.data_type p.marks children

abbrev pub with_field : StructParts → ℕ → Open → StructParts
with_field p i child = with_fields p (slice_set p.fields i child)

-- one mark more
abbrev pub with_mark : StructParts → Bool → StructParts
with_mark p mark = struct_parts p.data_type (p.marks ++ mark ∷ []) p.fields

-- an open column with one null more
abbrev pub with_null : Open → Open
with_null o = with_slot o null

-- one null more: its mark, and a null of each field
abbrev pub with_nulls : StructParts → StructParts
with_nulls p = struct_parts p.data_type (p.marks ++ false ∷ []) (map with_null p.fields)

-- the first records
abbrev pub first_records : StructParts → ℕ → StructParts
first_records p n = struct_parts p.data_type (take n p.marks) (map (λ o. first_slots o n) p.fields)

-- an open column without slots
abbrev pub emptied : Open → Open
emptied o = opened o.data_type []

-- no records, and no slots of the fields
abbrev pub no_records : StructParts → StructParts
no_records p = struct_parts p.data_type [] (map emptied p.fields)

-- whether the slots of an open column fit its type, whose slots are stored as they come
abbrev pub is_stored : Open → Bool
is_stored o = fits o.data_type o.slots && is_buildable o.data_type

-- whether a null fits behind the slots of an open column
abbrev pub takes_null : Open → Bool
takes_null o = fits o.data_type (o.slots ++ null ∷ [])

-- The builder of these parts, where they are those of an array: a mask without nulls is let go. Or they are not, or memory ran out.
abbrev pub IsBuilt : DataType → List Open → Option (List Bool) → Result StructParts Error → Type 0
IsBuilt data_type children mask r =
    MatchResult r
    (λ builder. (builder ≡ struct_parts data_type (marks (struct_len (map column_of children)) mask) children)
    × (is_sound (masked_column data_type children mask) ≡ true))
    (λ e. IsOutOfMemory e ⊎ (IsOutOfSpec e × (is_sound (masked_column data_type children mask) ≡ false)))

-- A mark stands behind the others, over the fields as they are. Or nothing has changed: memory ran out, or there are as many as a column may have.
abbrev pub AddsMark : {U : Type 0} → StructParts → Bool → StructParts → Result U Error → Type 0
AddsMark old mark new r =
    MatchResult r (λ _. (new ≡ with_mark old mark) × (length old.marks < most_slots))
    (λ e. (new ≡ old) × (IsOutOfMemory e ⊎ (IsOverflow e × (length old.marks ≡ most_slots))))

-- The fields as they stand make sound records, one more than there are marks.
abbrev pub HasRow : StructParts → Type 0
HasRow p = is_sound (records p.data_type None (length p.marks + 1) (field_columns p.fields)) ≡ true

-- the record behind those that have marks, or null
abbrev pub next_record : StructParts → Bool → Slot
next_record p mark = if mark then fields (slots_at (field_columns p.fields) (length p.marks)) else null

-- The records, and one more of what the fields hold behind them.
pub record AddsRow (old : StructParts) (mark : Bool) (new : Column) : Type 0 where
  pub typed : column_type new ≡ old.data_type
  pub long : column_len new ≡ length old.marks + 1
  pub sound : HasRow old → (is_sound new ≡ true) × (slots new ≡ slots_and (structs_column old) (next_record old mark))

-- The same of what a mark was pushed to; or nothing has changed.
abbrev pub ClosesRow : {U : Type 0} → StructParts → Bool → Column → Result U Error → Type 0
ClosesRow old mark new r = MatchResult r (λ _. AddsRow old mark new) (λ e. new ≡ structs_column old)

-- A null stands behind the slots of an open column. Or nothing has changed: memory ran out, or there is no room for it.
abbrev pub TakesNull : {U : Type 0} → Open → Open → Result U Error → Type 0
TakesNull old new r =
    MatchResult r (λ _. (new ≡ with_null old) × (takes_null old ≡ true))
    (λ e. (new ≡ old) × (IsOutOfMemory e ⊎ (IsOverflow e × (takes_null old ≡ false))))

-- The same of each of several.
abbrev pub TakeNulls : {U : Type 0} → List Open → List Open → Result U Error → Type 0
TakeNulls old new r =
    MatchResult r (λ _. (new ≡ map with_null old) × (list_all takes_null old ≡ true))
    (λ e. (new ≡ old) × (IsOutOfMemory e ⊎ (IsOverflow e × (list_all takes_null old ≡ false))))

-- A null stands behind the records. Or nothing has changed: memory ran out, there are as many as a column may have, or a field has no room.
abbrev pub AddsNullRecord : {U : Type 0} → StructParts → StructParts → Result U Error → Type 0
AddsNullRecord old new r =
    MatchResult r (λ _. (new ≡ with_nulls old) × (length old.marks < most_slots) × (list_all takes_null old.fields ≡ true))
    (λ e. (new ≡ old)
    × (IsOutOfMemory e ⊎ (IsOverflow e × ((length old.marks ≡ most_slots) ⊎ (list_all takes_null old.fields ≡ false)))))

-- The same of marks and fields beside one another.
abbrev pub AddsNulls : {U : Type 0} → List Bool → List Open → List Bool → List Open → Result U Error → Type 0
AddsNulls own children new_marks new_children r =
    MatchResult r
    (λ _. (new_marks ≡ own ++ false ∷ []) × (new_children ≡ map with_null children) × (length own < most_slots)
    × (list_all takes_null children ≡ true))
    (λ e. (new_marks ≡ own) × (new_children ≡ children)
    × (IsOutOfMemory e ⊎ (IsOverflow e × ((length own ≡ most_slots) ⊎ (list_all takes_null children ≡ false)))))

-- How many records there are, where the parts are those of an array; or they are not.
abbrev pub IsMeasured : DataType → List Open → Option (List Bool) → Result ℕ Error → Type 0
IsMeasured data_type children mask r =
    MatchResult r
    (λ n. (n ≡ struct_len (map column_of children)) × (n ≤ most_slots) × (is_sound (masked_column data_type children mask) ≡ true))
    (λ e. IsOutOfSpec e × (is_sound (masked_column data_type children mask) ≡ false))

-- The marks of the records, where the parts are those of an array; or they are not, or memory ran out.
abbrev pub AreMarked : DataType → List Open → Option (List Bool) → Result (List Bool) Error → Type 0
AreMarked data_type children mask r =
    MatchResult r
    (λ kept. (kept ≡ marks (struct_len (map column_of children)) mask) × (is_sound (masked_column data_type children mask) ≡ true)
    × (has_fields (type_layer data_type) ≡ true))
    (λ e. IsOutOfMemory e ⊎ (IsOutOfSpec e × (is_sound (masked_column data_type children mask) ≡ false)))
