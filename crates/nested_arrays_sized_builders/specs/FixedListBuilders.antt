-- Builders of lists of one size: marks that grow, over a builder of the items (Arrow columnar format, "Fixed-Size List Layout").
use Rattle.std.specs.Prelude.{◌≡◌, ◌⊎◌, ◌+◌, ◌-◌, ◌*◌, ◌<◌, ◌≤◌, ℕ, Bool, true, false, List, [], ◌∷◌, ◌++◌, length, replicate, take}
use Rattle.std.specs.Prelude.{Result, Ok, Err, MatchResult}
use Rattle.std.proofs.Common.{refl}
use Rattle.std.specs.Coded.{Coded, code_by, coded×, coded_list, coded_bool}
use Rattle.columnar_memory_types.specs.contracts.data_type.DataType as data_type
use Rattle.nested_arrays_generic_builders.specs.nulls.arrays.Lengths.{size_of}
use Rattle.nested_arrays_generic_builders.specs.nulls.columnar_memory.declared.DataType.{DataType}
use Rattle.nested_arrays_generic_builders.specs.nulls.columnar_memory.declared.DataType.TheVariants as types
use Rattle.nested_arrays_generic_builders.specs.nulls.columnar_memory.declared.Error.{Error}
use Rattle.nested_arrays_generic_builders.specs.nulls.columnar_memory.declared.Field.{Field}
use Rattle.nested_arrays_generic_builders.specs.nulls.columnar_memory.Error.{IsInvalidArgument, IsOutOfMemory, IsOverflow}
use Rattle.nested_arrays_generic_builders.specs.nulls.columns.Kinds.{most_slots}
use Rattle.nested_arrays_generic_builders.specs.nulls.columns.OpenBatch.{fits}
use Rattle.nested_arrays_generic_builders.specs.nulls.columns.Slots.{Slot, null}
use Rattle.nested_arrays_generic_builders.specs.nulls.columns.SoundColumns.{is_sound}
use Rattle.nested_arrays_generic_builders.specs.nulls.columns.StoredColumns.{Column, column_len, column_type, fixed_lists, slots}
use Rattle.nested_arrays_generic_builders.specs.cells.parts.Marks.{mask_of_marks}
use Rattle.nested_arrays_generic_builders.specs.cells.taken.OpenColumns.{Becomes, IsEmptied, IsFresh, IsFrozen}
use Rattle.nested_arrays_generic_builders.specs.ListBuilders.{list_slot}

-- The data type, a mark for each list that was closed, and the builder of the items.
pub record FixedListParts (M : Type 0) : Type 0 where
  pub data_type : DataType
  pub marks : List Bool
  pub values : M

abbrev pub fixed_list_parts : {M : Type 0} → DataType → List Bool → M → FixedListParts M
fixed_list_parts data_type marks values = record { data_type = data_type; marks = marks; values = values }

abbrev pub fixed_list_parts_code : {M : Type 0} → Coded M → Coded (FixedListParts M)
fixed_list_parts_code {M} values = code_by (DataType × (List Bool × M))
    (coded× data_type.the_row.coded (coded× (coded_list coded_bool) values))
    (λ p. (p.data_type, (p.marks, p.values))) (λ c. fixed_list_parts c.0 c.1.0 c.1.1) (λ _. refl)

-- a type of lists of this size, of one item at least
pub record AreFixedLists (data_type : DataType) (size : ℕ) : Type 0 where
  pub wide : size_of data_type ≡ size
  pub some : 0 < size

-- the column of marked lists of a type over a column of their items
abbrev pub lists_over : DataType → List Bool → Column → Column
lists_over data_type marks child = fixed_lists data_type (mask_of_marks marks) (size_of data_type) child

-- the column of lists whose items' builder has a column, which is as long as its items make it, also while lists are not closed
abbrev pub fixed_lists_column : {M : Type 0} → (M → Column) → FixedListParts M → Column
fixed_lists_column column p = lists_over p.data_type p.marks (column p.values)

-- a builder of which no list was closed
abbrev pub no_fixed_lists : {M : Type 0} → DataType → M → FixedListParts M
no_fixed_lists data_type values = fixed_list_parts data_type [] values

-- the same lists over another builder of the items
abbrev pub with_items : {M : Type 0} → FixedListParts M → M → FixedListParts M
with_items p values = fixed_list_parts p.data_type p.marks values

-- the type of lists of a size, of items by their field
abbrev pub fixed_lists_of : Field → ℕ → DataType
fixed_lists_of field size = types.FixedSizeList field size

-- how many items there are where one list stands behind those that were closed
abbrev pub items_with_one : {M : Type 0} → FixedListParts M → ℕ
items_with_one p = size_of p.data_type * (length p.marks + 1)

-- A list is closed over the items behind those of the closed lists. Or nothing has changed: memory ran out, the items are of another number than
-- one list more has, or there are as many lists as a column may have.
abbrev pub ClosesFixedList : {M U : Type 0} → ℕ → FixedListParts M → FixedListParts M → Result U Error → Type 0
ClosesFixedList items old new r =
    MatchResult r
    (λ _. (new ≡ fixed_list_parts old.data_type (old.marks ++ true ∷ []) old.values) × (items ≡ items_with_one old)
    × (length old.marks < most_slots))
    (λ e. (new ≡ old) × (IsOutOfMemory e ⊎ (IsInvalidArgument e × ¬ (items ≡ items_with_one old))
    ⊎ (IsOverflow e × (items ≡ items_with_one old) × (length old.marks ≡ most_slots))))

-- A column of the type of another, which has some slots behind its own, and is sound where that was.
pub record Extends (old : Column) (more : List Slot) (new : Column) : Type 0 where
  pub typed : column_type new ≡ column_type old
  pub sound : is_sound old ≡ true → (is_sound new ≡ true) × (slots new ≡ slots old ++ more)

-- The column of the closed lists and of one more. Where they stood over an earlier column of items, before the items of the new list were pushed,
-- it has that list behind the slots that were there.
pub record AddsFixedList (data_type : DataType) (marks : List Bool) (child new : Column) : Type 0 where
  pub typed : column_type new ≡ data_type
  pub long : column_len new ≡ length marks + 1
  pub grown : (earlier : Column) (more : List Slot) → column_len earlier ≡ size_of data_type * length marks → Extends earlier more child
      → Extends (lists_over data_type marks earlier) (list_slot more ∷ []) new

-- The same of what a list was closed over; or nothing has changed.
abbrev pub ClosesFixedColumn : {M U : Type 0} → (M → Column) → FixedListParts M → Column → Result U Error → Type 0
ClosesFixedColumn column old new r = MatchResult r (λ _. AddsFixedList old.data_type old.marks (column old.values) new)
    (λ e. new ≡ fixed_lists_column column old)

-- marks with those of values behind, up to n
abbrev pub filled : ℕ → List Bool → List Bool
filled n marks = marks ++ replicate (n - length marks) true

-- the marks of n lists: those of lists that are no more are let go, and lists that were not closed have a value
abbrev pub marks_for : ℕ → List Bool → List Bool
marks_for n marks = filled n (take n marks)

-- So many nulls stand behind the slots of a column. Or these are as they were: memory ran out, or a fresh column has no room for the nulls.
abbrev pub AddsNulls : {U : Type 0} → Column → ℕ → Column → Result U Error → Type 0
AddsNulls old count new r = MatchResult r (λ _. Becomes old (slots old ++ replicate count null) new)
    (λ e. Becomes old (slots old) new
    × (IsOutOfMemory e ⊎ (IsOverflow e × (IsFresh old → fits (column_type old) (slots old ++ replicate count null) ≡ false))))

-- Marks are filled up to so many, and one stands behind them. Or they are as they were: memory ran out, or there are as many as a column may have.
abbrev pub MarksBehind : {U : Type 0} → List Bool → ℕ → Bool → List Bool → Result U Error → Type 0
MarksBehind old n mark new r =
    MatchResult r (λ _. (new ≡ filled n old ++ mark ∷ []) × (n < most_slots))
    (λ e. (new ≡ old) × (IsOutOfMemory e ⊎ (IsOverflow e × (most_slots ≤ n))))

-- The same, where a refusal leaves some of the new marks.
abbrev pub FillsMarks : {U : Type 0} → List Bool → ℕ → Bool → List Bool → Result U Error → Type 0
FillsMarks old n mark new r =
    MatchResult r (λ _. (new ≡ filled n old ++ mark ∷ []) × (n < most_slots))
    (λ e. (length old ≤ length new) × (take (length old) new ≡ old) × (IsOutOfMemory e ⊎ (IsOverflow e × (most_slots ≤ n))))

-- Marks are filled up to so many, and the marks of so many lists of another builder stand behind them. Or they are as they were: memory ran out, or
-- both are more than a column may have.
abbrev pub JoinsFilled : {U : Type 0} → List Bool → ℕ → List Bool → ℕ → List Bool → Result U Error → Type 0
JoinsFilled old n more m new r =
    MatchResult r (λ _. (new ≡ filled n old ++ marks_for m more) × (n + m ≤ most_slots))
    (λ e. (new ≡ old) × (IsOutOfMemory e ⊎ (IsOverflow e × (most_slots < n + m))))

-- the marks that are missing, of values, and those of so many lists behind them
abbrev pub missing_and : ℕ → List Bool → ℕ → List Bool
missing_and missing more m = replicate missing true ++ marks_for m more

-- how many lists the items make
abbrev pub lists_made : {M : Type 0} → (M → Column) → FixedListParts M → ℕ
lists_made column p = column_len (fixed_lists_column column p)

-- a mark for each list, and for each of another behind them, over the same items
abbrev pub with_fixed_lists : {M : Type 0} → (M → Column) → FixedListParts M → FixedListParts M → FixedListParts M
with_fixed_lists column p more =
    fixed_list_parts p.data_type (marks_for (lists_made column p) p.marks ++ marks_for (lists_made column more) more.marks) p.values

-- The marks of the lists of another stand behind those of the lists, over the same items. Or only marks of lists that are no more are let go: memory
-- ran out, or the lists of both are more than a column may have.
abbrev pub JoinsFixedLists : {M U : Type 0} → (M → Column) → FixedListParts M → FixedListParts M → FixedListParts M → Result U Error → Type 0
JoinsFixedLists column old more new r =
    MatchResult r
    (λ _. (new ≡ with_fixed_lists column old more) × (lists_made column old + lists_made column more ≤ most_slots))
    (λ e. (new ≡ fixed_list_parts old.data_type (take (lists_made column old) old.marks) old.values)
    × (IsOutOfMemory e ⊎ (IsOverflow e × (most_slots < lists_made column old + lists_made column more))))

-- A null stands behind the lists that there are, over as many nulls below as a list has items. Or slots and items are as they were.
abbrev pub AddsNullFixedList : {M U : Type 0} → (M → Column) → FixedListParts M → FixedListParts M → Result U Error → Type 0
AddsNullFixedList column old new r =
    (new.data_type ≡ old.data_type)
    × MatchResult r
    (λ _. (new.marks ≡ marks_for (column_len (fixed_lists_column column old)) old.marks ++ false ∷ [])
    × Becomes (column old.values) (slots (column old.values) ++ replicate (size_of old.data_type) null) (column new.values))
    (λ e. (new.marks ≡ take (column_len (fixed_lists_column column old)) old.marks)
    × Becomes (column old.values) (slots (column old.values)) (column new.values))

-- The first marks are left.
abbrev pub KeepsMarks : {M : Type 0} → FixedListParts M → ℕ → FixedListParts M → Type 0
KeepsMarks old n new = (new.data_type ≡ old.data_type) × (new.marks ≡ take n old.marks)

-- No lists are left, and no items.
abbrev pub LeavesNoLists : {M : Type 0} → (M → Column) → FixedListParts M → FixedListParts M → Type 0
LeavesNoLists column old new = (new.data_type ≡ old.data_type) × (new.marks ≡ []) × IsEmptied (column old.values) (column new.values)

-- The array of lists that these parts make; or what stood in the way of the items.
abbrev pub FreezesLists : DataType → List Bool → Result Column Error → Result Column Error → Type 0
FreezesLists data_type marks (Err e) r = r ≡ Err e
FreezesLists data_type marks (Ok child) r = IsFrozen (λ (array : Column). array) (lists_over data_type marks child) r
