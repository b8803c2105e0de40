-- Builders of lists: marks and offsets that grow, over a builder of the items (Arrow columnar format, "Variable-size List Layout").
use Rattle.std.specs.Prelude.{◌≡◌, ◌⊎◌, ◌+◌, ◌-◌, ◌<◌, ◌≤◌, ℕ, Bool, true, false, List, [], ◌∷◌, ◌++◌, drop, length, map, take, is_some}
use Rattle.std.specs.Prelude.{Option, Some, None, get_or, sum, Result, Ok, Err, MatchResult}
use Rattle.std.proofs.Common.{refl}
use Rattle.std.specs.Coded.{Coded, code_by, coded×, coded_list, coded_bool, coded_ℕ}
use Rattle.columnar_memory_types.specs.contracts.data_type.DataType as data_type
use Rattle.nested_arrays_nulls.specs.columnar_memory.declared.DataType.{DataType}
use Rattle.nested_arrays_nulls.specs.columnar_memory.declared.DataType.TheVariants as types
use Rattle.nested_arrays_nulls.specs.columnar_memory.declared.Error.{Error}
use Rattle.nested_arrays_nulls.specs.columnar_memory.declared.Field.{Field}
use Rattle.nested_arrays_nulls.specs.columnar_memory.Error.{IsOutOfMemory, IsOverflow}
use Rattle.nested_arrays_nulls.specs.columnar_memory.Spans.{Spans, extended, first_spans, last_of, no_spans, offsets_of}
use Rattle.nested_arrays_nulls.specs.columns.Kinds.{most_slots}
use Rattle.nested_arrays_nulls.specs.columns.Slots.{Slot, in_slots, items}
use Rattle.nested_arrays_nulls.specs.columns.SoundColumns.{is_sound}
use Rattle.nested_arrays_nulls.specs.columns.StoredColumns.{Column, column_len, column_type, lists, slots, type_layer}
use Rattle.nested_arrays_nulls.specs.generic.ListTypes.{items_field}
use Rattle.nested_arrays_cells.specs.parts.Marks.{mask_of_marks}
use Rattle.nested_arrays_cells.specs.taken.OpenColumns.{IsEmptied, IsFrozen, slots_and}

-- The data type, a mark for each list, the span of each among the items, and the builder of these.
pub record ListParts (M : Type 0) : Type 0 where
  pub data_type : DataType
  pub marks : List Bool
  pub spans : Spans
  pub values : M

abbrev pub list_parts : {M : Type 0} → DataType → List Bool → Spans → M → ListParts M
list_parts data_type marks spans values = record { data_type = data_type; marks = marks; spans = spans; values = values }

abbrev pub list_parts_code : {M : Type 0} → Coded M → Coded (ListParts M)
list_parts_code {M} values = code_by (DataType × (List Bool × (ℕ × (List ℕ × M))))
    (coded× data_type.the_row.coded (coded× (coded_list coded_bool) (coded× coded_ℕ (coded× (coded_list coded_ℕ) values))))
    (λ p. (p.data_type, (p.marks, (p.spans.start, (p.spans.lengths, p.values)))))
    (λ c. list_parts c.0 c.1.0 (record { start = c.1.1.0; lengths = c.1.1.1.0 }) c.1.1.1.1) (λ _. refl)

-- A type of lists with offsets of this width, a mark for each span, and spans from 0 on.
pub record AreLists (is_large : Bool) (data_type : DataType) (marks : List Bool) (spans : Spans) : Type 0 where
  pub lies : is_some (items_field is_large (type_layer data_type)) ≡ true
  pub counted : length marks ≡ length spans.lengths
  pub first : spans.start ≡ 0

-- the column of lists whose items' builder has a column
abbrev pub lists_column : {M : Type 0} → (M → Column) → ListParts M → Column
lists_column column p = lists p.data_type (mask_of_marks p.marks) (offsets_of p.spans) (column p.values)

-- a builder without lists
abbrev pub no_lists : {M : Type 0} → DataType → M → ListParts M
no_lists data_type values = list_parts data_type [] no_spans values

-- the same lists over another builder of the items
abbrev pub with_values : {M : Type 0} → ListParts M → M → ListParts M
with_values p values = list_parts p.data_type p.marks p.spans values

-- the type of lists with offsets of a width, of items by their field
abbrev pub lists_of : Bool → Field → DataType
lists_of false field = types.List field
lists_of true field = types.LargeList field

-- one list more, of the items behind those of the lists before it
abbrev pub with_list : {M : Type 0} → ListParts M → Bool → ℕ → ListParts M
with_list p mark count = list_parts p.data_type (p.marks ++ mark ∷ []) (extended p.spans (count ∷ [])) p.values

-- why a list was not closed: there are as many as a column may have, or fewer items than the offsets say, or more than offsets may number
abbrev pub HasNoRoom : {M : Type 0} → ℕ → ℕ → ListParts M → Type 0
HasNoRoom greatest held p = (length p.marks ≡ most_slots) ⊎ (held < last_of p.spans) ⊎ (greatest < held)

-- A list is closed over the items that stand behind those of the other lists; or nothing has changed.
abbrev pub ClosesList : {M U : Type 0} → ℕ → ℕ → ListParts M → ListParts M → Result U Error → Type 0
ClosesList greatest held old new r =
    MatchResult r
    (λ _. (new ≡ with_list old true (held - last_of old.spans)) × (last_of old.spans ≤ held) × (held ≤ greatest)
    × (length old.marks < most_slots))
    (λ e. (new ≡ old) × (IsOutOfMemory e ⊎ (IsOverflow e × HasNoRoom greatest held old)))

-- the list of some items
abbrev pub list_slot : List Slot → Slot
list_slot some = items (in_slots some)

-- The slots of lists, and one more of the items from a place on, which are sound where the lists were.
pub record AddsList (old child : Column) (begin : ℕ) (new : Column) : Type 0 where
  pub typed : column_type new ≡ column_type old
  pub long : column_len new ≡ column_len old + 1
  pub sound : is_sound old ≡ true → (is_sound new ≡ true) × (slots new ≡ slots_and old (list_slot (drop begin (slots child))))

-- The same of what a list was closed over; or nothing has changed.
abbrev pub ClosesColumn : {U : Type 0} → Column → Column → ℕ → Column → Result U Error → Type 0
ClosesColumn old child begin new r = MatchResult r (λ _. AddsList old child begin new) (λ e. new ≡ old)

-- The marks and spans of the first lists are left.
abbrev pub KeepsParts : {M : Type 0} → ListParts M → ℕ → ListParts M → Type 0
KeepsParts old n new = (new.data_type ≡ old.data_type) × (new.marks ≡ take n old.marks) × (new.spans ≡ first_spans old.spans n)

-- No lists are left, and no items.
abbrev pub LeavesNone : {M : Type 0} → (M → Column) → ListParts M → ListParts M → Type 0
LeavesNone column old new = (new.data_type ≡ old.data_type) × (new.marks ≡ []) × (new.spans ≡ no_spans)
    × IsEmptied (column old.values) (column new.values)

-- A null stands behind the lists; or nothing has changed.
abbrev pub AddsNullList : {M U : Type 0} → ListParts M → ListParts M → Result U Error → Type 0
AddsNullList old new r =
    MatchResult r (λ _. (new ≡ with_list old false 0) × (length old.marks < most_slots))
    (λ e. (new ≡ old) × (IsOutOfMemory e ⊎ (IsOverflow e × (length old.marks ≡ most_slots))))

-- A mark and a span stand behind the others; or nothing has changed.
abbrev pub AddsSpan : {U : Type 0} → ℕ → List Bool → Spans → Bool → ℕ → List Bool → Spans → Result U Error → Type 0
AddsSpan greatest marks spans mark count new_marks new_spans r =
    MatchResult r
    (λ _. (new_marks ≡ marks ++ mark ∷ []) × (new_spans ≡ extended spans (count ∷ [])) × (length marks < most_slots)
    × (last_of spans + count ≤ greatest))
    (λ e. (new_marks ≡ marks) × (new_spans ≡ spans)
    × (IsOutOfMemory e ⊎ (IsOverflow e × ((length marks ≡ most_slots) ⊎ (greatest < last_of spans + count)))))

-- how many items a list of a length has, none where it is null
abbrev pub count_of : Option ℕ → ℕ
count_of None = 0
count_of (Some count) = count

-- why a list of a length was not closed: there are as many as a column may have, fewer items than it ends at, or its end is past the offsets
abbrev pub LacksRoom : ℕ → ℕ → List Bool → Spans → ℕ → Type 0
LacksRoom greatest held marks spans count =
    (length marks ≡ most_slots) ⊎ (held < last_of spans + count) ⊎ (greatest < last_of spans + count)

-- A list of a length stands behind the others; or nothing has changed.
abbrev pub AddsLength : {U : Type 0} → ℕ → ℕ → List Bool → Spans → Option ℕ → List Bool → Spans → Result U Error → Type 0
AddsLength greatest held marks spans count new_marks new_spans r =
    MatchResult r
    (λ _. (new_marks ≡ marks ++ is_some count ∷ []) × (new_spans ≡ extended spans (count_of count ∷ [])) × (last_of new_spans ≤ held))
    (λ e. (new_marks ≡ marks) × (new_spans ≡ spans)
    × (IsOutOfMemory e ⊎ (IsOverflow e × LacksRoom greatest held marks spans (count_of count))))

-- one of some lengths is refused behind those before it
abbrev pub IsRefusedAt : ℕ → ℕ → List Bool → Spans → List (Option ℕ) → ℕ → Error → Type 0
IsRefusedAt greatest held marks spans lengths n e =
    IsOutOfMemory e ⊎ (IsOverflow e × LacksRoom greatest held (marks ++ map is_some (take n lengths)) (extended spans (map count_of (take n lengths)))
    (count_of (get_or lengths n None)))

-- Lists of some lengths stand behind the others; or only those before one that is refused.
abbrev pub AddsLengths : {U : Type 0} → ℕ → ℕ → List Bool → Spans → List (Option ℕ) → List Bool → Spans → Result U Error → Type 0
AddsLengths greatest held marks spans lengths new_marks new_spans r =
    MatchResult r
    (λ _. (new_marks ≡ marks ++ map is_some lengths) × (new_spans ≡ extended spans (map count_of lengths))
    × (0 < length lengths → last_of new_spans ≤ held))
    (λ e. (n : ℕ) × (n < length lengths) × (new_marks ≡ marks ++ map is_some (take n lengths))
    × (new_spans ≡ extended spans (map count_of (take n lengths))) × IsRefusedAt greatest held marks spans lengths n e)

-- The same of a builder, whose data type and items stay.
abbrev pub ClosesLists : {M U : Type 0} → ℕ → ℕ → ListParts M → List (Option ℕ) → ListParts M → Result U Error → Type 0
ClosesLists greatest held old lengths new r =
    (new ≡ list_parts old.data_type new.marks new.spans old.values)
    × AddsLengths greatest held old.marks old.spans lengths new.marks new.spans r

-- The array of lists that these parts make; or what stood in the way of a part, first of the items.
abbrev pub FreezesParts : DataType → List Bool → Result Spans Error → Result Column Error → Result Column Error → Type 0
FreezesParts data_type marks spans (Err e) r = r ≡ Err e
FreezesParts data_type marks (Err e) (Ok child) r = r ≡ Err e
FreezesParts data_type marks (Ok spans) (Ok child) r =
    IsFrozen (λ (array : Column). array) (lists data_type (mask_of_marks marks) (offsets_of spans) child) r

-- Marks stand behind the others; or they are as they were: memory ran out, or both are more than a column may have slots.
abbrev pub JoinsMarks : {U : Type 0} → List Bool → List Bool → List Bool → Result U Error → Type 0
JoinsMarks marks more new_marks r =
    MatchResult r (λ _. (new_marks ≡ marks ++ more) × (length marks + length more ≤ most_slots))
    (λ e. (new_marks ≡ marks) × (IsOutOfMemory e ⊎ (IsOverflow e × (most_slots < length marks + length more))))

-- why more spans found no room: the lists of both are more than a column may have, or the last one would end past the greatest offset
abbrev pub HasNoRoomFor : ℕ → List Bool → Spans → List Bool → Spans → Type 0
HasNoRoomFor greatest marks spans more_marks more =
    (most_slots < length marks + length more_marks) ⊎ (greatest < last_of spans + sum more.lengths)

-- Marks and spans stand behind the others; or nothing has changed.
abbrev pub JoinsSpans : {U : Type 0} → ℕ → List Bool → Spans → List Bool → Spans → List Bool → Spans → Result U Error → Type 0
JoinsSpans greatest marks spans more_marks more new_marks new_spans r =
    MatchResult r
    (λ _. (new_marks ≡ marks ++ more_marks) × (new_spans ≡ extended spans more.lengths) × (length marks + length more_marks ≤ most_slots)
    × (last_of spans + sum more.lengths ≤ greatest))
    (λ e. (new_marks ≡ marks) × (new_spans ≡ spans)
    × (IsOutOfMemory e ⊎ (IsOverflow e × HasNoRoomFor greatest marks spans more_marks more)))

-- the lists of another behind these, over the same items
abbrev pub with_lists : {M : Type 0} → ListParts M → ListParts M → ListParts M
with_lists p more = list_parts p.data_type (p.marks ++ more.marks) (extended p.spans more.spans.lengths) p.values

-- The marks and spans of another stand behind the others, over the same items; or nothing has changed.
abbrev pub JoinsLists : {M U : Type 0} → ℕ → ListParts M → ListParts M → ListParts M → Result U Error → Type 0
JoinsLists greatest old more new r =
    MatchResult r
    (λ _. (new ≡ with_lists old more) × (length old.marks + length more.marks ≤ most_slots)
    × (last_of old.spans + sum more.spans.lengths ≤ greatest))
    (λ e. (new ≡ old) × (IsOutOfMemory e ⊎ (IsOverflow e × HasNoRoomFor greatest old.marks old.spans more.marks more.spans)))
