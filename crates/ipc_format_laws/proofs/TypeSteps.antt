-- Each kind of type reads back where the fields below it do.
use Rattle.std.proofs.Common.{◌≡◌, ℕ, zero, suc, ◌+◌, ◌≤◌, ◌<◌, ◌^◌, ℤ, pos, Bool, List, [], ◌∷◌, refl, ap, subst, ◌∙◌, arith}
use Rattle.std.specs.Prelude.{Option, Some, None}
use Rattle.ipc_format_grammar.specs.flatbuffers.FlatBuffers.{TablePlace}
use Rattle.ipc_format_grammar.specs.flatbuffers.Objects.{Object, Fields, Objects, table, references, no_field, number_then, no_object, object_then}
use Rattle.ipc_format_laws.specs.Spelling.{Spells, SpellsFields, SpellsReference}
use Rattle.ipc_format_laws.proofs.Readers.{references_read}
use Rattle.ipc_format_grammar.specs.columnar_memory.declared.DataType.{DataType}
use Rattle.ipc_format_grammar.specs.columnar_memory.declared.DataType.TheVariants as types
use Rattle.ipc_format_grammar.specs.columnar_memory.declared.Field.{Field}
use Rattle.ipc_format_grammar.specs.columnar_memory.declared.TimeUnit.{TimeUnit}
use Rattle.ipc_format_grammar.specs.columnar_memory.declared.IntervalUnit.{IntervalUnit}
use Rattle.ipc_format_grammar.specs.columnar_memory.declared.IntervalUnit.TheVariants as intervals
use Rattle.ipc_format_grammar.specs.columnar_memory.declared.IntegerType.{IntegerType}
use Rattle.ipc_format_grammar.specs.columnar_memory.declared.UnionMode.{UnionMode}
use Rattle.std.specs.Int.{w8, w16, w32}
use Rattle.ipc_format_grammar.specs.Types as kind
use Rattle.ipc_format_grammar.specs.Types.{Tag, tag_of, integer_of, type_of_integer, decimal_of, date_of, time_of, interval_of, size_of}
use Rattle.ipc_format_grammar.specs.Schemas.{Ids, IdsList, ids, no_ids, ids_then, FieldIn, Visits, type_in, field_in, children_in, child_in}
use Rattle.ipc_format_grammar.specs.Schemas.{with_child, fields_of, ids_of}
use Rattle.ipc_format_grammar.specs.SchemaObjects.{flat, nested, objects_of, truth, unit_number, interval_number}
use Rattle.ipc_format_laws.proofs.TypeTables.{int_fields, int_reads, decimal_fields, decimal_reads, time_fields, time_reads, timestamp_fields}
use Rattle.ipc_format_laws.proofs.TypeTables.{timestamp_reads, union_fields, union_reads, FitIds, truth_reads, short_reads, signed_reads}
use Rattle.ipc_format_laws.proofs.TypeTables.{unit_small, unit_back}
use Rattle.ipc_format_laws.proofs.FieldSteps.{TypeReads, FieldReads, ListReads, element_reads}

-- ---- types without fields below them

-- a type that is told by its tag and its table alone
leaf_reads : (n : ℕ) (tag : Tag) (type_fields : Fields) (data_type : DataType) (below : IdsList) → tag_of n ≡ Some tag
    → ((bytes : List ℕ) (read : TablePlace → Visits FieldIn) (field found : TablePlace) (total : ℕ) → SpellsFields bytes found 0 type_fields
    → type_in None read bytes tag field found total ≡ Some (record { data_type = data_type; below = no_ids }, total))
    → TypeReads (flat n (table type_fields) below) data_type no_ids 0 0
leaf_reads n tag type_fields data_type below tag-is read = record {
  tag = tag;
  tag_is = tag-is;
  type_fields = type_fields;
  table_is = refl;
  reads = λ (bytes : List ℕ) (levels : ℕ) (field found : TablePlace) (total left : ℕ) enough e s children.
      read bytes (field_in None bytes levels) field found total s ∙ ap (λ (t : ℕ). Some (record { data_type = data_type; below = no_ids }, t))
      (omega arith);
}

-- a type whose table has no slots
pub plain_reads : (n : ℕ) (tag : Tag) (data_type : DataType) (below : IdsList) → tag_of n ≡ Some tag
    → ((bytes : List ℕ) (read : TablePlace → Visits FieldIn) (field found : TablePlace) (total : ℕ) → type_in None read bytes tag field found total
    ≡ Some
    (record { data_type = data_type; below = no_ids }, total))
    → TypeReads (flat n (table no_field) below) data_type no_ids 0 0
plain_reads n tag data_type below tag-is read = leaf_reads n tag no_field data_type below tag-is
    (λ (bytes : List ℕ) (r : TablePlace → Visits FieldIn) (field found : TablePlace) (total : ℕ) s. read bytes r field found total)

pub integer_reads : (bits : ℕ) (is_signed : Bool) (integer : IntegerType) (below : IdsList) → bits < 2 ^ 31
    → integer_of (pos bits) is_signed ≡ Some integer
    → TypeReads (flat 2 (table (int_fields bits is_signed)) below) (type_of_integer integer) no_ids 0 0
unfolding type_in
integer_reads bits is_signed integer below small e = leaf_reads 2 kind.int (int_fields bits is_signed) (type_of_integer integer) below refl
    (λ (bytes : List ℕ) (r : TablePlace → Visits FieldIn) (field found : TablePlace) (total : ℕ)
    (s : SpellsFields bytes found 0 (int_fields bits is_signed)).
    rw (int_reads bytes found bits is_signed small s, e) refl)

pub decimals_read : (precision scale bits : ℕ) (data_type : DataType) (below : IdsList) → precision < 2 ^ 31 → scale < 2 ^ 31 → bits < 2 ^ 31
    → decimal_of (pos bits) precision scale ≡ Some data_type
    → TypeReads (flat 7 (table (decimal_fields precision scale bits)) below) data_type no_ids 0 0
unfolding type_in
decimals_read precision scale bits data_type below small small-too short e = leaf_reads 7 kind.decimal
    (decimal_fields precision scale bits) data_type below refl
    (λ (bytes : List ℕ) (r : TablePlace → Visits FieldIn) (field found : TablePlace) (total : ℕ)
    (s : SpellsFields bytes found 0 (decimal_fields precision scale bits)).
    rw (decimal_reads bytes found precision scale bits small small-too short s, e) refl)

pub dates_read : (unit : ℕ) (data_type : DataType) (below : IdsList) → unit < 2 ^ 15 → date_of (pos unit) ≡ Some data_type
    → TypeReads (flat 8 (table (number_then w16 unit no_field)) below) data_type no_ids 0 0
unfolding type_in
dates_read unit data_type below small e = leaf_reads 8 kind.date (number_then w16 unit no_field) data_type below refl
    (λ (bytes : List ℕ) (r : TablePlace → Visits FieldIn) (field found : TablePlace) (total : ℕ)
    (s : SpellsFields bytes found 0 (number_then w16 unit no_field)).
    rw (short_reads bytes found 0 unit (pos 1) small s.here, e) refl)

pub times_read : (unit : TimeUnit) (bits : ℕ) (data_type : DataType) (below : IdsList) → bits < 2 ^ 31 → time_of (pos bits) unit ≡ Some data_type
    → TypeReads (flat 9 (table (time_fields (unit_number unit) bits)) below) data_type no_ids 0 0
unfolding type_in
times_read unit bits data_type below small e = leaf_reads 9 kind.time (time_fields (unit_number unit) bits) data_type below refl
    (λ (bytes : List ℕ) (r : TablePlace → Visits FieldIn) (field found : TablePlace) (total : ℕ)
    (s : SpellsFields bytes found 0 (time_fields (unit_number unit) bits)).
    rw (time_reads bytes found unit bits small s, e) refl)

pub timestamps_read : (unit : TimeUnit) (timezone : Option (List ℕ)) (below : IdsList)
    → TypeReads (flat 10 (table (timestamp_fields unit timezone)) below) (types.Timestamp unit timezone) no_ids 0 0
unfolding type_in
timestamps_read unit timezone below = leaf_reads 10 kind.timestamp (timestamp_fields unit timezone) (types.Timestamp unit timezone) below refl
    (λ (bytes : List ℕ) (r : TablePlace → Visits FieldIn) (field found : TablePlace) (total : ℕ)
    (s : SpellsFields bytes found 0 (timestamp_fields unit timezone)).
    rw (timestamp_reads bytes found unit timezone s) refl)

interval_small : (unit : IntervalUnit) → interval_number unit < 2 ^ 15
interval_small intervals.YearMonth = omega arith
interval_small intervals.DayTime = omega arith
interval_small intervals.MonthDayNano = omega arith

interval_back : (unit : IntervalUnit) → interval_of (pos (interval_number unit)) ≡ Some (types.Interval unit)
interval_back intervals.YearMonth = refl
interval_back intervals.DayTime = refl
interval_back intervals.MonthDayNano = refl

pub intervals_read : (unit : IntervalUnit) (below : IdsList)
    → TypeReads (flat 11 (table (number_then w16 (interval_number unit) no_field)) below) (types.Interval unit) no_ids 0 0
unfolding type_in
intervals_read unit below = leaf_reads 11 kind.interval (number_then w16 (interval_number unit) no_field) (types.Interval unit) below refl
    (λ (bytes : List ℕ) (r : TablePlace → Visits FieldIn) (field found : TablePlace) (total : ℕ)
    (s : SpellsFields bytes found 0 (number_then w16 (interval_number unit) no_field)).
    rw (short_reads bytes found 0 (interval_number unit) (pos 0) (interval_small unit) s.here, interval_back unit) refl)

pub durations_read : (unit : TimeUnit) (below : IdsList)
    → TypeReads (flat 18 (table (number_then w16 (unit_number unit) no_field)) below) (types.Duration unit) no_ids 0 0
unfolding type_in
durations_read unit below = leaf_reads 18 kind.duration (number_then w16 (unit_number unit) no_field) (types.Duration unit) below refl
    (λ (bytes : List ℕ) (r : TablePlace → Visits FieldIn) (field found : TablePlace) (total : ℕ)
    (s : SpellsFields bytes found 0 (number_then w16 (unit_number unit) no_field)).
    rw (short_reads bytes found 0 (unit_number unit) (pos 1) (unit_small unit) s.here, unit_back unit) refl)

size_back : (size : ℕ) → 1 ≤ size → size_of (pos size) ≡ Some size
size_back zero h = absurd (omega arith)
size_back (suc n) h = refl

pub fixed_binaries_read : (size : ℕ) (below : IdsList) → 1 ≤ size → size < 2 ^ 31
    → TypeReads (flat 15 (table (number_then w32 size no_field)) below) (types.FixedSizeBinary size) no_ids 0 0
unfolding type_in
fixed_binaries_read size below some small = leaf_reads 15 kind.fixed_size_binary (number_then w32 size no_field)
    (types.FixedSizeBinary size) below refl
    (λ (bytes : List ℕ) (r : TablePlace → Visits FieldIn) (field found : TablePlace) (total : ℕ)
    (s : SpellsFields bytes found 0 (number_then w32 size no_field)).
    rw (signed_reads bytes found 0 size (pos 0) small s.here, size_back size some) refl)

-- ---- types over one field

-- the ids beside the first field
abbrev pub first_ids : IdsList → Ids
first_ids no_ids = ids None no_ids
first_ids (ids_then first others) = first

pub one_object : (f : Ids → Object) (below : IdsList) → objects_of (f ∷ []) below ≡ object_then (f (first_ids below)) no_object
one_object f no_ids = refl
one_object f (ids_then first others) = refl

child_reads : (object : Object) (result : FieldIn) (deep visits : ℕ) → FieldReads object result deep visits
    → (bytes : List ℕ) (levels : ℕ) (field : TablePlace) (total left : ℕ) → deep ≤ levels → total ≡ visits + left
    → SpellsReference bytes field 5 (λ (place : ℕ). Spells bytes place (references (object_then object no_object)))
    → child_in (field_in None bytes levels) bytes field total ≡ Some (result, left)
child_reads object result deep visits h bytes levels field total left enough e s =
    let read = references_read bytes field 5 (object_then object no_object) s in
    let first = element_reads bytes read.child 0 object h.fields h.table_is read.each.here in
    rw (read.vector, read.count_is, first.table) (h.reads bytes levels first.child total left enough e first.slots)

children_read : (objects : Objects) (results : List FieldIn) (deep visits : ℕ) → ListReads objects results deep visits
    → (bytes : List ℕ) (levels : ℕ) (field : TablePlace) (total left : ℕ) → deep ≤ levels → total ≡ visits + left
    → SpellsReference bytes field 5 (λ (place : ℕ). Spells bytes place (references objects))
    → children_in (field_in None bytes levels) bytes field total ≡ Some (results, left)
children_read objects results deep visits h bytes levels field total left enough e s =
    let read = references_read bytes field 5 objects s in
    rw (read.vector, read.count_is) (h.reads bytes levels read.child 0 total left enough e read.each)

-- a type that is made of its one field
pub over_reads : (n : ℕ) (tag : Tag) (type_fields : Fields) (make : Field → DataType) (f : Ids → Object) (below : IdsList) (result : FieldIn)
    (deep visits : ℕ)
    → tag_of n ≡ Some tag → FieldReads (f (first_ids below)) result deep visits
    → ((bytes : List ℕ) (read : TablePlace → Visits FieldIn) (field found : TablePlace) (total left : ℕ) → SpellsFields bytes found 0 type_fields
    → child_in read bytes field total ≡ Some (result, left) → type_in None read bytes tag field found total ≡ Some (with_child make (result, left)))
    → TypeReads (nested n (table type_fields) (f ∷ []) below) (make result.field) (ids_then result.ids no_ids) deep visits
over_reads n tag type_fields make f below result deep visits tag-is h read = record {
  tag = tag;
  tag_is = tag-is;
  type_fields = type_fields;
  table_is = refl;
  reads = λ (bytes : List ℕ) (levels : ℕ) (field found : TablePlace) (total left : ℕ) enough e s children.
      read bytes (field_in None bytes levels) field found total left s
      (child_reads (f (first_ids below)) result deep visits h bytes levels field total left enough e
      (subst (λ (objects : Objects). SpellsReference bytes field 5 (λ (place : ℕ). Spells bytes place (references objects)))
      (one_object f below) children));
}

pub fixed_lists_read : (size : ℕ) (f : Ids → Object) (below : IdsList) (result : FieldIn) (deep visits : ℕ) → 1 ≤ size → size < 2 ^ 31
    → FieldReads (f (first_ids below)) result deep visits
    → TypeReads (nested 16 (table (number_then w32 size no_field)) (f ∷ []) below) (types.FixedSizeList result.field size)
    (ids_then result.ids no_ids) deep visits
unfolding type_in
fixed_lists_read size f below result deep visits some small h = over_reads 16 kind.fixed_size_list (number_then w32 size no_field)
    (λ (item : Field). types.FixedSizeList item size) f below result deep visits refl h
    (λ (bytes : List ℕ) (r : TablePlace → Visits FieldIn) (field found : TablePlace) (total left : ℕ)
    (s : SpellsFields bytes found 0 (number_then w32 size no_field)) e.
    rw (signed_reads bytes found 0 size (pos 0) small s.here, size_back size some, e) refl)

pub maps_read : (is_sorted : Bool) (f : Ids → Object) (below : IdsList) (result : FieldIn) (deep visits : ℕ)
    → FieldReads (f (first_ids below)) result deep visits
    → TypeReads (nested 17 (table (number_then w8 (truth is_sorted) no_field)) (f ∷ []) below) (types.Map result.field is_sorted)
    (ids_then result.ids no_ids) deep visits
unfolding type_in
maps_read is_sorted f below result deep visits h = over_reads 17 kind.map (number_then w8 (truth is_sorted) no_field)
    (λ (entry : Field). types.Map entry is_sorted) f below result deep visits refl h
    (λ (bytes : List ℕ) (r : TablePlace → Visits FieldIn) (field found : TablePlace) (total left : ℕ)
    (s : SpellsFields bytes found 0 (number_then w8 (truth is_sorted) no_field)) e.
    rw (truth_reads bytes found 0 is_sorted s.here, e) refl)

-- ---- types over all their fields

pub structs_read : (fs : List (Ids → Object)) (below : IdsList) (results : List FieldIn) (deep visits : ℕ)
    → ListReads (objects_of fs below) results deep visits
    → TypeReads (nested 13 (table no_field) fs below) (types.Struct (fields_of results)) (ids_of results) deep visits
unfolding type_in
structs_read fs below results deep visits h = record {
  tag = kind.struct;
  tag_is = refl;
  type_fields = no_field;
  table_is = refl;
  reads = λ (bytes : List ℕ) (levels : ℕ) (field found : TablePlace) (total left : ℕ) enough e s children.
      rw (children_read (objects_of fs below) results deep visits h bytes levels field total left enough e children) refl;
}

pub unions_read : (mode : UnionMode) (numbers : Option (List ℤ)) (fs : List (Ids → Object)) (below : IdsList) (results : List FieldIn)
    (deep visits : ℕ)
    → FitIds numbers → ListReads (objects_of fs below) results deep visits
    → TypeReads (nested 14 (table (union_fields mode numbers)) fs below) (types.Union (fields_of results) numbers mode) (ids_of results) deep visits
unfolding type_in
unions_read mode numbers fs below results deep visits fit h = record {
  tag = kind.union;
  tag_is = refl;
  type_fields = union_fields mode numbers;
  table_is = refl;
  reads = λ (bytes : List ℕ) (levels : ℕ) (field found : TablePlace) (total left : ℕ) enough e s children.
      rw (
        union_reads bytes found mode numbers fit s,
        children_read
            (objects_of fs below) results deep visits h bytes levels field total left enough e children,
      ) refl;
}
