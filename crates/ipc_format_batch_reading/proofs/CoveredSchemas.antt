-- A schema that metadata gives has dictionary ids beside each field, at every depth.
use Rattle.std.proofs.Common.{◌≡◌, ◌∙◌, ℕ, zero, suc, ◌+◌, ℤ, pos, Bool, true, false, List, [], ◌∷◌, length, map, refl, sym, ap, subst}
use Rattle.std.specs.Prelude.{Option, Some, None, nat_le, if◌then◌else◌}
use Rattle.std.specs.Ordering.{int_eq}
use Rattle.std.specs.Int.{w8, w16, w32, w64}
use Rattle.std.proofs.lemmas.Bool.{and_from}
use denote.Hole.Carrier
use Rattle.ipc_format_reading.specs.array_reading.ArrayReads.{Test}
use Rattle.ipc_format_reading.specs.columnar_memory.declared.DataType.{DataType}
use Rattle.ipc_format_reading.specs.columnar_memory.declared.DataType.TheOpen as layer
use Rattle.ipc_format_reading.specs.columnar_memory.declared.DataType.TheVariants as types
use Rattle.ipc_format_reading.specs.columnar_memory.declared.DataType.TheViews.{roll-DataType}
use Rattle.ipc_format_reading.specs.columnar_memory.declared.Field.{Field}
use Rattle.ipc_format_reading.specs.columnar_memory.declared.IntegerType.{IntegerType}
use Rattle.ipc_format_reading.specs.columnar_memory.declared.IntegerType.TheVariants as integers
use Rattle.ipc_format_reading.specs.columnar_memory.declared.IntervalUnit.TheVariants as intervals
use Rattle.ipc_format_reading.specs.columnar_memory.declared.TimeUnit.{TimeUnit}
use Rattle.ipc_format_reading.specs.columnar_memory.declared.TimeUnit.TheVariants as units
use Rattle.ipc_format_reading.specs.columnar_memory.Pairs.{value_at}
use Rattle.ipc_format_reading.specs.flatbuffers.FlatBuffers.{TablePlace, Vector, element_at, number_field}
use Rattle.ipc_format_reading.specs.flatbuffers.FlatBuffers.{signed_field}
use Rattle.ipc_format_reading.specs.flatbuffers.FlatBuffers.{string_field, table_field, truth_field}
use Rattle.ipc_format_reading.specs.flatbuffers.FlatBuffers.{vector_field}
use Rattle.ipc_format_reading.specs.flatbuffers.Reading.{◌>>=◌, guard}
use Rattle.ipc_format_reading.specs.grammar.Schemas.{EncodedType, FieldIn, Ids, IdsList, SchemaIn, TypeIn}
use Rattle.ipc_format_reading.specs.grammar.Schemas.{Visits, any_schema_in, child_in, children_in}
use Rattle.ipc_format_reading.specs.grammar.Schemas.{each_of}
use Rattle.ipc_format_reading.specs.grammar.Schemas.{encoded_by, extended, extended_by}
use Rattle.ipc_format_reading.specs.grammar.Schemas.{extension_metadata_key}
use Rattle.ipc_format_reading.specs.grammar.Schemas.{extension_name_key, field_in, fields_of, ids}
use Rattle.ipc_format_reading.specs.grammar.Schemas.{ids_of, is_little_of}
use Rattle.ipc_format_reading.specs.grammar.Schemas.{ids_then, metadata_in, no_ids, type_in, visit}
use Rattle.ipc_format_reading.specs.grammar.Schemas.{with_child}
use Rattle.ipc_format_reading.specs.grammar.Limits.{most_levels}
use Rattle.ipc_format_reading.specs.grammar.Messages.{natural}
use Rattle.ipc_format_reading.specs.grammar.SlotNumbers as slots
use Rattle.ipc_format_reading.specs.grammar.Types as kind
use Rattle.ipc_format_reading.specs.grammar.Types.{Tag, UnionTable, date_of, decimal_in, decimal_of}
use Rattle.ipc_format_reading.specs.grammar.Types.{integer_in, interval_of, long_time_of}
use Rattle.ipc_format_reading.specs.grammar.Types.{short_time_of}
use Rattle.ipc_format_reading.specs.grammar.Types.{size_of, time_in, time_of, time_unit_of}
use Rattle.ipc_format_reading.specs.grammar.Types.{timestamp_in}
use Rattle.ipc_format_reading.specs.grammar.Types.{tag_of, type_of_integer, union_in}
use Rattle.ipc_format_batch_reading.proofs.CoveredTypes.{Layer, at_layer, by_type, cover_each, cover_field, cover_step, covered_layer, covers}

-- ---- one thing after another

-- where something follows, there was something to follow
pub came_of : {A B : Type 0} (r : Option A) (f : A → Option B) (y : B) → (r >>= f) ≡ Some y → (x : A) × (r ≡ Some x) × (f x ≡ Some y)
came_of None f y e = absurd cc
came_of (Some x) f y e = (x, refl, e)

-- the same, of what holds of that which follows
comes : {A B : Type 0} (P : B → Type 0) (r : Option A) (f : A → Option B) (y : B) → (r >>= f) ≡ Some y
    → ((x : A) → r ≡ Some x → f x ≡ Some y → P y) → P y
comes P None f y e each = absurd cc
comes P (Some x) f y e each = each x refl e

abbrev or_other : {A : Type 0} → A → Option A → A
or_other other None = other
or_other other (Some x) = x

pub same_value : {A : Type 0} (x y : A) → Some x ≡ Some y → x ≡ y
same_value x y e = ap (or_other x) e

-- of two things by a test, one of both
either_is : {A : Type 0} (P : A → Type 0) (test : Bool) (first second : Option A) (y : A) → (if test then first else second) ≡ Some y
    → (first ≡ Some y → P y) → (second ≡ Some y → P y) → P y
either_is P true first second y e here there = here e
either_is P false first second y e here there = there e

-- what is there has what is shown of it
is_shown : {A : Type 0} (P : A → Type 0) (x y : A) → P x → Some x ≡ Some y → P y
is_shown P x y shown e = subst P (same_value x y e) shown

-- ---- types without fields below them

-- any ids serve
abbrev IsLeaf : DataType → Type 0
IsLeaf t = (here : Ids) → covers t here ≡ true

leaf : (x : Layer) → ((here : Ids) → cover_step (covered_layer x) here ≡ true) → IsLeaf (roll-DataType x)
leaf x all here = ap (λ (test : Test). test here) (at_layer x) ∙ all here

integer_leaf : (integer : IntegerType) → IsLeaf (type_of_integer integer)
unfolding roll-DataType denote.Hole.Carrier.roll
integer_leaf integers.Int8 = leaf layer.Int8 (λ here. refl)
integer_leaf integers.Int16 = leaf layer.Int16 (λ here. refl)
integer_leaf integers.Int32 = leaf layer.Int32 (λ here. refl)
integer_leaf integers.Int64 = leaf layer.Int64 (λ here. refl)
integer_leaf integers.UInt8 = leaf layer.UInt8 (λ here. refl)
integer_leaf integers.UInt16 = leaf layer.UInt16 (λ here. refl)
integer_leaf integers.UInt32 = leaf layer.UInt32 (λ here. refl)
integer_leaf integers.UInt64 = leaf layer.UInt64 (λ here. refl)

null_leaf : IsLeaf types.Null
unfolding roll-DataType denote.Hole.Carrier.roll
null_leaf = leaf layer.Null (λ here. refl)

boolean_leaf : IsLeaf types.Boolean
unfolding roll-DataType denote.Hole.Carrier.roll
boolean_leaf = leaf layer.Boolean (λ here. refl)

binary_leaf : IsLeaf types.Binary
unfolding roll-DataType denote.Hole.Carrier.roll
binary_leaf = leaf layer.Binary (λ here. refl)

large_binary_leaf : IsLeaf types.LargeBinary
unfolding roll-DataType denote.Hole.Carrier.roll
large_binary_leaf = leaf layer.LargeBinary (λ here. refl)

utf8_leaf : IsLeaf types.Utf8
unfolding roll-DataType denote.Hole.Carrier.roll
utf8_leaf = leaf layer.Utf8 (λ here. refl)

large_utf8_leaf : IsLeaf types.LargeUtf8
unfolding roll-DataType denote.Hole.Carrier.roll
large_utf8_leaf = leaf layer.LargeUtf8 (λ here. refl)

duration_leaf : (unit : TimeUnit) → IsLeaf (types.Duration unit)
unfolding roll-DataType denote.Hole.Carrier.roll
duration_leaf unit = leaf (layer.Duration unit) (λ here. refl)

timestamp_leaf : (unit : TimeUnit) (timezone : Option (List ℕ)) → IsLeaf (types.Timestamp unit timezone)
unfolding roll-DataType denote.Hole.Carrier.roll
timestamp_leaf unit timezone = leaf (layer.Timestamp unit timezone) (λ here. refl)

fixed_binary_leaf : (size : ℕ) → IsLeaf (types.FixedSizeBinary size)
unfolding roll-DataType denote.Hole.Carrier.roll
fixed_binary_leaf size = leaf (layer.FixedSizeBinary size) (λ here. refl)

decimal_leaf : (bits : ℤ) (precision scale : ℕ) (t : DataType) → decimal_of bits precision scale ≡ Some t → IsLeaf t
unfolding roll-DataType denote.Hole.Carrier.roll
decimal_leaf bits precision scale t e =
    either_is IsLeaf (int_eq bits (pos 128)) _ _ t e
    (is_shown IsLeaf (types.Decimal precision scale) t (leaf (layer.Decimal precision scale) (λ here. refl))) (λ other.
    either_is IsLeaf (int_eq bits (pos 256)) _ _ t other
    (is_shown IsLeaf (types.Decimal256 precision scale) t (leaf (layer.Decimal256 precision scale) (λ here. refl))) (λ none. absurd cc))

date_leaf : (unit : ℤ) (t : DataType) → date_of unit ≡ Some t → IsLeaf t
unfolding roll-DataType denote.Hole.Carrier.roll
date_leaf unit t e =
    either_is IsLeaf (int_eq unit (pos 0)) _ _ t e (is_shown IsLeaf types.Date32 t (leaf layer.Date32 (λ here. refl))) (λ other.
    either_is IsLeaf (int_eq unit (pos 1)) _ _ t other (is_shown IsLeaf types.Date64 t (leaf layer.Date64 (λ here. refl))) (λ none. absurd cc))

short_leaf : (unit : TimeUnit) (t : DataType) → short_time_of unit ≡ Some t → IsLeaf t
unfolding roll-DataType denote.Hole.Carrier.roll
short_leaf units.Second t e = is_shown IsLeaf (types.Time32 units.Second) t (leaf (layer.Time32 units.Second) (λ here. refl)) e
short_leaf units.Millisecond t e = is_shown IsLeaf (types.Time32 units.Millisecond) t (leaf (layer.Time32 units.Millisecond) (λ here. refl)) e
short_leaf units.Microsecond t e = absurd cc
short_leaf units.Nanosecond t e = absurd cc

long_leaf : (unit : TimeUnit) (t : DataType) → long_time_of unit ≡ Some t → IsLeaf t
unfolding roll-DataType denote.Hole.Carrier.roll
long_leaf units.Second t e = absurd cc
long_leaf units.Millisecond t e = absurd cc
long_leaf units.Microsecond t e = is_shown IsLeaf (types.Time64 units.Microsecond) t (leaf (layer.Time64 units.Microsecond) (λ here. refl)) e
long_leaf units.Nanosecond t e = is_shown IsLeaf (types.Time64 units.Nanosecond) t (leaf (layer.Time64 units.Nanosecond) (λ here. refl)) e

time_leaf : (bits : ℤ) (unit : TimeUnit) (t : DataType) → time_of bits unit ≡ Some t → IsLeaf t
time_leaf bits unit t e =
    either_is IsLeaf (int_eq bits (pos 32)) _ _ t e (short_leaf unit t) (λ other.
    either_is IsLeaf (int_eq bits (pos 64)) _ _ t other (long_leaf unit t) (λ none. absurd cc))

interval_leaf : (unit : ℤ) (t : DataType) → interval_of unit ≡ Some t → IsLeaf t
unfolding roll-DataType denote.Hole.Carrier.roll
interval_leaf unit t e =
    either_is IsLeaf (int_eq unit (pos 0)) _ _ t e
    (is_shown IsLeaf (types.Interval intervals.YearMonth) t (leaf (layer.Interval intervals.YearMonth) (λ here. refl))) (λ first.
    either_is IsLeaf (int_eq unit (pos 1)) _ _ t first
    (is_shown IsLeaf (types.Interval intervals.DayTime) t (leaf (layer.Interval intervals.DayTime) (λ here. refl))) (λ second.
    either_is IsLeaf (int_eq unit (pos 2)) _ _ t second
    (is_shown IsLeaf (types.Interval intervals.MonthDayNano) t (leaf (layer.Interval intervals.MonthDayNano) (λ here. refl))) (λ none. absurd cc)))

decimals_leaf : (bytes : List ℕ) (table : TablePlace) (t : DataType) → decimal_in bytes table ≡ Some t → IsLeaf t
unfolding decimal_in
decimals_leaf bytes table t e =
    let stated_precision = came_of {A = ℤ} (signed_field w32 bytes table slots.decimal_precision (pos 0)) _ t e in
    let precision = came_of {A = ℕ} (natural stated_precision.0) _ t stated_precision.2 in
    let stated_scale = came_of {A = ℤ} (signed_field w32 bytes table slots.decimal_scale (pos 0)) _ t precision.2 in
    let scale = came_of {A = ℕ} (natural stated_scale.0) _ t stated_scale.2 in
    let bits = came_of {A = ℤ} (signed_field w32 bytes table slots.decimal_bit_width (pos 128)) _ t scale.2 in
    decimal_leaf bits.0 precision.0 scale.0 t bits.2

times_leaf : (bytes : List ℕ) (table : TablePlace) (t : DataType) → time_in bytes table ≡ Some t → IsLeaf t
unfolding time_in
times_leaf bytes table t e =
    let number = came_of {A = ℤ} (signed_field w16 bytes table slots.time_unit (pos 1)) _ t e in
    let unit = came_of {A = TimeUnit} (time_unit_of number.0) _ t number.2 in
    let bits = came_of {A = ℤ} (signed_field w32 bytes table slots.time_bit_width (pos 32)) _ t unit.2 in
    time_leaf bits.0 unit.0 t bits.2

timestamps_leaf : (bytes : List ℕ) (table : TablePlace) (t : DataType) → timestamp_in bytes table ≡ Some t → IsLeaf t
unfolding timestamp_in
timestamps_leaf bytes table t e =
    let number = came_of {A = ℤ} (signed_field w16 bytes table slots.timestamp_unit (pos 0)) _ t e in
    let unit = came_of {A = TimeUnit} (time_unit_of number.0) _ t number.2 in
    let timezone = came_of {A = Option (List ℕ)} (string_field bytes table slots.timestamp_timezone) _ t unit.2 in
    is_shown IsLeaf (types.Timestamp unit.0 timezone.0) t (timestamp_leaf unit.0 timezone.0) timezone.2

-- ---- fields below a type

abbrev IsCovered : FieldIn → Type 0
IsCovered found = covers found.field.data_type found.ids ≡ true

abbrev IsTypeCovered : TypeIn × ℕ → Type 0
IsTypeCovered found = covers found.0.data_type (ids None found.0.below) ≡ true

abbrev AreCovered : List FieldIn → Type 0
AreCovered found = cover_each (map cover_field (fields_of found)) (ids_of found) ≡ true

-- what reads a field gives ids beside each field below it
abbrev ReadsCovered : (TablePlace → Visits FieldIn) → Type 0
ReadsCovered read = (table : TablePlace) (left : ℕ) (found : FieldIn × ℕ) → read table left ≡ Some found → IsCovered found.0

field_covered : (found : FieldIn) → IsCovered found → cover_field found.field found.ids ≡ true
field_covered found is = ap (λ (test : Test). test found.ids) (by_type found.field) ∙ is

each_covered : (read : TablePlace → Visits FieldIn) → ReadsCovered read → (bytes : List ℕ) (vector : Vector) (n k left : ℕ)
    (found : List FieldIn × ℕ) → each_of read bytes vector n k left ≡ Some found → AreCovered found.0
each_covered read all bytes vector zero k left found e =
    is_shown (λ (found : List FieldIn × ℕ). AreCovered found.0) ([], left) found refl e
each_covered read all bytes vector (suc n) k left found e =
    let table = came_of {A = TablePlace} (element_at bytes vector k) _ found e in
    let first = came_of {A = FieldIn × ℕ} (read table.0 left) _ found table.2 in
    let others = came_of {A = List FieldIn × ℕ} (each_of read bytes vector n (k + 1) first.0.1) _ found first.2 in
    is_shown (λ (found : List FieldIn × ℕ). AreCovered found.0) (first.0.0 ∷ others.0.0, others.0.1) found
    (and_from (cover_field first.0.0.field first.0.0.ids) (cover_each (map cover_field (fields_of others.0.0)) (ids_of others.0.0))
    (field_covered first.0.0 (all table.0 left first.0 first.1)) (each_covered read all bytes vector n (k + 1) first.0.1 others.0 others.1)) others.2

children_covered : (read : TablePlace → Visits FieldIn) → ReadsCovered read
    → (bytes : List ℕ) (field : TablePlace) (left : ℕ) (found : List FieldIn × ℕ)
    → children_in read bytes field left ≡ Some found → AreCovered found.0
children_covered read all bytes field left found e =
    let vectors = came_of {A = Option Vector} (vector_field bytes field slots.field_children slots.reference_size) _ found e in
    let vector = came_of {A = Vector} (vectors.0) _ found vectors.2 in
    each_covered read all bytes vector.0 vector.0.count 0 left found vector.2

child_covered : (read : TablePlace → Visits FieldIn) → ReadsCovered read → (bytes : List ℕ) (field : TablePlace) (left : ℕ) (found : FieldIn × ℕ)
    → child_in read bytes field left ≡ Some found → IsCovered found.0
child_covered read all bytes field left found e =
    let vectors = came_of {A = Option Vector} (vector_field bytes field slots.field_children slots.reference_size) _ found e in
    let vector = came_of {A = Vector} (vectors.0) _ found vectors.2 in
    let some = came_of {A = Bool} (guard (nat_le 1 vector.0.count)) _ found vector.2 in
    let table = came_of {A = TablePlace} (element_at bytes vector.0 0) _ found some.2 in
    all table.0 left found table.2

-- one child
one_covered : (found : FieldIn) → IsCovered found → cover_each (cover_field found.field ∷ []) (ids_then found.ids no_ids) ≡ true
one_covered found is = and_from (cover_field found.field found.ids) true (field_covered found is) refl

-- a type over one child
over_covered : (make : Field → DataType) (read : TablePlace → Visits FieldIn) → ReadsCovered read → (bytes : List ℕ) (field : TablePlace) (left : ℕ)
    (found : TypeIn × ℕ)
    → ((item : Field) (below : IdsList) → covers (make item) (ids None below) ≡ cover_each (cover_field item ∷ []) below)
    → (child_in read bytes field left >>= (λ child. Some (with_child make child))) ≡ Some found → IsTypeCovered found
over_covered make read all bytes field left found layered e =
    let child = came_of {A = FieldIn × ℕ} (child_in read bytes field left) _ found e in
    is_shown IsTypeCovered (with_child make child.0) found
    (layered child.0.0.field (ids_then child.0.0.ids no_ids)
    ∙ one_covered child.0.0 (child_covered read all bytes field left child.0 child.1)) child.2

list_layer : (item : Field) (below : IdsList) → covers (types.List item) (ids None below) ≡ cover_each (cover_field item ∷ []) below
unfolding roll-DataType denote.Hole.Carrier.roll
list_layer item below = ap (λ (test : Test). test (ids None below)) (at_layer (layer.List item))

large_list_layer : (item : Field) (below : IdsList) → covers (types.LargeList item) (ids None below) ≡ cover_each (cover_field item ∷ []) below
unfolding roll-DataType denote.Hole.Carrier.roll
large_list_layer item below = ap (λ (test : Test). test (ids None below)) (at_layer (layer.LargeList item))

fixed_list_layer : (size : ℕ) (item : Field) (below : IdsList)
    → covers (types.FixedSizeList item size) (ids None below) ≡ cover_each (cover_field item ∷ []) below
unfolding roll-DataType denote.Hole.Carrier.roll
fixed_list_layer size item below = ap (λ (test : Test). test (ids None below)) (at_layer (layer.FixedSizeList item size))

map_layer : (is_sorted : Bool) (entry : Field) (below : IdsList)
    → covers (types.Map entry is_sorted) (ids None below) ≡ cover_each (cover_field entry ∷ []) below
unfolding roll-DataType denote.Hole.Carrier.roll
map_layer is_sorted entry below = ap (λ (test : Test). test (ids None below)) (at_layer (layer.Map entry is_sorted))

struct_covered : (found : List FieldIn) → AreCovered found → covers (types.Struct (fields_of found)) (ids None (ids_of found)) ≡ true
unfolding roll-DataType denote.Hole.Carrier.roll
struct_covered found are = ap (λ (test : Test). test (ids None (ids_of found))) (at_layer (layer.Struct (fields_of found))) ∙ are

union_covered : (union : UnionTable) (found : List FieldIn) → AreCovered found
    → covers (types.Union (fields_of found) union.ids union.mode) (ids None (ids_of found)) ≡ true
unfolding roll-DataType denote.Hole.Carrier.roll
union_covered union found are =
    ap (λ (test : Test). test (ids None (ids_of found))) (at_layer (layer.Union (fields_of found) union.ids union.mode)) ∙ are

-- ---- the type of a field

flat_covered : (t : DataType) (left : ℕ) (found : TypeIn × ℕ) → IsLeaf t
    → Some (record { data_type = t; below = no_ids }, left) ≡ Some found → IsTypeCovered found
flat_covered t left found all e = is_shown IsTypeCovered (record { data_type = t; below = no_ids }, left) found (all (ids None no_ids)) e

type_covered : (read : TablePlace → Visits FieldIn) → ReadsCovered read → (bytes : List ℕ) (tag : Tag) (field table : TablePlace) (left : ℕ)
    (found : TypeIn × ℕ) → type_in None read bytes tag field table left ≡ Some found → IsTypeCovered found
unfolding type_in
type_covered read all bytes kind.null field table left found e = flat_covered types.Null left found null_leaf e
type_covered read all bytes kind.bool field table left found e = flat_covered types.Boolean left found boolean_leaf e
type_covered read all bytes kind.binary field table left found e = flat_covered types.Binary left found binary_leaf e
type_covered read all bytes kind.large_binary field table left found e = flat_covered types.LargeBinary left found large_binary_leaf e
type_covered read all bytes kind.utf8 field table left found e = flat_covered types.Utf8 left found utf8_leaf e
type_covered read all bytes kind.large_utf8 field table left found e = flat_covered types.LargeUtf8 left found large_utf8_leaf e
type_covered read all bytes kind.floating_point field table left found e = absurd cc
type_covered read all bytes kind.int field table left found e =
    let integer = came_of {A = IntegerType} (integer_in bytes table) _ found e in
    flat_covered (type_of_integer integer.0) left found (integer_leaf integer.0) integer.2
type_covered read all bytes kind.decimal field table left found e =
    let t = came_of {A = DataType} (decimal_in bytes table) _ found e in
    flat_covered t.0 left found (decimals_leaf bytes table t.0 t.1) t.2
type_covered read all bytes kind.date field table left found e =
    let unit = came_of {A = ℤ} (signed_field w16 bytes table slots.date_unit (pos 1)) _ found e in
    let t = came_of {A = DataType} (date_of unit.0) _ found unit.2 in
    flat_covered t.0 left found (date_leaf unit.0 t.0 t.1) t.2
type_covered read all bytes kind.time field table left found e =
    let t = came_of {A = DataType} (time_in bytes table) _ found e in
    flat_covered t.0 left found (times_leaf bytes table t.0 t.1) t.2
type_covered read all bytes kind.timestamp field table left found e =
    let t = came_of {A = DataType} (timestamp_in bytes table) _ found e in
    flat_covered t.0 left found (timestamps_leaf bytes table t.0 t.1) t.2
type_covered read all bytes kind.interval field table left found e =
    let unit = came_of {A = ℤ} (signed_field w16 bytes table slots.interval_unit (pos 0)) _ found e in
    let t = came_of {A = DataType} (interval_of unit.0) _ found unit.2 in
    flat_covered t.0 left found (interval_leaf unit.0 t.0 t.1) t.2
type_covered read all bytes kind.duration field table left found e =
    let number = came_of {A = ℤ} (signed_field w16 bytes table slots.duration_unit (pos 1)) _ found e in
    let unit = came_of {A = TimeUnit} (time_unit_of number.0) _ found number.2 in
    flat_covered (types.Duration unit.0) left found (duration_leaf unit.0) unit.2
type_covered read all bytes kind.fixed_size_binary field table left found e =
    let width = came_of {A = ℤ} (signed_field w32 bytes table slots.fixed_size_binary_byte_width (pos 0)) _ found e in
    let size = came_of {A = ℕ} (size_of width.0) _ found width.2 in
    flat_covered (types.FixedSizeBinary size.0) left found (fixed_binary_leaf size.0) size.2
type_covered read all bytes kind.list field table left found e = over_covered types.List read all bytes field left found list_layer e
type_covered read all bytes kind.large_list field table left found e =
    over_covered types.LargeList read all bytes field left found large_list_layer e
type_covered read all bytes kind.fixed_size_list field table left found e =
    let count = came_of {A = ℤ} (signed_field w32 bytes table slots.fixed_size_list_list_size (pos 0)) _ found e in
    let size = came_of {A = ℕ} (size_of count.0) _ found count.2 in
    over_covered (λ item. types.FixedSizeList item size.0) read all bytes field left found (fixed_list_layer size.0) size.2
type_covered read all bytes kind.map field table left found e =
    let is_sorted = came_of {A = Bool} (truth_field bytes table slots.map_keys_sorted) _ found e in
    over_covered (λ entry. types.Map entry is_sorted.0) read all bytes field left found (map_layer is_sorted.0) is_sorted.2
type_covered read all bytes kind.struct field table left found e =
    let children = came_of {A = List FieldIn × ℕ} (children_in read bytes field left) _ found e in
    is_shown IsTypeCovered (record { data_type = types.Struct (fields_of children.0.0); below = ids_of children.0.0 }, children.0.1) found
    (struct_covered children.0.0 (children_covered read all bytes field left children.0 children.1)) children.2
type_covered read all bytes kind.union field table left found e =
    let union = came_of {A = UnionTable} (union_in bytes table) _ found e in
    let children = came_of {A = List FieldIn × ℕ} (children_in read bytes field left) _ found union.2 in
    is_shown IsTypeCovered
    (record { data_type = types.Union (fields_of children.0.0) union.0.ids union.0.mode; below = ids_of children.0.0 }, children.0.1) found
    (union_covered union.0 children.0.0 (children_covered read all bytes field left children.0 children.1)) children.2

-- ---- extensions and dictionaries

extended_covered : (name metadata : Option (List ℕ)) (t : DataType) (here : Ids) → covers t here ≡ true
    → covers (extended_by name metadata t) here ≡ true
unfolding roll-DataType denote.Hole.Carrier.roll
extended_covered None metadata t here is = is
extended_covered (Some name) metadata t here is = ap (λ (test : Test). test here) (at_layer (layer.Extension name t metadata)) ∙ is

dictionary_covered : (key : IntegerType) (t : DataType) (is_ordered : Bool) (own : Option ℤ) (below : IdsList)
    → covers t (ids None below) ≡ true → covers (types.Dictionary key t is_ordered) (ids own below) ≡ true
unfolding roll-DataType denote.Hole.Carrier.roll
dictionary_covered key t is_ordered own below is =
    ap (λ (test : Test). test (ids own below)) (at_layer (layer.Dictionary key t is_ordered)) ∙ is

encoded_covered : (bytes : List ℕ) (dictionary : Option TablePlace) (t : DataType) (below : IdsList) (encoded : EncodedType)
    → covers t (ids None below) ≡ true → encoded_by bytes dictionary t ≡ Some encoded → covers encoded.data_type (ids encoded.id below) ≡ true
encoded_covered bytes None t below encoded is e =
    is_shown (λ (encoded : EncodedType). covers encoded.data_type (ids encoded.id below) ≡ true) (record { data_type = t; id = None }) encoded is e
encoded_covered bytes (Some table) t below encoded is e =
    let id = came_of {A = ℤ} (signed_field w64 bytes table slots.dictionary_encoding_id (pos 0)) _ encoded e in
    let found = came_of {A = Option TablePlace} (table_field bytes table slots.dictionary_encoding_index_type) _ encoded id.2 in
    let keys = came_of {A = TablePlace} (found.0) _ encoded found.2 in
    let integer = came_of {A = IntegerType} (integer_in bytes keys.0) _ encoded keys.2 in
    let is_ordered = came_of {A = Bool} (truth_field bytes table slots.dictionary_encoding_is_ordered) _ encoded integer.2 in
    is_shown (λ (encoded : EncodedType). covers encoded.data_type (ids encoded.id below) ≡ true)
    (record { data_type = types.Dictionary integer.0 t is_ordered.0; id = Some id.0 }) encoded
    (dictionary_covered integer.0 t is_ordered.0 (Some id.0) below is) is_ordered.2

-- ---- fields and schemas

abbrev IsFieldCovered : FieldIn × ℕ → Type 0
IsFieldCovered found = IsCovered found.0

-- a field by its type, with what stands beside it
abbrev completed : List ℕ → TablePlace → List ℕ → Bool → TypeIn × ℕ → Option (FieldIn × ℕ)
completed bytes table name is_nullable found = do
  dictionary ← table_field bytes table slots.field_dictionary
  metadata ← metadata_in bytes table slots.field_custom_metadata
  encoded ← encoded_by bytes dictionary (extended metadata found.0.data_type)
  Some (
    record {
      field = record { name = name; data_type = encoded.data_type; is_nullable = is_nullable; metadata = metadata };
      ids = ids encoded.id found.0.below;
    },
    found.1,
  )

completed_covered : (bytes : List ℕ) (table : TablePlace) (name : List ℕ) (is_nullable : Bool) (below : TypeIn × ℕ) (found : FieldIn × ℕ)
    → IsTypeCovered below → completed bytes table name is_nullable below ≡ Some found → IsFieldCovered found
completed_covered bytes table name is_nullable below found is e =
    comes {A = Option TablePlace} IsFieldCovered (table_field bytes table slots.field_dictionary) _ found e (λ dictionary at_dictionary e_dictionary.
    comes {A = List (List ℕ × List ℕ)} IsFieldCovered (metadata_in bytes table slots.field_custom_metadata) _ found e_dictionary
    (λ metadata at_metadata e_metadata.
    comes {A = EncodedType} IsFieldCovered (encoded_by bytes dictionary (extended metadata below.0.data_type)) _ found e_metadata
    (λ encoded at_encoded e_encoded.
    is_shown IsFieldCovered (
      record {
        field = record { name = name; data_type = encoded.data_type; is_nullable = is_nullable; metadata = metadata };
        ids = ids encoded.id below.0.below;
      },
      below.1,
    ) found
    (encoded_covered bytes dictionary (extended metadata below.0.data_type) below.0.below encoded
    (extended_covered (value_at extension_name_key metadata) (value_at extension_metadata_key metadata) below.0.data_type (ids None below.0.below)
    is)
    at_encoded) e_encoded)))

fields_covered : (bytes : List ℕ) (levels : ℕ) → ReadsCovered (field_in None bytes levels)
unfolding field_in
fields_covered bytes zero table left found e = absurd cc
fields_covered bytes (suc levels) table left found e =
    comes {A = ℕ} IsFieldCovered (visit left) _ found e (λ visited at_visited e_visited.
    comes {A = Option (List ℕ)} IsFieldCovered (string_field bytes table slots.field_name) _ found e_visited (λ found_name at_found e_found.
    comes {A = List ℕ} IsFieldCovered found_name _ found e_found (λ name at_name e_name.
    comes {A = Bool} IsFieldCovered (truth_field bytes table slots.field_nullable) _ found e_name (λ is_nullable at_nullable e_nullable.
    comes {A = ℕ} IsFieldCovered (number_field w8 bytes table slots.field_type_type 0) _ found e_nullable (λ number at_number e_number.
    comes {A = Tag} IsFieldCovered (tag_of number) _ found e_number (λ tag at_tag e_tag.
    comes {A = Option TablePlace} IsFieldCovered (table_field bytes table slots.field_type) _ found e_tag (λ found_type at_found_type e_found_type.
    comes {A = TablePlace} IsFieldCovered found_type _ found e_found_type (λ type_table at_table e_table.
    comes {A = TypeIn × ℕ} IsFieldCovered (type_in None (field_in None bytes levels) bytes tag table type_table visited) _ found e_table
    (λ below at_below e_below.
    completed_covered bytes table name is_nullable below found
    (type_covered (field_in None bytes levels) (fields_covered bytes levels) bytes tag table type_table visited below at_below) e_below)))))))))

pub schemas_covered : (bytes : List ℕ) (table : TablePlace) (found : SchemaIn) → any_schema_in None bytes table ≡ Some found
    → cover_each (map cover_field found.schema.fields) found.ids ≡ true
unfolding any_schema_in
schemas_covered bytes table found e =
    let number = came_of {A = ℤ} (signed_field w16 bytes table slots.schema_endianness (pos 0)) _ found e in
    let is_little_endian = came_of {A = Bool} (is_little_of number.0) _ found number.2 in
    let vectors = came_of {A = Option Vector} (vector_field bytes table slots.schema_fields slots.reference_size) _ found is_little_endian.2 in
    let vector = came_of {A = Vector} (vectors.0) _ found vectors.2 in
    let fields = came_of {A = List FieldIn × ℕ} (each_of (field_in None bytes most_levels) bytes vector.0 vector.0.count 0 (length bytes)) _ found
    vector.2 in
    let metadata = came_of {A = List (List ℕ × List ℕ)} (metadata_in bytes table slots.schema_custom_metadata) _ found fields.2 in
    is_shown (λ (found : SchemaIn). cover_each (map cover_field found.schema.fields) found.ids ≡ true)
    (record {
      schema = record { fields = fields_of fields.0.0; metadata = metadata.0 };
      ids = ids_of fields.0.0;
      is_little_endian = is_little_endian.0;
    }) found
    (each_covered (field_in None bytes most_levels) (fields_covered bytes most_levels) bytes vector.0 vector.0.count 0 (length bytes) fields.0
    fields.1)
    metadata.2
