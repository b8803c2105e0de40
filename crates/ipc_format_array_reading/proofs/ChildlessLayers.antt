-- Columns without columns below them are read by their nodes and buffers, the room, the byte order and the limit alone, if they are no keys.
use Rattle.std.proofs.Common.{◌≡◌, ◌∙◌, ℕ, List, Bool, true, false, refl, sym, ap}
use Rattle.std.specs.Prelude.{Option, None}
use Rattle.std.proofs.lemmas.Bool.{false≢true, true≢false}
use Rattle.ipc_format_column_writing.specs.columnar_memory.Layouts.{physical_type}
use Rattle.ipc_format_column_writing.specs.columnar_memory.declared.DataType.{DataType}
use Rattle.ipc_format_column_writing.specs.columnar_memory.declared.DataType.TheOpen as layer
use Rattle.ipc_format_column_writing.specs.columnar_memory.declared.IntegerType.{IntegerType}
use Rattle.ipc_format_column_writing.specs.columnar_memory.declared.IntervalUnit.TheVariants as intervals
use Rattle.ipc_format_column_writing.specs.columnar_memory.declared.PhysicalType.{PhysicalType}
use Rattle.ipc_format_column_writing.specs.columnar_memory.declared.PhysicalType.TheVariants as physical
use Rattle.ipc_format_column_writing.specs.columnar_memory.declared.PrimitiveType.{PrimitiveType}
use Rattle.ipc_format_column_writing.specs.columnar_memory.declared.PrimitiveType.TheVariants as kinds
use Rattle.ipc_format_column_writing.specs.nested_arrays.StoredColumns.{type_layer}
use Rattle.ipc_format_column_writing.specs.flatbuffers.Reading.{◌>>=◌, guard}
use Rattle.ipc_format_column_writing.specs.grammar.Columns.{Dictionary, buffer_at, byte_slots, fixed_slots}
use Rattle.ipc_format_column_writing.specs.grammar.Columns.{marked_in, offsets_in, slots_in, validity_in}
use Rattle.ipc_format_column_writing.specs.grammar.Layouts.{buffer_count, node_count}
use Rattle.ipc_format_column_writing.specs.grammar.Messages.{Version}
use Rattle.ipc_format_column_writing.specs.grammar.Schemas.{Ids, ids, no_ids}
use Rattle.ipc_format_column_writing.specs.messages.declared.values.Buffer.{Buffer}
use Rattle.ipc_format_column_writing.specs.messages.declared.values.FieldNode.{FieldNode}
use Rattle.ipc_format_column_writing.specs.column_reading.Reads.{front, front_slots}
use Rattle.ipc_format_column_writing.specs.nested_arrays.Childless.{is_childless}
use Rattle.ipc_format_array_reading.specs.ArrayReads.{Test, array_slots, is_readable}
use Rattle.ipc_format_array_reading.specs.Parts.{has_children}
use Rattle.ipc_format_array_reading.specs.TypedReads.{front_array}
use Rattle.ipc_format_array_reading.proofs.Layers.{layer_buffers, layer_nodes, layer_plain, layer_reads}
use Rattle.ipc_format_array_reading.proofs.Layers.{layer_tests, read_layer, test_layer, type_buffers}
use Rattle.ipc_format_array_reading.proofs.Layers.{type_nodes}
use Rattle.ipc_format_column_writing.proofs.columns_lemmas.TypeLayers.{Layer, is_extension, layer_layout, layout_is}
use Rattle.ipc_format_array_reading.specs.Flats.{has_all}
use Rattle.ipc_format_array_reading.specs.ReadArrays.{at_front}

-- ---- one layer

abbrev pub is_keyed : PhysicalType → Bool
is_keyed (physical.Dictionary key) = true
is_keyed _ = false

same_read : (x : Layer) (nodes : List FieldNode) (buffers : List Buffer) (version : Version) (little : Bool) (standing : List Dictionary)
    (limit : Option ℕ) (origin : ℕ) (here : Ids) (room : List ℕ) → is_extension x ≡ false → has_children x ≡ false
    → is_keyed (layer_layout x) ≡ false
    → read_layer x (at_front nodes buffers version little standing limit origin here room)
    ≡ read_layer x (front nodes buffers little limit origin room)
unfolding fixed_slots byte_slots marked_in validity_in buffer_at offsets_in
same_read (layer.List item) nodes buffers version little standing limit origin here room plain bare apart = absurd (true≢false bare)
same_read (layer.LargeList item) nodes buffers version little standing limit origin here room plain bare apart = absurd (true≢false bare)
same_read (layer.FixedSizeList item size) nodes buffers version little standing limit origin here room plain bare apart = absurd (true≢false bare)
same_read (layer.Map entry is_sorted) nodes buffers version little standing limit origin here room plain bare apart = absurd (true≢false bare)
same_read (layer.Struct fields) nodes buffers version little standing limit origin here room plain bare apart = absurd (true≢false bare)
same_read (layer.Union fields numbers mode) nodes buffers version little standing limit origin here room plain bare apart =
    absurd (true≢false bare)
same_read (layer.Extension name inner metadata) nodes buffers version little standing limit origin here room plain bare apart =
    absurd (true≢false plain)
same_read (layer.Dictionary key value is_ordered) nodes buffers version little standing limit origin here room plain bare apart =
    absurd (true≢false apart)
same_read (layer.Interval intervals.YearMonth) nodes buffers version little standing limit origin here room plain bare apart = refl
same_read (layer.Interval intervals.DayTime) nodes buffers version little standing limit origin here room plain bare apart = refl
same_read (layer.Interval intervals.MonthDayNano) nodes buffers version little standing limit origin here room plain bare apart = refl
same_read x nodes buffers version little standing limit origin here room plain bare apart = refl

same_test : (x : Layer) (here there : Ids) → is_extension x ≡ false → has_children x ≡ false → test_layer x here ≡ test_layer x there
same_test (layer.List item) here there plain bare = absurd (true≢false bare)
same_test (layer.LargeList item) here there plain bare = absurd (true≢false bare)
same_test (layer.FixedSizeList item size) here there plain bare = absurd (true≢false bare)
same_test (layer.Map entry is_sorted) here there plain bare = absurd (true≢false bare)
same_test (layer.Struct fields) here there plain bare = absurd (true≢false bare)
same_test (layer.Union fields numbers mode) here there plain bare = absurd (true≢false bare)
same_test (layer.Extension name inner metadata) here there plain bare = absurd (true≢false plain)
same_test x here there plain bare = refl

-- layouts of floats, of which there are no arrays
abbrev pub is_float : PhysicalType → Bool
is_float (physical.Primitive kinds.Float16) = true
is_float (physical.Primitive kinds.Float32) = true
is_float (physical.Primitive kinds.Float64) = true
is_float _ = false

all_pass : (x : Layer) (here : Ids) → is_extension x ≡ false → has_all (layer_layout x) ≡ true → test_layer x here ≡ true
all_pass (layer.List item) here plain all = absurd (false≢true all)
all_pass (layer.LargeList item) here plain all = absurd (false≢true all)
all_pass (layer.FixedSizeList item size) here plain all = absurd (false≢true all)
all_pass (layer.Map entry is_sorted) here plain all = absurd (false≢true all)
all_pass (layer.Struct fields) here plain all = absurd (false≢true all)
all_pass (layer.Union fields numbers mode) here plain all = absurd (false≢true all)
all_pass (layer.FixedSizeBinary size) here plain all = absurd (false≢true all)
all_pass (layer.Extension name inner metadata) here plain all = absurd (true≢false plain)
all_pass layer.Float16 here plain all = absurd (false≢true all)
all_pass layer.Float32 here plain all = absurd (false≢true all)
all_pass layer.Float64 here plain all = absurd (false≢true all)
all_pass x here plain all = refl

none_pass : (x : Layer) (here : Ids) → is_extension x ≡ false → is_float (layer_layout x) ≡ true → test_layer x here ≡ false
none_pass layer.Float16 here plain float = refl
none_pass layer.Float32 here plain float = refl
none_pass layer.Float64 here plain float = refl
none_pass (layer.Interval intervals.YearMonth) here plain float = absurd (false≢true float)
none_pass (layer.Interval intervals.DayTime) here plain float = absurd (false≢true float)
none_pass (layer.Interval intervals.MonthDayNano) here plain float = absurd (false≢true float)
none_pass (layer.Extension name inner metadata) here plain float = absurd (true≢false plain)
none_pass x here plain float = absurd (false≢true float)

-- how many buffers a column has without children, by how its array lies in memory
abbrev pub buffers_of : PhysicalType → ℕ
buffers_of physical.Null = 0
buffers_of physical.Binary = 3
buffers_of physical.LargeBinary = 3
buffers_of physical.Utf8 = 3
buffers_of physical.LargeUtf8 = 3
buffers_of _ = 2

one_node : (x : Layer) → is_extension x ≡ false → has_children x ≡ false → layer_nodes x ≡ 1
one_node (layer.List item) plain bare = absurd (true≢false bare)
one_node (layer.LargeList item) plain bare = absurd (true≢false bare)
one_node (layer.FixedSizeList item size) plain bare = absurd (true≢false bare)
one_node (layer.Map entry is_sorted) plain bare = absurd (true≢false bare)
one_node (layer.Struct fields) plain bare = absurd (true≢false bare)
one_node (layer.Union fields numbers mode) plain bare = absurd (true≢false bare)
one_node (layer.Extension name inner metadata) plain bare = absurd (true≢false plain)
one_node x plain bare = refl

few_buffers : (version : Version) (x : Layer) → is_extension x ≡ false → has_children x ≡ false
    → layer_buffers version x ≡ buffers_of (layer_layout x)
few_buffers version (layer.List item) plain bare = absurd (true≢false bare)
few_buffers version (layer.LargeList item) plain bare = absurd (true≢false bare)
few_buffers version (layer.FixedSizeList item size) plain bare = absurd (true≢false bare)
few_buffers version (layer.Map entry is_sorted) plain bare = absurd (true≢false bare)
few_buffers version (layer.Struct fields) plain bare = absurd (true≢false bare)
few_buffers version (layer.Union fields numbers mode) plain bare = absurd (true≢false bare)
few_buffers version (layer.Extension name inner metadata) plain bare = absurd (true≢false plain)
few_buffers version (layer.Interval intervals.YearMonth) plain bare = refl
few_buffers version (layer.Interval intervals.DayTime) plain bare = refl
few_buffers version (layer.Interval intervals.MonthDayNano) plain bare = refl
few_buffers version x plain bare = refl

flat_layer : (x : Layer) → is_extension x ≡ false → has_children x ≡ false → is_keyed (layer_layout x) ≡ false
    → is_childless (layer_layout x) ≡ true
flat_layer (layer.List item) plain bare apart = absurd (true≢false bare)
flat_layer (layer.LargeList item) plain bare apart = absurd (true≢false bare)
flat_layer (layer.FixedSizeList item size) plain bare apart = absurd (true≢false bare)
flat_layer (layer.Map entry is_sorted) plain bare apart = absurd (true≢false bare)
flat_layer (layer.Struct fields) plain bare apart = absurd (true≢false bare)
flat_layer (layer.Union fields numbers mode) plain bare apart = absurd (true≢false bare)
flat_layer (layer.Extension name inner metadata) plain bare apart = absurd (true≢false plain)
flat_layer (layer.Dictionary key value is_ordered) plain bare apart = absurd (true≢false apart)
flat_layer (layer.Interval intervals.YearMonth) plain bare apart = refl
flat_layer (layer.Interval intervals.DayTime) plain bare apart = refl
flat_layer (layer.Interval intervals.MonthDayNano) plain bare apart = refl
flat_layer x plain bare apart = refl

bare_layer : (x : Layer) → is_extension x ≡ false → is_childless (layer_layout x) ≡ true → has_children x ≡ false
bare_layer (layer.List item) plain flat = absurd (false≢true flat)
bare_layer (layer.LargeList item) plain flat = absurd (false≢true flat)
bare_layer (layer.FixedSizeList item size) plain flat = absurd (false≢true flat)
bare_layer (layer.Map entry is_sorted) plain flat = absurd (false≢true flat)
bare_layer (layer.Struct fields) plain flat = absurd (false≢true flat)
bare_layer (layer.Union fields numbers mode) plain flat = absurd (false≢true flat)
bare_layer x plain flat = refl

keyed_layer_bare : (x : Layer) → is_extension x ≡ false → is_keyed (layer_layout x) ≡ true → has_children x ≡ false
keyed_layer_bare (layer.List item) plain keyed = absurd (false≢true keyed)
keyed_layer_bare (layer.LargeList item) plain keyed = absurd (false≢true keyed)
keyed_layer_bare (layer.FixedSizeList item size) plain keyed = absurd (false≢true keyed)
keyed_layer_bare (layer.Map entry is_sorted) plain keyed = absurd (false≢true keyed)
keyed_layer_bare (layer.Struct fields) plain keyed = absurd (false≢true keyed)
keyed_layer_bare (layer.Union fields numbers mode) plain keyed = absurd (false≢true keyed)
keyed_layer_bare x plain keyed = refl

-- ---- types

in_layer : (F : PhysicalType → Bool) (t : DataType) (b : Bool) → F (physical_type t) ≡ b → F (layer_layout (type_layer t)) ≡ b
in_layer F t b is = ap F (sym (layout_is t)) ∙ is

pub flat_bare : (t : DataType) → is_childless (physical_type t) ≡ true → has_children (type_layer t) ≡ false
flat_bare t flat = bare_layer (type_layer t) (layer_plain t) (in_layer is_childless t true flat)

pub keyed_bare : (t : DataType) (key : IntegerType) → physical_type t ≡ physical.Dictionary key → has_children (type_layer t) ≡ false
keyed_bare t key is = keyed_layer_bare (type_layer t) (layer_plain t) (in_layer is_keyed t true (ap is_keyed is))

pub bare_flat : (t : DataType) → has_children (type_layer t) ≡ false → is_keyed (physical_type t) ≡ false → is_childless (physical_type t) ≡ true
bare_flat t bare apart =
    ap is_childless (layout_is t) ∙ flat_layer (type_layer t) (layer_plain t) bare (in_layer is_keyed t false apart)

-- a column's node and its buffers
pub nodes_are : (t : DataType) → has_children (type_layer t) ≡ false → node_count t ≡ 1
nodes_are t bare = type_nodes t ∙ one_node (type_layer t) (layer_plain t) bare

pub buffers_are : (version : Version) (t : DataType) → has_children (type_layer t) ≡ false
    → buffer_count version t ≡ buffers_of (physical_type t)
buffers_are version t bare =
    type_buffers version t ∙ few_buffers version (type_layer t) (layer_plain t) bare ∙ ap buffers_of (sym (layout_is t))

-- the same array, whatever the version, the dictionaries and the ids
pub flat_same : (t : DataType) (nodes : List FieldNode) (buffers : List Buffer) (version : Version) (little : Bool) (standing : List Dictionary)
    (limit : Option ℕ) (origin : ℕ) (here : Ids) → is_childless (physical_type t) ≡ true → is_keyed (physical_type t) ≡ false → (room : List ℕ)
    → array_slots t (at_front nodes buffers version little standing limit origin here room) ≡ front_array t nodes buffers little limit origin room
flat_same t nodes buffers version little standing limit origin here flat apart room =
    let bare = flat_bare t flat in
    let test : is_readable t here ≡ is_readable t (ids None no_ids) =
    ap (λ (f : Test). f here) (layer_tests t) ∙ same_test (type_layer t) here (ids None no_ids) (layer_plain t) bare
    ∙ sym (ap (λ (f : Test). f (ids None no_ids)) (layer_tests t)) in
    let read : slots_in t (at_front nodes buffers version little standing limit origin here room)
    ≡ slots_in t (front nodes buffers little limit origin room) =
    ap (λ r. r (at_front nodes buffers version little standing limit origin here room)) (layer_reads t)
    ∙ same_read (type_layer t) nodes buffers version little standing limit origin here room (layer_plain t) bare (in_layer is_keyed t false apart)
    ∙ sym (ap (λ r. r (front nodes buffers little limit origin room)) (layer_reads t)) in
    λ j. guard (test j) >>= (λ _. read j)

-- all types of a layout have arrays
pub all_read : (t : DataType) (nodes : List FieldNode) (buffers : List Buffer) (little : Bool) (limit : Option ℕ) (origin : ℕ)
    → has_all (physical_type t) ≡ true → (room : List ℕ)
    → front_array t nodes buffers little limit origin room ≡ front_slots t nodes buffers little limit origin room
all_read t nodes buffers little limit origin all room =
    let test : is_readable t (ids None no_ids) ≡ true =
    ap (λ (f : Test). f (ids None no_ids)) (layer_tests t)
    ∙ all_pass (type_layer t) (ids None no_ids) (layer_plain t) (in_layer has_all t true all) in
    ap (λ b. guard b >>= (λ _. front_slots t nodes buffers little limit origin room)) test

-- floats have none
pub none_read : (t : DataType) (nodes : List FieldNode) (buffers : List Buffer) (little : Bool) (limit : Option ℕ) (origin : ℕ)
    → is_float (physical_type t) ≡ true → (room : List ℕ) → front_array t nodes buffers little limit origin room ≡ None
none_read t nodes buffers little limit origin float room =
    let test : is_readable t (ids None no_ids) ≡ false =
    ap (λ (f : Test). f (ids None no_ids)) (layer_tests t)
    ∙ none_pass (type_layer t) (ids None no_ids) (layer_plain t) (in_layer is_float t true float) in
    ap (λ b. guard b >>= (λ _. front_slots t nodes buffers little limit origin room)) test

-- ---- layouts

not_keyed : (p : PhysicalType) → ((key : IntegerType) → ¬ (p ≡ physical.Dictionary key)) → is_keyed p ≡ false
not_keyed (physical.Dictionary key) never = absurd (never key refl)
not_keyed p never = refl

pub apart_from_keys : (t : DataType) → ((key : IntegerType) → ¬ (physical_type t ≡ physical.Dictionary key)) → is_keyed (physical_type t) ≡ false
apart_from_keys t never = not_keyed (physical_type t) never

-- there are no other layouts without columns below them
pub no_other : (p : PhysicalType) → is_childless p ≡ true → ((kind : PrimitiveType) → ¬ (p ≡ physical.Primitive kind)) → ¬ (p ≡ physical.Null)
    → ¬ (p ≡ physical.Boolean) → ¬ (p ≡ physical.Binary) → ¬ (p ≡ physical.LargeBinary) → ¬ (p ≡ physical.FixedSizeBinary)
    → ¬ (p ≡ physical.Utf8) → ¬ (p ≡ physical.LargeUtf8) → ⊥
no_other physical.Null flat a b c d e f g h = b refl
no_other physical.Boolean flat a b c d e f g h = c refl
no_other (physical.Primitive kind) flat a b c d e f g h = a kind refl
no_other physical.Binary flat a b c d e f g h = d refl
no_other physical.LargeBinary flat a b c d e f g h = e refl
no_other physical.FixedSizeBinary flat a b c d e f g h = f refl
no_other physical.Utf8 flat a b c d e f g h = g refl
no_other physical.LargeUtf8 flat a b c d e f g h = h refl
no_other p flat a b c d e f g h = false≢true flat
