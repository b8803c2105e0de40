-- What calls answer that make an array of parts which are tested.
use Rattle.std.proofs.Common.{◌≡◌, ◌∙◌, ◌*◌, ◌==◌, ◌&&◌, ◌⊎◌, ℕ, Bool, true, false, List, [], ◌∷◌, length, refl, sym, ap, subst, inl, inr, arith}
use Rattle.std.specs.Prelude.{Option, Some, None, Result, Ok, Err, if◌then◌else◌}
use Rattle.std.specs.List.{list_all}
use Rattle.std.proofs.lemmas.Bool.{and_parts, eq-eqb, eqb-true, true≢false}
use Rattle.ipc_format_column_writing.specs.column_reading.columnar_memory.Error.{IsOutOfMemory, IsOutOfSpec}
use Rattle.ipc_format_column_writing.specs.column_reading.columnar_memory.Layouts.{physical_type}
use Rattle.ipc_format_column_writing.specs.column_reading.columnar_memory.Spans as memory
use Rattle.ipc_format_column_writing.specs.column_reading.columnar_memory.Spans.{Spans, offsets_of}
use Rattle.ipc_format_column_writing.specs.column_reading.columnar_memory.declared.DataType.{DataType}
use Rattle.ipc_format_column_writing.specs.column_reading.columnar_memory.declared.PhysicalType.TheVariants as physical
use Rattle.ipc_format_column_writing.specs.column_reading.grammar.Columns.{last_of}
use Rattle.ipc_format_column_writing.proofs.reading_lemmas.ColumnReads.{last_is}
use Rattle.ipc_format_column_writing.specs.nested_arrays.ListTypes.{list_layout}
use Rattle.ipc_format_column_writing.specs.column_reading.columnar_memory.declared.DataType.TheOpen as layer
use Rattle.ipc_format_column_writing.specs.column_reading.columnar_memory.declared.Error.{Error}
use Rattle.ipc_format_column_writing.specs.column_reading.columnar_memory.declared.PhysicalType.{PhysicalType}
use Rattle.ipc_format_column_writing.specs.column_reading.columns.SoundColumns.{are_sound, has_field_types, have_len, is_sound, mask_fits}
use Rattle.ipc_format_column_writing.specs.column_reading.columns.StoredColumns.{Column, column_len, fixed_lists, in_columns, lists, records, type_layer}
use Rattle.ipc_format_column_writing.specs.column_reading.flatbuffers.Reading.{◌>>=◌}
use Rattle.ipc_format_column_writing.proofs.reading_lemmas.columns_lemmas.TypeLayers.{Layer, layer_layout, layout_is}
use Rattle.ipc_format_column_writing.specs.nested_arrays.Answers.{IsChecked, IsCheckedAs}
use Rattle.ipc_format_column_writing.specs.nested_arrays.FlatLayouts.{layout_in}
use Rattle.ipc_format_column_writing.specs.nested_arrays.Lengths.{layer_size, size_of, struct_len}
use Rattle.ipc_format_array_reading.specs.Parts.{Makes, beginning_of, checked, has_children, if_long, made_column, marked_column, marks, single}
use Rattle.ipc_format_array_reading.specs.Parts.{sound_column, spans}
use Rattle.ipc_format_array_reading.specs.declared.begun.Beginning.{Beginning}
use Rattle.ipc_format_array_reading.specs.declared.begun.Beginning.TheVariants as beginnings

not_true : (b : Bool) → ¬ (b ≡ true) → b ≡ false
not_true true never = absurd (never refl)
not_true false never = refl

pub full_makes : (made : Option Column) (error : Error) → IsOutOfMemory error → Makes made (Err error)
full_makes made error full = inl full

pub short_gone : (test : Bool) (c : Column) → test ≡ false → checked test c ≡ None
short_gone test c short = ap (λ b. if_long b c >>= (λ c. if is_sound c then Some c else None)) short

long_is : (test : Bool) (c : Column) → test ≡ true → checked test c ≡ (if is_sound c then Some c else None)
long_is test c long = ap (λ b. if_long b c >>= (λ c. if is_sound c then Some c else None)) long

pub checked_plain : (test : Bool) (c : Column) (r : Result Column Error) → test ≡ true → IsChecked c r → Makes (checked test c) r
checked_plain test c (Ok array) long made =
    long_is test c long ∙ ap (λ b. if b then Some c else None) made.1 ∙ ap Some (sym made.0)
checked_plain test c (Err error) long made =
    inr (made.0, long_is test c long ∙ ap (λ b. if b then Some c else None) (not_true (is_sound c) made.1))

pub checked_as : (layout : PhysicalType) (test : Bool) (c : Column) (r : Result Column Error) → test ≡ true → layout_in c ≡ layout
    → IsCheckedAs layout c r → Makes (checked test c) r
checked_as layout test c (Ok array) long lies made =
    long_is test c long ∙ ap (λ b. if b then Some c else None) made.1.0 ∙ ap Some (sym made.0)
checked_as layout test c (Err error) long lies made =
    inr (made.0, long_is test c long ∙ ap (λ b. if b then Some c else None) (not_true (is_sound c) (λ sound. made.1 (sound, lies))))

-- ---- lists

pub lists_gone : (s : Spans) (items whole : Column) → ¬ (column_len items ≡ memory.last_of s)
    → checked (column_len items == last_of (offsets_of s)) whole ≡ None
lists_gone s items whole short =
    short_gone (column_len items == last_of (offsets_of s)) whole
    (not_true (column_len items == last_of (offsets_of s)) (λ long.
    short (eqb-true (column_len items) (last_of (offsets_of s)) long ∙ last_is s)))

pub lists_make : (is_large : Bool) (t : DataType) (mask : Option (List Bool)) (s : Spans) (items : Column) (r : Result Column Error)
    → physical_type t ≡ list_layout is_large → column_len items ≡ memory.last_of s
    → IsCheckedAs (list_layout is_large) (lists t mask (offsets_of s) items) r
    → Makes (checked (column_len items == last_of (offsets_of s)) (lists t mask (offsets_of s) items)) r
lists_make is_large t mask s items r kind long made =
    checked_as (list_layout is_large) (column_len items == last_of (offsets_of s)) (lists t mask (offsets_of s) items) r
    (eq-eqb (column_len items) (last_of (offsets_of s)) (long ∙ sym (last_is s))) kind made

pub maps_make : (t : DataType) (mask : Option (List Bool)) (s : Spans) (items : Column) (r : Result Column Error)
    → physical_type t ≡ physical.Map → column_len items ≡ memory.last_of s
    → IsCheckedAs physical.Map (lists t mask (offsets_of s) items) r
    → Makes (checked (column_len items == last_of (offsets_of s)) (lists t mask (offsets_of s) items)) r
maps_make t mask s items r kind long made =
    checked_as physical.Map (column_len items == last_of (offsets_of s)) (lists t mask (offsets_of s) items) r
    (eq-eqb (column_len items) (last_of (offsets_of s)) (long ∙ sym (last_is s))) kind made

-- ---- structs

no_children : (x : Layer) → has_field_types x (in_columns []) ≡ false
no_children (layer.Struct []) = refl
no_children (layer.Struct (field ∷ fields)) = refl
no_children _ = refl

never_sound : (t : DataType) (mask : Option (List Bool)) (n : ℕ) → is_sound (records t mask n (in_columns [])) ≡ false
never_sound t mask n =
    ap (λ b. b && have_len (in_columns []) n && mask_fits mask n && are_sound (in_columns [])) (no_children (type_layer t))

pub structs_make : (t : DataType) (mask : Option (List Bool)) (n : ℕ) (cs : List Column) (r : Result Column Error)
    → list_all (λ c. column_len c == n) cs ≡ true → IsChecked (records t mask (struct_len cs) (in_columns cs)) r
    → Makes (checked (list_all (λ c. column_len c == n) cs) (records t mask n (in_columns cs))) r
structs_make t mask n [] (Ok array) long made = absurd (true≢false (sym made.1 ∙ never_sound t mask 0))
structs_make t mask n [] (Err error) long made =
    inr (made.0, ap (λ b. if b then Some (records t mask n (in_columns [])) else None) (never_sound t mask n))
structs_make t mask n (c ∷ cs) r long made =
    let same : column_len c ≡ n =
    eqb-true (column_len c) n (and_parts (column_len c == n) (list_all (λ c. column_len c == n) cs) long).0 in
    checked_plain (list_all (λ c. column_len c == n) (c ∷ cs)) (records t mask n (in_columns (c ∷ cs))) r long
    (subst (λ (k : ℕ). IsChecked (records t mask k (in_columns (c ∷ cs))) r) same made)

-- ---- lists made of their one child

pub spans_gone : (t : DataType) (n : ℕ) (mask : Option (List Bool)) (offsets : List ℕ) (cs : List Column) → single cs ≡ None
    → made_column t None (spans n mask offsets) cs ≡ None
spans_gone t n mask offsets cs none =
    ap (λ (only : Option Column). (only >>= (λ items. if_long (column_len items == last_of offsets) (lists t mask offsets items)))
    >>= sound_column None (spans n mask offsets)) none

pub spans_joined : (t : DataType) (n : ℕ) (mask : Option (List Bool)) (offsets : List ℕ) (cs : List Column) (items : Column)
    (r : Result Column Error) → single cs ≡ Some items
    → Makes (checked (column_len items == last_of offsets) (lists t mask offsets items)) r → Makes (made_column t None (spans n mask offsets) cs) r
spans_joined t n mask offsets cs items r is made =
    subst (λ (only : Option Column). Makes ((only >>= (λ items. if_long (column_len items == last_of offsets) (lists t mask offsets items)))
    >>= sound_column None (spans n mask offsets)) r) (sym is) made

unlike : false ≡ true → ⊥
unlike e = true≢false (sym e)

abbrev is_small : Beginning → Bool
is_small beginnings.Small = true
is_small _ = false

abbrev is_large : Beginning → Bool
is_large beginnings.Large = true
is_large _ = false

abbrev is_marks : Beginning → Bool
is_marks beginnings.Marks = true
is_marks _ = false

layer_small : (x : Layer) → beginning_of x ≡ beginnings.Small → ¬ (layer_layout x ≡ physical.Map) → layer_layout x ≡ physical.List
layer_small (layer.List item) begins other = refl
layer_small (layer.Map entry is_sorted) begins other = absurd (other refl)
layer_small (layer.LargeList item) begins other = absurd (unlike (ap is_small begins))
layer_small (layer.Union fields numbers mode) begins other = absurd (unlike (ap is_small begins))
layer_small x begins other = absurd (unlike (ap is_small begins))

pub small_list : (t : DataType) → beginning_of (type_layer t) ≡ beginnings.Small → ¬ (physical_type t ≡ physical.Map)
    → physical_type t ≡ physical.List
small_list t begins other = layout_is t ∙ layer_small (type_layer t) begins (λ is. other (layout_is t ∙ is))

layer_large : (x : Layer) → beginning_of x ≡ beginnings.Large → layer_layout x ≡ physical.LargeList
layer_large (layer.LargeList item) begins = refl
layer_large (layer.List item) begins = absurd (unlike (ap is_large begins))
layer_large (layer.Map entry is_sorted) begins = absurd (unlike (ap is_large begins))
layer_large (layer.Union fields numbers mode) begins = absurd (unlike (ap is_large begins))
layer_large x begins = absurd (unlike (ap is_large begins))

pub large_list : (t : DataType) → beginning_of (type_layer t) ≡ beginnings.Large → physical_type t ≡ physical.LargeList
large_list t begins = layout_is t ∙ layer_large (type_layer t) begins

-- ---- lists of one size, and structs

abbrev is_fixed : PhysicalType → Bool
is_fixed physical.FixedSizeList = true
is_fixed _ = false

fixed_none : (x : Layer) (t : DataType) (n : ℕ) (mask : Option (List Bool)) (cs : List Column) → has_children x ≡ true
    → layer_layout x ≡ physical.FixedSizeList → single cs ≡ None → marked_column x t n mask cs ≡ None
fixed_none (layer.FixedSizeList item size) t n mask cs nested kind none =
    ap (λ (only : Option Column). only >>= (λ items. if_long (column_len items == n * size) (fixed_lists t mask size items))) none
fixed_none (layer.List item) t n mask cs nested kind none = absurd (unlike (ap is_fixed kind))
fixed_none (layer.LargeList item) t n mask cs nested kind none = absurd (unlike (ap is_fixed kind))
fixed_none (layer.Map entry is_sorted) t n mask cs nested kind none = absurd (unlike (ap is_fixed kind))
fixed_none (layer.Struct fields) t n mask cs nested kind none = absurd (unlike (ap is_fixed kind))
fixed_none (layer.Union fields numbers mode) t n mask cs nested kind none = absurd (unlike (ap is_fixed kind))
fixed_none x t n mask cs nested kind none = absurd (unlike nested)

pub fixed_gone : (t : DataType) (n : ℕ) (mask : Option (List Bool)) (cs : List Column) → has_children (type_layer t) ≡ true
    → physical_type t ≡ physical.FixedSizeList → single cs ≡ None → made_column t None (marks n mask) cs ≡ None
fixed_gone t n mask cs nested kind none =
    ap (λ (joined : Option Column). joined >>= sound_column None (marks n mask))
    (fixed_none (type_layer t) t n mask cs nested (sym (layout_is t) ∙ kind) none)

fixed_layer : (x : Layer) (t : DataType) (n : ℕ) (mask : Option (List Bool)) (cs : List Column) (items : Column) (r : Result Column Error)
    → has_children x ≡ true → layer_layout x ≡ physical.FixedSizeList → single cs ≡ Some items
    → Makes (checked (column_len items == n * layer_size x) (fixed_lists t mask (layer_size x) items)) r
    → Makes (marked_column x t n mask cs >>= sound_column None (marks n mask)) r
fixed_layer (layer.FixedSizeList item size) t n mask cs items r nested kind is made =
    subst (λ (only : Option Column). Makes ((only >>= (λ items. if_long (column_len items == n * size) (fixed_lists t mask size items)))
    >>= sound_column None (marks n mask)) r) (sym is) made
fixed_layer (layer.List item) t n mask cs items r nested kind is made = absurd (unlike (ap is_fixed kind))
fixed_layer (layer.LargeList item) t n mask cs items r nested kind is made = absurd (unlike (ap is_fixed kind))
fixed_layer (layer.Map entry is_sorted) t n mask cs items r nested kind is made = absurd (unlike (ap is_fixed kind))
fixed_layer (layer.Struct fields) t n mask cs items r nested kind is made = absurd (unlike (ap is_fixed kind))
fixed_layer (layer.Union fields numbers mode) t n mask cs items r nested kind is made = absurd (unlike (ap is_fixed kind))
fixed_layer x t n mask cs items r nested kind is made = absurd (unlike nested)

pub fixed_joined : (t : DataType) (n : ℕ) (mask : Option (List Bool)) (cs : List Column) (items : Column) (r : Result Column Error)
    → has_children (type_layer t) ≡ true → physical_type t ≡ physical.FixedSizeList → single cs ≡ Some items
    → Makes (checked (column_len items == n * size_of t) (fixed_lists t mask (size_of t) items)) r → Makes (made_column t None (marks n mask) cs) r
fixed_joined t n mask cs items r nested kind is made =
    fixed_layer (type_layer t) t n mask cs items r nested (sym (layout_is t) ∙ kind) is made

struct_layer : (x : Layer) (t : DataType) (n : ℕ) (mask : Option (List Bool)) (cs : List Column) (r : Result Column Error)
    → has_children x ≡ true → beginning_of x ≡ beginnings.Marks → ¬ (layer_layout x ≡ physical.FixedSizeList)
    → Makes (checked (list_all (λ column. column_len column == n) cs) (records t mask n (in_columns cs))) r
    → Makes (marked_column x t n mask cs >>= sound_column None (marks n mask)) r
struct_layer (layer.Struct fields) t n mask cs r nested begins other made = made
struct_layer (layer.FixedSizeList item size) t n mask cs r nested begins other made = absurd (other refl)
struct_layer (layer.List item) t n mask cs r nested begins other made = absurd (unlike (ap is_marks begins))
struct_layer (layer.LargeList item) t n mask cs r nested begins other made = absurd (unlike (ap is_marks begins))
struct_layer (layer.Map entry is_sorted) t n mask cs r nested begins other made = absurd (unlike (ap is_marks begins))
struct_layer (layer.Union fields numbers mode) t n mask cs r nested begins other made = absurd (unlike (ap is_marks begins))
struct_layer x t n mask cs r nested begins other made = absurd (unlike nested)

pub struct_joined : (t : DataType) (n : ℕ) (mask : Option (List Bool)) (cs : List Column) (r : Result Column Error)
    → has_children (type_layer t) ≡ true → beginning_of (type_layer t) ≡ beginnings.Marks → ¬ (physical_type t ≡ physical.FixedSizeList)
    → Makes (checked (list_all (λ column. column_len column == n) cs) (records t mask n (in_columns cs))) r
    → Makes (made_column t None (marks n mask) cs) r
struct_joined t n mask cs r nested begins other made =
    struct_layer (type_layer t) t n mask cs r nested begins (λ is. other (layout_is t ∙ is)) made
