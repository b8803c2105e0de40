-- What is written of a range of a sound column has as many nodes and buffers as its type's layout says (Arrow columnar format, "Buffer
-- Listing for Each Layout").
use Rattle.std.proofs.Common.{◌≡◌, ◌∙◌, ℕ, suc, ◌+◌, ◌*◌, ◌-◌, ◌/◌, min, Bool, true, false, List, [], ◌∷◌, length, map, refl, sym, ap, ap₂, subst}
use Rattle.std.proofs.Common.{arith, length-append, ◌==◌}
use Rattle.std.specs.Prelude.{ℤ, Option, Some, None, slice_index}
use Rattle.std.specs.List.{flat_map, list_all}
use Rattle.std.specs.Int.{Width, w8, w32}
use Rattle.std.proofs.lemmas.Bool.{and_parts, false≢true}
use Rattle.std.proofs.lemmas.List.Sums.{sum_by-cons}
use Rattle.ipc_format_laws.specs.columnar_memory.declared.DataType.{DataType}
use Rattle.ipc_format_laws.specs.columnar_memory.declared.DataType.TheOpen as layer
use Rattle.ipc_format_laws.specs.columnar_memory.declared.DataType.TheViews.{out-DataType}
use Rattle.ipc_format_laws.specs.columnar_memory.declared.Field.{Field}
use Rattle.ipc_format_laws.specs.columnar_memory.declared.IntervalUnit.TheVariants as intervals
use Rattle.ipc_format_laws.specs.columnar_memory.declared.PhysicalType.{PhysicalType}
use Rattle.ipc_format_laws.specs.columnar_memory.declared.PhysicalType.TheVariants as physical
use Rattle.ipc_format_laws.specs.columnar_memory.declared.UnionMode.TheVariants as modes
use Rattle.ipc_format_laws.specs.columnar_memory.Equality.{same_type}
use Rattle.ipc_format_laws.specs.columnar_memory.Layouts.{physical_type}
use Rattle.ipc_format_laws.specs.columns.Kinds.{is_signed, most_offset}
use Rattle.ipc_format_laws.specs.columns.StoredColumns.{Stored, bits, numbers, pairs, triples, texts, byte_strings, fixed_bytes, Column, Columns}
use Rattle.ipc_format_laws.specs.columns.StoredColumns.{nulls, flat, lists, fixed_lists, records, unions, dictionary, no_column, column_then}
use Rattle.ipc_format_laws.specs.columns.StoredColumns.{column_type, column_len, type_layer, stored_len, cut_list, cut_mask, cut_stored}
use Rattle.ipc_format_laws.specs.columns.SoundColumns.{is_stored_as, has_size, mask_fits, is_null_type, has_item_type, has_fixed_item_type}
use Rattle.ipc_format_laws.specs.columns.SoundColumns.{has_value_type, have_types, has_field_types, has_an_id_each, has_child_types, are_offsets}
use Rattle.ipc_format_laws.specs.columns.SoundColumns.{are_pieces, have_len, has_value_at, has_child_at, has_places, holds_below, is_entry, is_sound}
use Rattle.ipc_format_laws.specs.columns.SoundColumns.{are_sound}
use Rattle.ipc_format_laws.proofs.columns_lemmas.Conditions.{parts_of_3, parts_of_4, parts_of_5}
use Rattle.ipc_format_laws.proofs.columns_lemmas.TypeLayers.{Layer, is_extension, layer_layout, layout_is}
use Rattle.ipc_format_laws.specs.grammar.Messages.{V5}
use Rattle.ipc_format_laws.specs.grammar.Layouts.{total, node_count, buffer_count}
use Rattle.ipc_format_laws.specs.grammar.Encoding.{Encoded, column_over}
use Rattle.ipc_format_laws.specs.grammar.StoredEncoding.{mask_bytes, node_over, last_offset, moved_bytes, offset_width, stored_buffers, integer_bytes}
use Rattle.ipc_format_laws.specs.grammar.StoredEncoding.{key_bytes, encode_range, encode_ranges, encode_wholes}
use Rattle.ipc_format_laws.specs.Counts.{HasCounts}
use Rattle.ipc_format_reading_laws.proofs.StoredLayers.{layer_nodes, layer_buffers, layer_plain, type_nodes, type_buffers}
use Rattle.ipc_format_reading_laws.proofs.StoredRanges.{type_is, encode_each, same_ranges, same_wholes}

-- ---- columns over columns

abbrev node_length : Encoded → ℕ
node_length column = length column.nodes

abbrev buffer_length : Encoded → ℕ
buffer_length column = length column.buffers

total_lengths : {A : Type 0} (f : Encoded → List A) (below : List Encoded) → length (flat_map f below)
    ≡ total (map (λ (c : Encoded). length (f c)) below)
total_lengths f [] = refl
total_lengths f (c ∷ cs) =
    length-append (f c) (flat_map f cs) ∙ ap (λ n. length (f c) + n) (total_lengths f cs)
    ∙ sym (sum_by-cons (λ (n : ℕ). n) (length (f c)) (map (λ (c : Encoded). length (f c)) cs))

one_and : (n : ℕ) → suc n ≡ 1 + n
one_and n = omega arith

over_counts : (node : ℕ × ℕ) (buffers : List (List ℕ)) (below : List Encoded) (ns ms : List ℕ) → map node_length below ≡ ns
    → map buffer_length below ≡ ms
    → HasCounts (column_over node buffers below) (1 + total ns) (length buffers + total ms)
over_counts node buffers below ns ms nodes_are buffers_are = (
  ap suc (total_lengths (λ (c : Encoded). c.nodes) below ∙ ap total nodes_are) ∙ one_and (total ns),
  length-append buffers (flat_map (λ (c : Encoded). c.buffers) below)
      ∙ ap (λ n. length buffers + n) (total_lengths (λ (c : Encoded). c.buffers) below ∙ ap total buffers_are),
)

-- as many as a type's columns have
abbrev CountsOf : DataType → Encoded → Type 0
CountsOf t column = HasCounts column (node_count t) (buffer_count V5 t)

-- over one column below
one_counts : (node : ℕ × ℕ) (buffers : List (List ℕ)) (below : Encoded) (child t : DataType) → t ≡ child → CountsOf child below
    → HasCounts (column_over node buffers (below ∷ [])) (1 + total (node_count t ∷ [])) (length buffers + total (buffer_count V5 t ∷ []))
one_counts node buffers below child t same h =
    let here : CountsOf t below = subst (λ (d : DataType). CountsOf d below) (sym same) h in
    over_counts node buffers (below ∷ []) (node_count t ∷ []) (buffer_count V5 t ∷ []) (ap (λ k. k ∷ []) here.0) (ap (λ k. k ∷ []) here.1)

-- what is counted by a type's layer is counted by the type
by_layer_counts : (t : DataType) (column : Encoded) → HasCounts column (layer_nodes (type_layer t)) (layer_buffers (type_layer t))
    → CountsOf t column
by_layer_counts t column h = (h.0 ∙ sym (type_nodes t), h.1 ∙ sym (type_buffers t))

-- ---- stored values

-- how many buffers a layout of values has, after the validity
abbrev value_buffers : PhysicalType → ℕ
value_buffers physical.Utf8 = 2
value_buffers physical.LargeUtf8 = 2
value_buffers physical.Binary = 2
value_buffers physical.LargeBinary = 2
value_buffers _ = 1

abbrev is_value_layout : PhysicalType → Bool
is_value_layout physical.Boolean = true
is_value_layout (physical.Primitive kind) = true
is_value_layout physical.Utf8 = true
is_value_layout physical.LargeUtf8 = true
is_value_layout physical.Binary = true
is_value_layout physical.LargeBinary = true
is_value_layout physical.FixedSizeBinary = true
is_value_layout _ = false

record ValuesAs (layout : PhysicalType) (stored : Stored) (o n : ℕ) : Type 0 where
  layout_is : is_value_layout layout ≡ true
  count : (w : Width) → length (stored_buffers true w (cut_stored stored o n)) ≡ value_buffers layout

values_as : (layout : PhysicalType) (stored : Stored) (o n : ℕ) → is_stored_as layout stored ≡ true → ValuesAs layout stored o n
values_as physical.Boolean (bits values) o n h = record { layout_is = refl; count = λ w. refl }
values_as (physical.Primitive kind) (numbers stored values) o n h = record { layout_is = refl; count = λ w. refl }
values_as (physical.Primitive kind) (pairs stored values) o n h = record { layout_is = refl; count = λ w. refl }
values_as (physical.Primitive kind) (triples stored values) o n h = record { layout_is = refl; count = λ w. refl }
values_as physical.Utf8 (texts offsets content) o n h = record { layout_is = refl; count = λ w. refl }
values_as physical.LargeUtf8 (texts offsets content) o n h = record { layout_is = refl; count = λ w. refl }
values_as physical.Binary (byte_strings offsets content) o n h = record { layout_is = refl; count = λ w. refl }
values_as physical.LargeBinary (byte_strings offsets content) o n h = record { layout_is = refl; count = λ w. refl }
values_as physical.FixedSizeBinary (fixed_bytes size content) o n h = record { layout_is = refl; count = λ w. refl }
values_as _ stored o n h = absurd (false≢true h)

-- a layer that lies as values has one node, and no column below
record LayerOfValues (x : Layer) : Type 0 where
  nodes : layer_nodes x ≡ 1
  buffers : layer_buffers x ≡ 1 + value_buffers (layer_layout x)

of_values : (x : Layer) → is_extension x ≡ false → is_value_layout (layer_layout x) ≡ true → LayerOfValues x
of_values layer.Null plain h = absurd (false≢true h)
of_values (layer.Interval intervals.YearMonth) plain h = record { nodes = refl; buffers = refl }
of_values (layer.Interval intervals.DayTime) plain h = record { nodes = refl; buffers = refl }
of_values (layer.Interval intervals.MonthDayNano) plain h = record { nodes = refl; buffers = refl }
of_values (layer.List item) plain h = absurd (false≢true h)
of_values (layer.LargeList item) plain h = absurd (false≢true h)
of_values (layer.FixedSizeList item size) plain h = absurd (false≢true h)
of_values (layer.Map entry is_sorted) plain h = absurd (false≢true h)
of_values (layer.Struct children) plain h = absurd (false≢true h)
of_values (layer.Union children ids mode) plain h = absurd (false≢true h)
of_values (layer.Dictionary key value is_ordered) plain h = absurd (false≢true h)
of_values (layer.Extension name inner metadata) plain h = absurd cc
of_values _ plain h = record { nodes = refl; buffers = refl }

flat_counts : (t : DataType) (mask : Option (List Bool)) (stored : Stored) (o n : ℕ) → is_sound (flat t mask stored) ≡ true
    → CountsOf t (encode_range true (flat t mask stored) o n)
flat_counts t mask stored o n sound =
    let parts = parts_of_3 (is_stored_as (physical_type t) stored) (has_size (type_layer t) stored) (mask_fits mask (stored_len stored)) sound in
    let values = values_as (physical_type t) stored o n parts.0 in
    let lies : is_value_layout (layer_layout (type_layer t)) ≡ true = ap is_value_layout (sym (layout_is t)) ∙ values.layout_is in
    let own = of_values (type_layer t) (layer_plain t) lies in
    let w : Width = offset_width (type_layer t) in
    let buffers : List (List ℕ) = mask_bytes (cut_mask mask o n) ∷ stored_buffers true w (cut_stored stored o n) in
    let counts = over_counts (node_over n (cut_mask mask o n)) buffers [] [] [] refl refl in
    let size : length buffers + total [] ≡ 1 + value_buffers (physical_type t) = omega (arith, values.count w) in
    by_layer_counts t (encode_range true (flat t mask stored) o n)
    (counts.0 ∙ sym own.nodes, counts.1 ∙ size ∙ ap (λ p. 1 + value_buffers p) (layout_is t) ∙ sym own.buffers)

-- ---- each layer

nulls_counts : (x : Layer) (n : ℕ) → is_null_type x ≡ true → HasCounts (column_over (n, n) [] []) (layer_nodes x) (layer_buffers x)
nulls_counts layer.Null n h = (refl, refl)
nulls_counts _ n h = absurd (false≢true h)

lists_counts : (x : Layer) (node : ℕ × ℕ) (marks offsets : List ℕ) (below : Encoded) (child : DataType) → has_item_type x child ≡ true
    → CountsOf child below → HasCounts (column_over node (marks ∷ offsets ∷ []) (below ∷ [])) (layer_nodes x) (layer_buffers x)
lists_counts (layer.List item) node marks offsets below child typed h =
    one_counts node (marks ∷ offsets ∷ []) below child item.data_type (type_is item.data_type child typed) h
lists_counts (layer.LargeList item) node marks offsets below child typed h =
    one_counts node (marks ∷ offsets ∷ []) below child item.data_type (type_is item.data_type child typed) h
lists_counts (layer.Map entry is_sorted) node marks offsets below child typed h =
    one_counts node (marks ∷ offsets ∷ []) below child entry.data_type
    (type_is entry.data_type child (and_parts (same_type entry.data_type child) (is_entry (out-DataType child)) typed).0) h
lists_counts _ node marks offsets below child typed h = absurd (false≢true typed)

fixed_counts : (x : Layer) (size : ℕ) (node : ℕ × ℕ) (marks : List ℕ) (below : Encoded) (child : DataType) → has_fixed_item_type x size child ≡ true
    → CountsOf child below → HasCounts (column_over node (marks ∷ []) (below ∷ [])) (layer_nodes x) (layer_buffers x)
fixed_counts (layer.FixedSizeList item stated) size node marks below child typed h =
    one_counts node (marks ∷ []) below child item.data_type
    (type_is item.data_type child (and_parts (stated == size) (same_type item.data_type child) typed).1) h
fixed_counts _ size node marks below child typed h = absurd (false≢true typed)

-- some columns have the counts of their fields' types, one each
record FieldCounts (us : List Field) (below : List Encoded) : Type 0 where
  nodes : map node_length below ≡ map (λ (u : Field). node_count u.data_type) us
  buffers : map buffer_length below ≡ map (λ (u : Field). buffer_count V5 u.data_type) us

-- of each list of fields whose types columns have
abbrev EachCounts : Columns → List Encoded → Type 0
EachCounts columns below = (us : List Field) → have_types us columns ≡ true → FieldCounts us below

struct_counts : (x : Layer) (node : ℕ × ℕ) (marks : List ℕ) (children : Columns) (below : List Encoded) → has_field_types x children ≡ true
    → EachCounts children below → HasCounts (column_over node (marks ∷ []) below) (layer_nodes x) (layer_buffers x)
struct_counts (layer.Struct (field ∷ fields)) node marks children below typed each =
    let counts = each (field ∷ fields) typed in
    over_counts node (marks ∷ []) below (map (λ (u : Field). node_count u.data_type) (field ∷ fields))
    (map (λ (u : Field). buffer_count V5 u.data_type) (field ∷ fields)) counts.nodes counts.buffers
struct_counts _ node marks children below typed each = absurd (false≢true typed)

sparse_counts : (x : Layer) (node : ℕ × ℕ) (ids : List ℕ) (children : Columns) (below : List Encoded) → has_child_types x None children ≡ true
    → EachCounts children below → HasCounts (column_over node (ids ∷ []) below) (layer_nodes x) (layer_buffers x)
sparse_counts (layer.Union us given modes.Sparse) node ids children below typed each =
    let counts = each us (and_parts (has_an_id_each given (length us)) (have_types us children) typed).1 in
    over_counts node (ids ∷ []) below (map (λ (u : Field). node_count u.data_type) us)
    (map (λ (u : Field). buffer_count V5 u.data_type) us) counts.nodes counts.buffers
sparse_counts _ node ids children below typed each = absurd (false≢true typed)

dense_counts : (x : Layer) (node : ℕ × ℕ) (ids places : List ℕ) (offsets : List ℤ) (children : Columns) (below : List Encoded)
    → has_child_types x (Some offsets) children ≡ true → EachCounts children below
    → HasCounts (column_over node (ids ∷ places ∷ []) below) (layer_nodes x) (layer_buffers x)
dense_counts (layer.Union us given modes.Dense) node ids places offsets children below typed each =
    let counts = each us (and_parts (has_an_id_each given (length us)) (have_types us children) typed).1 in
    over_counts node (ids ∷ places ∷ []) below (map (λ (u : Field). node_count u.data_type) us)
    (map (λ (u : Field). buffer_count V5 u.data_type) us) counts.nodes counts.buffers
dense_counts _ node ids places offsets children below typed each = absurd (false≢true typed)

keys_counts : (x : Layer) (node : ℕ × ℕ) (marks bytes : List ℕ) (keys : List ℤ) (values : DataType) → has_value_type x keys values ≡ true
    → HasCounts (column_over node (marks ∷ bytes ∷ []) []) (layer_nodes x) (layer_buffers x)
keys_counts (layer.Dictionary key value is_ordered) node marks bytes keys values typed = (refl, refl)
keys_counts _ node marks bytes keys values typed = absurd (false≢true typed)

-- ---- every column

mutual
  pub range_counts : (column : Column) (o n : ℕ) → is_sound column ≡ true
      → HasCounts (encode_range true column o n) (node_count (column_type column)) (buffer_count V5 (column_type column))
  range_counts (nulls t count) o n sound = by_layer_counts t (column_over (n, n) [] []) (nulls_counts (type_layer t) n sound)
  range_counts (flat t mask stored) o n sound = flat_counts t mask stored o n sound
  range_counts (lists t mask offsets child) o n sound =
      let parts = parts_of_4 (has_item_type (type_layer t) (column_type child))
      (are_offsets offsets (min (most_offset (physical_type t)) (column_len child))) (mask_fits mask (length offsets - 1)) (is_sound child) sound in
      let taken : List ℕ = cut_list offsets o (n + 1) in
      let first : ℕ = slice_index taken 0 in
      let size : ℕ = last_offset taken - slice_index taken 0 in
      by_layer_counts t (encode_range true (lists t mask offsets child) o n)
      (lists_counts (type_layer t) (node_over n (cut_mask mask o n)) (mask_bytes (cut_mask mask o n))
      (moved_bytes true (offset_width (type_layer t)) taken) (encode_range true child first size) (column_type child) parts.0
      (range_counts child first size parts.3))
  range_counts (fixed_lists t mask size child) o n sound =
      let parts = parts_of_4 (has_fixed_item_type (type_layer t) size (column_type child)) (are_pieces size (column_len child))
      (mask_fits mask (column_len child / size)) (is_sound child) sound in
      by_layer_counts t (encode_range true (fixed_lists t mask size child) o n)
      (fixed_counts (type_layer t) size (node_over n (cut_mask mask o n)) (mask_bytes (cut_mask mask o n))
      (encode_range true child (size * o) (size * n)) (column_type child) parts.0 (range_counts child (size * o) (size * n) parts.3))
  range_counts (records t mask count children) o n sound =
      let parts = parts_of_4 (has_field_types (type_layer t) children) (have_len children count) (mask_fits mask count) (are_sound children) sound in
      by_layer_counts t (encode_range true (records t mask count children) o n)
      (struct_counts (type_layer t) (node_over n (cut_mask mask o n)) (mask_bytes (cut_mask mask o n)) children (encode_ranges true children o n)
      parts.0
      (subst (λ (below : List Encoded). EachCounts children below) (sym (same_ranges children o n)) (each_counts children o (λ column. n) parts.3)))
  range_counts (unions t ids None children) o n sound =
      let parts = parts_of_5 (has_child_types (type_layer t) None children) (list_all (is_signed 8) ids) (has_places ids None children)
      (holds_below (length ids) (has_child_at (type_layer t) ids None children)) (are_sound children) sound in
      by_layer_counts t (encode_range true (unions t ids None children) o n)
      (sparse_counts (type_layer t) (n, 0) (integer_bytes true w8 (cut_list ids o n)) children (encode_ranges true children o n) parts.0
      (subst (λ (below : List Encoded). EachCounts children below) (sym (same_ranges children o n)) (each_counts children o (λ column. n) parts.4)))
  range_counts (unions t ids (Some offsets) children) o n sound =
      let parts = parts_of_5 (has_child_types (type_layer t) (Some offsets) children) (list_all (is_signed 8) ids)
      (has_places ids (Some offsets) children) (holds_below (length ids) (has_child_at (type_layer t) ids (Some offsets) children))
      (are_sound children) sound in
      by_layer_counts t (encode_range true (unions t ids (Some offsets) children) o n)
      (dense_counts (type_layer t) (n, 0) (integer_bytes true w8 (cut_list ids o n)) (integer_bytes true w32 (cut_list offsets o n)) offsets children
      (encode_wholes true children) parts.0
      (subst (λ (below : List Encoded). EachCounts children below) (sym (same_wholes children)) (each_counts children 0 column_len parts.4)))
  range_counts (dictionary t mask keys values) o n sound =
      let parts = parts_of_4 (has_value_type (type_layer t) keys (column_type values)) (mask_fits mask (length keys))
      (holds_below (length keys) (has_value_at mask keys (column_len values))) (is_sound values) sound in
      by_layer_counts t (encode_range true (dictionary t mask keys values) o n)
      (keys_counts (type_layer t) (node_over n (cut_mask mask o n)) (mask_bytes (cut_mask mask o n))
      (key_bytes true (type_layer t) (cut_list keys o n)) keys (column_type values) parts.0)

  each_counts : (columns : Columns) (o : ℕ) (len : Column → ℕ) → are_sound columns ≡ true → EachCounts columns (encode_each o len columns)
  each_counts no_column o len sound [] typed = record { nodes = refl; buffers = refl }
  each_counts no_column o len sound (u ∷ us) typed = absurd (false≢true typed)
  each_counts (column_then column columns) o len sound [] typed = absurd (false≢true typed)
  each_counts (column_then column columns) o len sound (u ∷ us) typed =
      let types = and_parts (same_type u.data_type (column_type column)) (have_types us columns) typed in
      let sounds = and_parts (is_sound column) (are_sound columns) sound in
      let here = subst (λ (d : DataType). CountsOf d (encode_range true column o (len column)))
      (sym (type_is u.data_type (column_type column) types.0)) (range_counts column o (len column) sounds.0) in
      let rest = each_counts columns o len sounds.1 us types.1 in
      record {
        nodes = ap₂ (λ (k : ℕ) ks. k ∷ ks) here.0 rest.nodes;
        buffers = ap₂ (λ (k : ℕ) ks. k ∷ ks) here.1 rest.buffers;
      }
