-- The nodes and buffers of written columns, counted.
use Rattle.std.proofs.Common.{◌≡◌, ℕ, zero, suc, ◌+◌, List, [], ◌∷◌, length, map, take, refl, sym, ap, ◌∙◌, subst, Bool, true, false, arith}
use Rattle.std.proofs.Common.{length-append}
use Rattle.std.specs.Prelude.{Option, Some, sum_by, slice_get, unwrap_or}
use Rattle.std.specs.List.{flat_map, list_all}
use Rattle.std.specs.Int.{Width, w32, w64}
use Rattle.std.proofs.lemmas.Bool.{and_parts, both_ways}
use Rattle.std.proofs.lemmas.List.Sums.{sum_by-cons}
use Rattle.ipc_format_grammar.specs.columnar_memory.declared.DataType.{DataType, map-DataType}
use Rattle.ipc_format_grammar.specs.columnar_memory.declared.DataType.TheOpen as layer
use Rattle.ipc_format_grammar.specs.columnar_memory.declared.DataType.TheFolds.{fold-Field, fold-roll-DataType, fold-roll-Field, ind-DataType}
use Rattle.ipc_format_grammar.specs.columnar_memory.declared.DataType.TheViews.{roll-DataType, roll-Field}
use Rattle.ipc_format_grammar.specs.columnar_memory.declared.Field.{Field, map-Field}
use Rattle.ipc_format_grammar.specs.columnar_memory.declared.IntervalUnit.TheVariants as intervals
use Rattle.ipc_format_grammar.specs.columns.Slots.{Slot}
use Rattle.ipc_format_grammar.specs.columns.Children.{items_of, joined_items, joined_fixed_items, field_slots}
use Rattle.ipc_format_grammar.specs.Messages.{V5}
use Rattle.ipc_format_grammar.specs.Layouts.{total, node_step, node_count, buffer_step, buffer_count}
use Rattle.ipc_format_grammar.specs.Encoding.{Encoded, Encoder, encode, encode_step, joined_columns, column_over, node_of, list_column, field_columns}
use Rattle.ipc_format_grammar.specs.Buffers.{validity_bytes, offset_bytes}
use Rattle.ipc_format_grammar.specs.WrittenStreams.{columns_of_slots}
use Rattle.ipc_format_laws.specs.NormalForm.{all_of}
use Rattle.ipc_format_laws.specs.Counts.{has_no_union_step, has_no_union, HasCounts, ColumnCounts, BatchCounts, NextNumbers}

-- ---- columns over columns

abbrev node_length : Encoded → ℕ
node_length column = length column.nodes

abbrev buffer_length : Encoded → ℕ
buffer_length column = length column.buffers

total_lengths : {A : Type 0} (f : Encoded → List A) (below : List Encoded) → length (flat_map f below)
    ≡ total (map (λ (c : Encoded). length (f c)) below)
total_lengths f [] = refl
total_lengths f (c ∷ cs) =
    length-append (f c) (flat_map f cs) ∙ ap (λ n. length (f c) + n) (total_lengths f cs)
    ∙ sym (sum_by-cons (λ (n : ℕ). n) (length (f c)) (map (λ (c : Encoded). length (f c)) cs))

one_and : (n : ℕ) → suc n ≡ 1 + n
one_and n = omega arith

over_counts : (node : ℕ × ℕ) (buffers : List (List ℕ)) (below : List Encoded) (ns ms : List ℕ) → map node_length below ≡ ns
    → map buffer_length below ≡ ms
    → HasCounts (column_over node buffers below) (1 + total ns) (length buffers + total ms)
over_counts node buffers below ns ms nodes_are buffers_are = (
  ap suc (total_lengths (λ (c : Encoded). c.nodes) below ∙ ap total nodes_are) ∙ one_and (total ns),
  length-append buffers (flat_map (λ (c : Encoded). c.buffers) below)
      ∙ ap (λ n. length buffers + n) (total_lengths (λ (c : Encoded). c.buffers) below ∙ ap total buffers_are),
)

one_counts : (node : ℕ × ℕ) (buffers : List (List ℕ)) (below : Encoded) (n m : ℕ) → HasCounts below n m
    → HasCounts (column_over node buffers (below ∷ [])) (1 + total (n ∷ [])) (length buffers + total (m ∷ []))
one_counts node buffers below n m h = over_counts node buffers (below ∷ []) (n ∷ []) (m ∷ []) (ap (λ k. k ∷ []) h.0) (ap (λ k. k ∷ []) h.1)

list_counts : (w : Width) (item : Encoder) (slots : List Slot) (n m : ℕ) → HasCounts (item (joined_items slots)) n m
    → HasCounts (list_column w item slots) (1 + total (n ∷ [])) (2 + total (m ∷ []))
list_counts w item slots n m h =
    one_counts (node_of slots) (validity_bytes slots ∷ offset_bytes w (map (λ slot. length (items_of slot)) slots) ∷ []) (item
    (joined_items slots)) n m h

nothing_more : (n : ℕ) → n ≡ 0 + total (n ∷ [])
nothing_more n = omega arith

-- ---- one layer

abbrev no_union_field : Field → Bool
no_union_field = fold-Field Bool Bool has_no_union_step (λ field. field.data_type)

abbrev encode_field : Field → Encoder
encode_field = fold-Field Encoder Encoder encode_step (λ field. field.data_type)

abbrev field_nodes : Field → ℕ
field_nodes = fold-Field ℕ ℕ node_step (λ field. field.data_type)

abbrev field_buffers : Field → ℕ
field_buffers = fold-Field ℕ ℕ (buffer_step V5) (λ field. field.data_type)

abbrev Counts : DataType → Type 0
Counts t = has_no_union t ≡ true → (slots : List Slot) → HasCounts (encode t slots) (node_count t) (buffer_count V5 t)

abbrev FieldCounts : Field → Type 0
FieldCounts u = no_union_field u ≡ true → (slots : List Slot) → HasCounts (encode_field u slots) (field_nodes u) (field_buffers u)

abbrev D : Type 0
D = (t : DataType) × Counts t

abbrev F : Type 0
F = (u : Field) × FieldCounts u

abbrev Layer : Type 0
Layer = layer.DataType-F DataType Field

abbrev plain_layer : layer.DataType-F D F → Layer
plain_layer y = map-DataType D F DataType Field (λ e. e.0) (λ e. e.0) y

abbrev no_union_in : Layer → Bool
no_union_in x = has_no_union_step (map-DataType DataType Field Bool Bool has_no_union no_union_field x)

abbrev encode_layer : Layer → Encoder
encode_layer x = encode_step (map-DataType DataType Field Encoder Encoder encode encode_field x)

abbrev layer_nodes : Layer → ℕ
layer_nodes x = node_step (map-DataType DataType Field ℕ ℕ node_count field_nodes x)

abbrev layer_buffers : Layer → ℕ
layer_buffers x = buffer_step V5 (map-DataType DataType Field ℕ ℕ (buffer_count V5) field_buffers x)

columns_counts : (ys : List F) (slots : List Slot) (k : ℕ) → all_of (map no_union_field (map (λ e. e.0) ys)) ≡ true
    → (map node_length (field_columns (map encode_field (map (λ e. e.0) ys)) slots k) ≡ map field_nodes (map (λ e. e.0) ys))
    × (map buffer_length (field_columns (map encode_field (map (λ e. e.0) ys)) slots k) ≡ map field_buffers (map (λ e. e.0) ys))
columns_counts [] slots k h = (refl, refl)
columns_counts (y ∷ ys) slots k h =
    let parts = and_parts (no_union_field y.0) (all_of (map no_union_field (map (λ e. e.0) ys))) h in
    let here = y.1 parts.0 (field_slots slots k) in
    let rest = columns_counts ys slots (suc k) parts.1 in
    ((λ j. here.0 j ∷ rest.0 j), (λ j. here.1 j ∷ rest.1 j))

alone : (b : Bool) → all_of (b ∷ []) ≡ true → b ≡ true
alone b h = (and_parts b true h).0

step_counts : (y : layer.DataType-F D F) → no_union_in (plain_layer y) ≡ true → (slots : List Slot)
    → HasCounts (encode_layer (plain_layer y) slots) (layer_nodes (plain_layer y)) (layer_buffers (plain_layer y))
step_counts (layer.Interval intervals.YearMonth) h slots = (refl, refl)
step_counts (layer.Interval intervals.DayTime) h slots = (refl, refl)
step_counts (layer.Interval intervals.MonthDayNano) h slots = (refl, refl)
step_counts (layer.List item) h slots =
    list_counts w32 (encode_field item.0) slots (field_nodes item.0) (field_buffers item.0) (item.1 (alone (no_union_field item.0) h)
    (joined_items slots))
step_counts (layer.LargeList item) h slots =
    list_counts w64 (encode_field item.0) slots (field_nodes item.0) (field_buffers item.0) (item.1 (alone (no_union_field item.0) h)
    (joined_items slots))
step_counts (layer.Map entry is_sorted) h slots =
    list_counts w32 (encode_field entry.0) slots (field_nodes entry.0) (field_buffers entry.0) (entry.1 (alone (no_union_field entry.0) h)
    (joined_items slots))
step_counts (layer.FixedSizeList item size) h slots =
    one_counts (node_of slots) (validity_bytes slots ∷ []) (encode_field item.0 (joined_fixed_items size slots)) (field_nodes item.0)
    (field_buffers item.0) (item.1 (alone (no_union_field item.0) h) (joined_fixed_items size slots))
step_counts (layer.Struct children) h slots =
    let below = columns_counts children slots 0 h in
    over_counts (node_of slots) (validity_bytes slots ∷ []) (field_columns (map encode_field (map (λ e. e.0) children)) slots 0)
    (map field_nodes (map (λ e. e.0) children)) (map field_buffers (map (λ e. e.0) children)) below.0 below.1
step_counts (layer.Union children ids mode) h slots = absurd (both_ways false refl h)
step_counts (layer.Extension name inner metadata) h slots =
    let below = inner.1 (alone (has_no_union inner.0) h) slots in
    (below.0 ∙ nothing_more (node_count inner.0), below.1 ∙ nothing_more (buffer_count V5 inner.0))
step_counts _ h slots = (refl, refl)

layer_counts : (x : Layer) (y : layer.DataType-F D F) → plain_layer y ≡ x → Counts (roll-DataType x)
layer_counts x y is h slots =
    let all : (no_union_in x ≡ true → (slots : List Slot) → HasCounts (encode_layer x slots) (layer_nodes x) (layer_buffers x)) =
    subst (λ (x : Layer). no_union_in x ≡ true → (slots : List Slot)
    → HasCounts (encode_layer x slots) (layer_nodes x) (layer_buffers x)) is (step_counts y) in
    let here = all (sym (fold-roll-DataType Bool Bool has_no_union_step (λ field. field.data_type) x) ∙ h) slots in
    let same : encode (roll-DataType x) ≡ encode_layer x = fold-roll-DataType Encoder Encoder encode_step (λ field. field.data_type) x in (
      ap (λ (e : Encoder). length (e slots).nodes) same ∙ here.0 ∙ sym (fold-roll-DataType ℕ ℕ node_step (λ field. field.data_type) x),
      ap (λ (e : Encoder). length (e slots).buffers) same ∙ here.1 ∙ sym (fold-roll-DataType ℕ ℕ (buffer_step V5) (λ field. field.data_type) x),
    )

field_counts : (x : layer.Field-F DataType Field) (y : layer.Field-F D F) → map-Field D F DataType Field (λ e. e.0) (λ e. e.0) y ≡ x
    → FieldCounts (roll-Field x)
field_counts x y is h slots =
    let all : Counts x.data_type = subst Counts (ap (λ (x : layer.Field-F DataType Field). x.data_type) is) y.data_type.1 in
    let here = all (sym (fold-roll-Field Bool Bool has_no_union_step (λ field. field.data_type) x) ∙ h) slots in
    let same : encode_field (roll-Field x) ≡ encode x.data_type = fold-roll-Field Encoder Encoder encode_step (λ field. field.data_type) x in (
      ap (λ (e : Encoder). length (e slots).nodes) same ∙ here.0 ∙ sym (fold-roll-Field ℕ ℕ node_step (λ field. field.data_type) x),
      ap (λ (e : Encoder). length (e slots).buffers) same ∙ here.1 ∙ sym (fold-roll-Field ℕ ℕ (buffer_step V5) (λ field. field.data_type) x),
    )

type_counts : (t : DataType) → Counts t
type_counts = ind-DataType Counts FieldCounts (λ x y is. layer_counts x y is) (λ x y is. field_counts x y is)

pub column_counts : ColumnCounts
column_counts t slots h = type_counts t h slots

-- ---- batches

none_is_one : (n : ℕ) → 0 ≡ suc n → ⊥
none_is_one n h = omega arith

one_less : (m n : ℕ) → suc m ≡ suc n → m ≡ n
one_less m n h = omega arith

pub batch_counts : BatchCounts
batch_counts [] columns h same = (refl, refl)
batch_counts (field ∷ fields) [] h same = absurd (none_is_one (length fields) same)
batch_counts (field ∷ fields) (column ∷ columns) h same =
    let parts = and_parts (has_no_union field.data_type) (list_all (λ (field : Field). has_no_union field.data_type) fields) h in
    let here = column_counts field.data_type column parts.0 in
    let others = columns_of_slots fields columns in
    let rest = batch_counts fields columns parts.1 (one_less (length columns) (length fields) same) in (
      length-append (encode field.data_type column).nodes (joined_columns others).nodes ∙ (λ j. here.0 j + rest.0 j)
          ∙ sym (sum_by-cons (λ (field : Field). node_count field.data_type) field (take (length fields) fields)),
      length-append (encode field.data_type column).buffers (joined_columns others).buffers ∙ (λ j. here.1 j + rest.1 j)
          ∙ sym (sum_by-cons (λ (field : Field). buffer_count V5 field.data_type) field (take (length fields) fields)),
    )

-- ---- one more field

associates : (a b c : ℕ) → a + (b + c) ≡ a + b + c
associates a b c = omega arith

sum_next : (g : Field → ℕ) (fields : List Field) (k : ℕ) (field : Field) → slice_get fields k ≡ Some field
    → sum_by g (take (suc k) fields) ≡ sum_by g (take k fields) + g field
sum_next g [] k field is = absurd cc
sum_next g (first ∷ fields) zero field is = ap (λ (o : Option Field). 0 + g (unwrap_or o first)) is
sum_next g (first ∷ fields) (suc k) field is =
    sum_by-cons g first (take (suc k) fields) ∙ ap (λ n. g first + n) (sum_next g fields k field is)
    ∙ associates (g first) (sum_by g (take k fields)) (g field) ∙ ap (λ n. n + g field) (sym (sum_by-cons g first (take k fields)))

pub next_numbers : NextNumbers
next_numbers version fields k field is = (
  sum_next (λ (field : Field). node_count field.data_type) fields k field is,
  sum_next (λ (field : Field). buffer_count version field.data_type) fields k field is,
)
