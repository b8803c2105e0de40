-- Columns of lists read back from what is written of them as they are stored, where their items do (Arrow columnar format, "Variable-size
-- List Layout", "Fixed-Size List Layout").
use Rattle.std.proofs.Common.{◌≡◌, ◌∙◌, ℕ, ◌+◌, ◌-◌, ◌*◌, ◌/◌, ◌≤◌, ◌<◌, ◌^◌, min, Bool, true, List, [], ◌∷◌, ◌++◌, length, take, drop, refl, sym}
use Rattle.std.proofs.Common.{ap, ap₂, subst, arith, add-one, mul-suc, ◌==◌, slice_range, slice_index}
use Rattle.std.specs.Prelude.{Option, Some, None}
use Rattle.std.specs.Int.{Width, w32, w64}
use mir.Val.{hbits}
use Rattle.std.proofs.Math.Nat.{mul-add, mul_comm, mul-le-mul_left, mul-le-mul_right, min-eq_right, min-le_left, min-le_right}
use Rattle.std.proofs.lemmas.Bool.{and_parts, eq-eqb, eqb-true, ltb-true, false≢true}
use Rattle.ipc_format_laws.specs.columnar_memory.declared.DataType.{DataType}
use Rattle.ipc_format_laws.specs.columnar_memory.declared.DataType.TheOpen as layer
use Rattle.ipc_format_laws.specs.columnar_memory.declared.DataType.TheViews.{out-DataType}
use Rattle.ipc_format_laws.specs.columnar_memory.declared.Field.{Field}
use Rattle.ipc_format_laws.specs.columnar_memory.Equality.{same_type}
use Rattle.ipc_format_laws.specs.columnar_memory.Layouts.{physical_type}
use Rattle.ipc_format_laws.specs.columns.Kinds.{most_offset}
use Rattle.ipc_format_laws.specs.columns.Slots.{Slot, items, in_slots, window}
use Rattle.ipc_format_laws.specs.columns.StoredColumns.{Column, lists, fixed_lists, unless_null, cut_list, cut_mask, column_type, column_len}
use Rattle.ipc_format_laws.specs.columns.StoredColumns.{type_layer, slot_at}
use Rattle.ipc_format_laws.specs.columns.SoundColumns.{mask_fits, are_offsets, are_pieces, is_entry, has_item_type, has_fixed_item_type, is_sound}
use Rattle.ipc_format_laws.proofs.columns_lemmas.Conditions.{parts_of_4}
use Rattle.ipc_format_laws.proofs.columns_lemmas.CutStored.{first_offset, pieces_within}
use Rattle.ipc_format_laws.proofs.columns_lemmas.TypeLayers.{Layer, layer_layout, layout_is}
use Rattle.ipc_format_laws.proofs.columns_lemmas.Windows.{length-window}
use Rattle.ipc_format_laws.specs.grammar.Messages.{V5}
use Rattle.ipc_format_laws.specs.grammar.Columns.{Place, slots_in, slots_by, taken_of, last_of, piece_at, list_slots, fixed_list_slots, first_ids}
use Rattle.ipc_format_laws.specs.grammar.Columns.{ids_below, limit_times, first_below}
use Rattle.ipc_format_laws.specs.grammar.Encoding.{Encoded, column_over}
use Rattle.ipc_format_laws.specs.grammar.StoredEncoding.{mask_bytes, node_over, last_offset, moved_offsets, moved_bytes, offset_width, encode_range}
use Rattle.ipc_format_laws.specs.Columns.{StandsAmong, HoldsColumns}
use Rattle.ipc_format_laws.proofs.Elements.{part_front, part_next, part_back}
use Rattle.ipc_format_reading_laws.specs.StoredColumns.{RangeReadsBack, HasDictionaries}
use Rattle.ipc_format_reading_laws.proofs.StoredMasks.{mask_validity, range_marked, range_slots}
use Rattle.ipc_format_reading_laws.proofs.StoredOffsets.{offsets_rise, offset_within, first_taken, last_taken, last_moved, moved_read, part_of_window}
use Rattle.ipc_format_reading_laws.proofs.StoredOffsets.{piece_of_window}
use Rattle.ipc_format_reading_laws.proofs.StoredLayers.{read_layer}
use Rattle.ipc_format_reading_laws.proofs.StoredRanges.{by_layer, type_is, min_itself}

-- ---- lists by offsets

abbrev list_at : Option (List Bool) → List ℕ → Column → ℕ → Slot
list_at mask offsets child i = unless_null mask i
    (items (in_slots (window (slot_at child) (slice_index offsets i) (slice_index offsets (i + 1) - slice_index offsets i))))

-- what is written of n lists from list o on, with offsets of a width
abbrev list_range : Width → Option (List Bool) → List ℕ → Column → ℕ → ℕ → Encoded
list_range w mask offsets child o n = let taken = cut_list offsets o (n + 1) in
    column_over (node_over n (cut_mask mask o n)) (mask_bytes (cut_mask mask o n) ∷ moved_bytes true w taken ∷ [])
    (encode_range true child (slice_index taken 0) (last_offset taken - slice_index taken 0) ∷ [])

-- what such a column says of its parts
record AreLists (mask : Option (List Bool)) (offsets : List ℕ) (limit : ℕ) (child : Column) : Type 0 where
  sound : are_offsets offsets (min limit (column_len child)) ≡ true
  marks : mask_fits mask (length offsets - 1) ≡ true
  reads : RangeReadsBack child

abbrev ListsRead : Layer → Width → Option (List Bool) → List ℕ → Column → Type 0
ListsRead x w mask offsets child = (o n : ℕ) (at : Place) (all : Encoded) → o + n ≤ length offsets - 1 → at.source.version ≡ V5
    → HoldsColumns at.source all → StandsAmong all (list_range w mask offsets child o n) at.node at.buffer → taken_of at.limit n ≡ n
    → HasDictionaries at.standing (first_ids (ids_below at.ids)) child → read_layer x at ≡ Some (window (list_at mask offsets child) o n)

back_again : (a c : ℕ) → c ≤ a → c + (a - c) ≡ a
back_again a c le = omega arith

lists_by : (w : Width) (u : Field) (mask : Option (List Bool)) (offsets : List ℕ) (child : Column) (limit : ℕ) → u.data_type ≡ column_type child
    → AreLists mask offsets limit child → limit < 2 ^ hbits w → (o n : ℕ) (at : Place) (all : Encoded) → o + n ≤ length offsets - 1
    → at.source.version ≡ V5 → HoldsColumns at.source all → StandsAmong all (list_range w mask offsets child o n) at.node at.buffer
    → taken_of at.limit n ≡ n → HasDictionaries at.standing (first_ids (ids_below at.ids)) child
    → list_slots w (u, slots_in u.data_type) at ≡ Some (window (list_at mask offsets child) o n)
unfolding list_slots
lists_by w u mask offsets child limit same are small o n at all within version holds stands whole standing =
    let bound : ℕ = min limit (column_len child) in
    let below_limit : bound ≤ limit = min-le_left limit (column_len child) in
    let below_len : bound ≤ column_len child = min-le_right limit (column_len child) in
    let c : ℕ = slice_index offsets o in
    let l : ℕ = slice_index offsets (o + n) in
    let taken : List ℕ = cut_list offsets o (n + 1) in
    let moved : List ℕ = moved_offsets taken in
    let bytes : List ℕ = moved_bytes true w taken in
    let marks : List ℕ = mask_bytes (cut_mask mask o n) in
    let below : Encoded = encode_range true child (slice_index taken 0) (last_offset taken - slice_index taken 0) in
    let below_is : below ≡ encode_range true child c (l - c) =
    ap₂ (λ a b. encode_range true child a (b - a)) (first_taken offsets o n) (last_taken offsets bound o n are.sound within) in
    let some : 1 ≤ length offsets = first_offset offsets bound are.sound in
    let rises : c ≤ l = offsets_rise offsets bound o n are.sound (omega arith) in
    let inside : l ≤ bound = offset_within offsets bound (o + n) are.sound (omega arith) in
    let marked = range_marked at all mask (length offsets - 1) o n (below.nodes ++ []) (bytes ∷ (below.buffers ++ [])) are.marks within holds
    stands.nodes stands.buffers whole in
    let found = moved_read w offsets bound o n at.source all (at.buffer + 1) (below.buffers ++ []) are.sound (omega arith) within holds
    (part_next marks (bytes ∷ (below.buffers ++ [])) stands.buffers) in
    let last : last_of moved ≡ l - c = last_moved offsets bound o n are.sound within in
    let place : Place = first_below at 2 (Some (last_of moved)) in
    let taken_whole : taken_of (Some (last_of moved)) (l - c) ≡ l - c = ap (λ m. min m (l - c)) last ∙ min_itself (l - c) in
    let here : StandsAmong all below place.node place.buffer = record {
      nodes = part_front below.nodes [] (part_next (node_over n (cut_mask mask o n)) (below.nodes ++ []) stands.nodes);
      buffers = part_front below.buffers [] (part_back (marks ∷ bytes ∷ []) (below.buffers ++ []) (at.buffer + 2) refl stands.buffers);
    } in
    let values : slots_in u.data_type place ≡ Some (window (slot_at child) c (l - c)) =
    ap (λ t. slots_in t place) same
    ∙ are.reads c (l - c) place all (omega (arith, back_again l c rises)) version holds
    (subst (λ (e : Encoded). StandsAmong all e place.node place.buffer) below_is here) taken_whole standing in
    let size : (length (window (slot_at child) c (l - c)) == last_of moved) ≡ true =
    eq-eqb (length (window (slot_at child) c (l - c))) (last_of moved) (length-window (slot_at child) c (l - c) ∙ sym last) in
    let slots : slots_by (mask_validity (cut_mask mask o n)) (λ i. items (in_slots (piece_at moved (window (slot_at child) c (l - c)) i))) n
    ≡ window (list_at mask offsets child) o n =
    range_slots mask (length offsets - 1) o n (λ i. items (in_slots (piece_at moved (window (slot_at child) c (l - c)) i)))
    (λ i. items (in_slots (window (slot_at child) (slice_index offsets i) (slice_index offsets (i + 1) - slice_index offsets i))))
    are.marks within (λ (i : ℕ) (inside : i < n) valid.
    ap (λ (xs : List Slot). items (in_slots xs)) (piece_of_window (slot_at child) offsets bound o n i are.sound within inside)) in
    rw (marked, found, values, size, slots) refl

small_below : 2 ^ 31 - 1 < 2 ^ hbits w32
small_below = ltb-true (2 ^ 31 - 1) (2 ^ hbits w32) refl

large_below : 2 ^ 63 - 1 < 2 ^ hbits w64
large_below = ltb-true (2 ^ 63 - 1) (2 ^ hbits w64) refl

lists_at : (x : Layer) (mask : Option (List Bool)) (offsets : List ℕ) (child : Column) → has_item_type x (column_type child) ≡ true
    → AreLists mask offsets (most_offset (layer_layout x)) child → ListsRead x (offset_width x) mask offsets child
lists_at (layer.List item) mask offsets child typed are =
    lists_by w32 item mask offsets child (2 ^ 31 - 1) (type_is item.data_type (column_type child) typed) are small_below
lists_at (layer.LargeList item) mask offsets child typed are =
    lists_by w64 item mask offsets child (2 ^ 63 - 1) (type_is item.data_type (column_type child) typed) are large_below
lists_at (layer.Map entry is_sorted) mask offsets child typed are =
    lists_by w32 entry mask offsets child (2 ^ 31 - 1) (type_is entry.data_type (column_type child)
    (and_parts (same_type entry.data_type (column_type child)) (is_entry (out-DataType (column_type child))) typed).0) are small_below
lists_at _ mask offsets child typed are = absurd (false≢true typed)

pub lists_reads_back : (t : DataType) (mask : Option (List Bool)) (offsets : List ℕ) (child : Column)
    → is_sound (lists t mask offsets child) ≡ true → RangeReadsBack child → RangeReadsBack (lists t mask offsets child)
lists_reads_back t mask offsets child sound reads o n at all within version holds stands whole standing =
    let limit = min (most_offset (physical_type t)) (column_len child) in
    let parts = parts_of_4 (has_item_type (type_layer t) (column_type child)) (are_offsets offsets limit) (mask_fits mask (length offsets - 1))
    (is_sound child) sound in
    let offsets_sound : are_offsets offsets (min (most_offset (layer_layout (type_layer t))) (column_len child)) ≡ true =
    ap (λ p. are_offsets offsets (min (most_offset p) (column_len child))) (sym (layout_is t)) ∙ parts.1 in
    by_layer t at (window (list_at mask offsets child) o n)
    (lists_at (type_layer t) mask offsets child parts.0 (record { sound = offsets_sound; marks = parts.2; reads = reads }) o n at all within version
    holds stands whole standing)

-- ---- lists of one size

abbrev fixed_list_at : Option (List Bool) → ℕ → Column → ℕ → Slot
fixed_list_at mask size child i = unless_null mask i (items (in_slots (window (slot_at child) (size * i) size)))

abbrev fixed_range : Option (List Bool) → ℕ → Column → ℕ → ℕ → Encoded
fixed_range mask size child o n =
    column_over (node_over n (cut_mask mask o n)) (mask_bytes (cut_mask mask o n) ∷ []) (encode_range true child (size * o) (size * n) ∷ [])

-- a limit that takes all slots takes all their items
times_taken : (limit : Option ℕ) (count size : ℕ) → taken_of limit count ≡ count → taken_of (limit_times limit size) (size * count) ≡ size * count
times_taken None count size whole = refl
times_taken (Some limit) count size whole =
    let enough : count ≤ limit = subst (λ (m : ℕ). m ≤ limit) whole (min-le_left limit count) in
    ap (min (limit * size)) (mul_comm size count) ∙ min-eq_right (mul-le-mul_right size enough) ∙ mul_comm count size

width_of : (a size : ℕ) → a + size - a ≡ size
width_of a size = omega arith

one_of_all : (size n i : ℕ) → i < n → size * i + size ≤ size * n
one_of_all size n i inside = omega (arith, mul-add size i 1, mul-le-mul_left {m = i + 1} {n = n} size (omega arith))

fixed_by : (u : Field) (mask : Option (List Bool)) (size : ℕ) (child : Column) → u.data_type ≡ column_type child
    → mask_fits mask (column_len child / size) ≡ true → RangeReadsBack child → (o n : ℕ) (at : Place) (all : Encoded)
    → o + n ≤ column_len child / size → at.source.version ≡ V5 → HoldsColumns at.source all
    → StandsAmong all (fixed_range mask size child o n) at.node at.buffer → taken_of at.limit n ≡ n
    → HasDictionaries at.standing (first_ids (ids_below at.ids)) child
    → fixed_list_slots size (u, slots_in u.data_type) at ≡ Some (window (fixed_list_at mask size child) o n)
unfolding fixed_list_slots
fixed_by u mask size child same marked_whole reads o n at all within version holds stands whole standing =
    let len : ℕ = column_len child / size in
    let marks : List ℕ = mask_bytes (cut_mask mask o n) in
    let below : Encoded = encode_range true child (size * o) (size * n) in
    let joined : List Slot = window (slot_at child) (size * o) (size * n) in
    let marked = range_marked at all mask len o n (below.nodes ++ []) (below.buffers ++ []) marked_whole within holds stands.nodes stands.buffers
    whole in
    let place : Place = first_below at 1 (limit_times at.limit size) in
    let values : slots_in u.data_type place ≡ Some joined =
    ap (λ t. slots_in t place) same
    ∙ reads (size * o) (size * n) place all (pieces_within size (column_len child) o n within) version holds (record {
      nodes = part_front below.nodes [] (part_next (node_over n (cut_mask mask o n)) (below.nodes ++ []) stands.nodes);
      buffers = part_front below.buffers [] (part_next marks (below.buffers ++ []) stands.buffers);
    }) (times_taken at.limit n size whole) standing in
    let test : (length joined == n * size) ≡ true =
    eq-eqb (length joined) (n * size) (length-window (slot_at child) (size * o) (size * n) ∙ mul_comm size n) in
    let slots : slots_by (mask_validity (cut_mask mask o n)) (λ i. items (in_slots (slice_range joined (size * i) (size * (i + 1))))) n
    ≡ window (fixed_list_at mask size child) o n =
    range_slots mask len o n (λ i. items (in_slots (slice_range joined (size * i) (size * (i + 1)))))
    (λ i. items (in_slots (window (slot_at child) (size * i) size))) marked_whole within (λ (i : ℕ) (inside : i < n) valid.
    let end : size * (i + 1) ≡ size * i + size = ap (λ j. size * j) (add-one i) ∙ mul-suc size i in
    let width : size * (i + 1) - size * i ≡ size = ap (λ j. j - size * i) end ∙ width_of (size * i) size in
    ap (λ m. items (in_slots (take m (drop (size * i) joined)))) width
    ∙ ap (λ (xs : List Slot). items (in_slots xs))
    (part_of_window (slot_at child) (size * o) (size * n) (size * i) size (one_of_all size n i inside)
    ∙ ap (λ k. window (slot_at child) k size) (sym (mul-add size o i)))) in
    rw (marked, values, test, slots) refl

fixed_at : (x : Layer) (mask : Option (List Bool)) (size : ℕ) (child : Column) → has_fixed_item_type x size (column_type child) ≡ true
    → mask_fits mask (column_len child / size) ≡ true → RangeReadsBack child → (o n : ℕ) (at : Place) (all : Encoded)
    → o + n ≤ column_len child / size → at.source.version ≡ V5 → HoldsColumns at.source all
    → StandsAmong all (fixed_range mask size child o n) at.node at.buffer → taken_of at.limit n ≡ n
    → HasDictionaries at.standing (first_ids (ids_below at.ids)) child → read_layer x at ≡ Some (window (fixed_list_at mask size child) o n)
fixed_at (layer.FixedSizeList item stated) mask size child typed marks reads o n at all within version holds stands whole standing =
    let parts = and_parts (stated == size) (same_type item.data_type (column_type child)) typed in
    let same : stated ≡ size = size_is stated size parts.0 in
    ap (λ k. fixed_list_slots k (item, slots_in item.data_type) at) same
    ∙ fixed_by item mask size child (type_is item.data_type (column_type child) parts.1) marks reads o n at all within version holds stands whole
    standing
  where
    size_is : (a b : ℕ) → (a == b) ≡ true → a ≡ b
    size_is a b h = eqb-true a b h
fixed_at _ mask size child typed marks reads o n at all within version holds stands whole standing = absurd (false≢true typed)

pub fixed_lists_reads_back : (t : DataType) (mask : Option (List Bool)) (size : ℕ) (child : Column)
    → is_sound (fixed_lists t mask size child) ≡ true → RangeReadsBack child → RangeReadsBack (fixed_lists t mask size child)
fixed_lists_reads_back t mask size child sound reads o n at all within version holds stands whole standing =
    let parts = parts_of_4 (has_fixed_item_type (type_layer t) size (column_type child)) (are_pieces size (column_len child))
    (mask_fits mask (column_len child / size)) (is_sound child) sound in
    by_layer t at (window (fixed_list_at mask size child) o n)
    (fixed_at (type_layer t) mask size child parts.0 parts.2 reads o n at all within version holds stands whole standing)
